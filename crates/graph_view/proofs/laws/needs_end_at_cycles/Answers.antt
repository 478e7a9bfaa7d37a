use Rattle.graph_view.proofs.Recursion as recursion
use Rattle.graph_view.proofs.laws.needs_end_at_cycles.Goals as goal

pub returns : goal.returns
returns c = recursion.needs_end_at_cycles
