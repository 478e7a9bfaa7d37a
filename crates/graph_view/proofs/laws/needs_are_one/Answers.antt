use Rattle.graph_view.proofs.Recursion as recursion
use Rattle.graph_view.proofs.laws.needs_are_one.Goals as goal

pub returns : goal.returns
returns c = recursion.needs_are_one
