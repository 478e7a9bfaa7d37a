use Rattle.graph_view.proofs.Recursion as recursion
use Rattle.graph_view.proofs.laws.cycle_calls_lead_back.Goals as goal

pub returns : goal.returns
returns c = recursion.cycle_calls_lead_back
