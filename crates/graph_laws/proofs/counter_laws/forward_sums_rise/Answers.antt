use Rattle.graph_laws.proofs.Sums.{forward_rise}
use Rattle.graph_laws.proofs.counter_laws.forward_sums_rise.Goals as goal

pub returns : goal.returns
returns c = forward_rise
