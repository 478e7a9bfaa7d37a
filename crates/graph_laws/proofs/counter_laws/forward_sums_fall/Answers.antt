use Rattle.graph_laws.proofs.Sums.{forward_fall}
use Rattle.graph_laws.proofs.counter_laws.forward_sums_fall.Goals as goal

pub returns : goal.returns
returns c = forward_fall
