use Rattle.abs_state.proofs.OrderLemmas.{states_are_ordered}
use Rattle.abs_state.proofs.laws.states_are_ordered.Goals as goal

pub returns : goal.returns
returns c = states_are_ordered
