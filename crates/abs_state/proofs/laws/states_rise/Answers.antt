use Rattle.abs_state.proofs.OrderLemmas.{states_rise}
use Rattle.abs_state.proofs.laws.states_rise.Goals as goal

pub returns : goal.returns
returns c = states_rise
