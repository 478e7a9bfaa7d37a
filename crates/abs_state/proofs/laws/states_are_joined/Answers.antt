use Rattle.abs_state.proofs.JoinLemmas.{states_are_joined}
use Rattle.abs_state.proofs.laws.states_are_joined.Goals as goal

pub returns : goal.returns
returns c = states_are_joined
