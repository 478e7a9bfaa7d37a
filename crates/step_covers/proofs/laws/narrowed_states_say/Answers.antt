use Rattle.step_covers.proofs.StateLemmas.{narrows_say}
use Rattle.step_covers.proofs.laws.narrowed_states_say.Goals as goal

pub returns : goal.returns
returns c = narrows_say
