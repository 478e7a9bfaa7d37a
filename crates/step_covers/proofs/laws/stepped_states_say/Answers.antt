use Rattle.step_covers.proofs.StateLemmas.{steps_say}
use Rattle.step_covers.proofs.laws.stepped_states_say.Goals as goal

pub returns : goal.returns
returns c = steps_say
