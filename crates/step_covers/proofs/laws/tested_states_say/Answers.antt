use Rattle.step_covers.proofs.StateLemmas.{tests_say}
use Rattle.step_covers.proofs.laws.tested_states_say.Goals as goal

pub returns : goal.returns
returns c = tests_say
