use Rattle.step_covers.proofs.DoLemmas.{steps_do}
use Rattle.step_covers.proofs.laws.steps_do_acts.Goals as goal

pub returns : goal.returns
returns c = steps_do
