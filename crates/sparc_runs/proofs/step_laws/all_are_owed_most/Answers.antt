use Rattle.sparc_runs.proofs.StepLaws.{owed_most}
use Rattle.sparc_runs.proofs.step_laws.all_are_owed_most.Goals as goal

pub returns : goal.returns
returns c = owed_most
