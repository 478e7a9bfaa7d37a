use Rattle.stack_laws.proofs.Runs.{runs_followed}
use Rattle.stack_laws.proofs.laws.runs_are_followed.Goals as goal

pub returns : goal.returns
returns c = runs_followed
