use Rattle.bound_task.proofs.Answering.{outcomes_hold}
use Rattle.bound_task.proofs.laws.outcomes_hold.Goals as goal

pub returns : goal.returns
returns c = outcomes_hold
