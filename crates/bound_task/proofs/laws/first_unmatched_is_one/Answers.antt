use Rattle.bound_task.proofs.Excluding.{first_unmatched_is_one}
use Rattle.bound_task.proofs.laws.first_unmatched_is_one.Goals as goal

pub returns : goal.returns
returns c = first_unmatched_is_one
