use Rattle.bound_task.proofs.Excluding.{outcomes_are_few, outcomes_are_matched, too_many_are_matched}
use Rattle.bound_task.proofs.laws.answers_exclude_each_other.Goals as goal

pub returns-clause-matched : goal.returns-clause-matched
returns-clause-matched c = outcomes_are_matched

pub returns-clause-few : goal.returns-clause-few
returns-clause-few c = outcomes_are_few

pub returns-clause-contexts : goal.returns-clause-contexts
returns-clause-contexts c = too_many_are_matched
