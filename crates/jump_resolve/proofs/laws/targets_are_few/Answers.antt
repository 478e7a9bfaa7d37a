use Rattle.jump_resolve.proofs.TargetLemmas.{targets_are_few}
use Rattle.jump_resolve.proofs.laws.targets_are_few.Goals as goal

pub returns : goal.returns
returns c = targets_are_few
