use Rattle.jump_resolve.proofs.TargetLemmas.{targets_rise}
use Rattle.jump_resolve.proofs.laws.targets_rise.Goals as goal

pub returns : goal.returns
returns c = targets_rise
