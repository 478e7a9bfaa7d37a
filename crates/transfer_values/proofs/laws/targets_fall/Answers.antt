use Rattle.transfer_values.proofs.ResolveLemmas.{targets_fall}
use Rattle.transfer_values.proofs.laws.targets_fall.Goals as goal

pub returns : goal.returns
returns c = targets_fall
