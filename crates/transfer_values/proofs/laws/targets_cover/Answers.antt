use Rattle.transfer_values.proofs.CoverLemmas.{targets_cover}
use Rattle.transfer_values.proofs.laws.targets_cover.Goals as goal

pub returns : goal.returns
returns c = targets_cover
