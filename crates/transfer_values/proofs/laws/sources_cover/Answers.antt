use Rattle.transfer_values.proofs.CoverLemmas.{sources_cover}
use Rattle.transfer_values.proofs.laws.sources_cover.Goals as goal

pub returns : goal.returns
returns c = sources_cover
