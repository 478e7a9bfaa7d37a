use Rattle.state_covers.proofs.CoverLemmas.{entries_cover}
use Rattle.state_covers.proofs.laws.entries_cover.Goals as goal

pub returns : goal.returns
returns c = entries_cover
