use Rattle.sparc_text.proofs.Rising.{one_listing}
use Rattle.sparc_text.proofs.laws.listing_is_one.Goals as goal

pub returns : goal.returns
returns c = one_listing
