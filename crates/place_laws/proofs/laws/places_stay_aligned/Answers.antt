use Rattle.place_laws.proofs.Aligning.{stay_aligned}
use Rattle.place_laws.proofs.laws.places_stay_aligned.Goals as goal

pub returns : goal.returns
returns c = stay_aligned
