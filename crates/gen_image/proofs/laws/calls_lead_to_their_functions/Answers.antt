use Rattle.gen_image.proofs.Places.{calls_lead}
use Rattle.gen_image.proofs.laws.calls_lead_to_their_functions.Goals as goal

pub returns : goal.returns
returns c = calls_lead
