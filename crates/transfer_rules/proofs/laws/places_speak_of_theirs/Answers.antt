use Rattle.transfer_rules.proofs.Giving.{places_speak_of_theirs}
use Rattle.transfer_rules.proofs.laws.places_speak_of_theirs.Goals as goal

pub returns : goal.returns
returns c = places_speak_of_theirs
