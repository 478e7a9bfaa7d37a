use Rattle.transfer_rules.proofs.Giving.{only_places_give}
use Rattle.transfer_rules.proofs.laws.only_places_give.Goals as goal

pub returns : goal.returns
returns c = only_places_give
