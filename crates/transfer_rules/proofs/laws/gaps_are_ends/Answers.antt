use Rattle.transfer_rules.proofs.Giving.{gaps_are_ends}
use Rattle.transfer_rules.proofs.laws.gaps_are_ends.Goals as goal

pub returns : goal.returns
returns c = gaps_are_ends
