use Rattle.transfer_rules.proofs.Closing.{closed_has_three}
use Rattle.transfer_rules.proofs.laws.closed_has_three.Goals as goal

pub returns : goal.returns
returns c = closed_has_three
