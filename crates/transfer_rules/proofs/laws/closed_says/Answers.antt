use Rattle.transfer_rules.proofs.Closing.{closed_says}
use Rattle.transfer_rules.proofs.laws.closed_says.Goals as goal

pub returns : goal.returns
returns c = closed_says
