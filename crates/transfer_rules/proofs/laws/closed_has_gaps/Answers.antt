use Rattle.transfer_rules.proofs.Closing.{closed_has_gaps}
use Rattle.transfer_rules.proofs.laws.closed_has_gaps.Goals as goal

pub returns : goal.returns
returns c = closed_has_gaps
