use Rattle.transfer_rules.proofs.Giving.{writes_are_said}
use Rattle.transfer_rules.proofs.laws.writes_are_said.Goals as goal

pub returns : goal.returns
returns c = writes_are_said
