use Rattle.transfer_rules.proofs.Closing.{closed_calls}
use Rattle.transfer_rules.proofs.laws.closed_calls.Goals as goal

pub returns : goal.returns
returns c = closed_calls
