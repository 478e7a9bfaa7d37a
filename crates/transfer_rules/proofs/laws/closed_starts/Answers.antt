use Rattle.transfer_rules.proofs.Closing.{closed_starts}
use Rattle.transfer_rules.proofs.laws.closed_starts.Goals as goal

pub returns : goal.returns
returns c = closed_starts
