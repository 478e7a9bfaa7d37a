use Rattle.call_laws.proofs.Risings.{reason_lists}
use Rattle.call_laws.proofs.laws.reason_lists_are_one.Goals as goal

pub returns : goal.returns
returns c = reason_lists
