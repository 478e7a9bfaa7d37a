use Rattle.call_laws.proofs.WorkedCalls.{plains}
use Rattle.call_laws.proofs.worked_calls.worked_plain.Goals as goal

pub returns : goal.returns
returns c = plains
