use Rattle.call_laws.proofs.WorkedCalls.{reasons}
use Rattle.call_laws.proofs.worked_calls.worked_reasons.Goals as goal

pub returns : goal.returns
returns c = reasons
