use Rattle.call_laws.proofs.WorkedCalls.{neededs}
use Rattle.call_laws.proofs.worked_calls.worked_needed.Goals as goal

pub returns : goal.returns
returns c = neededs
