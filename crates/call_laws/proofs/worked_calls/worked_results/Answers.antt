use Rattle.call_laws.proofs.WorkedCalls.{results}
use Rattle.call_laws.proofs.worked_calls.worked_results.Goals as goal

pub returns : goal.returns
returns c = results
