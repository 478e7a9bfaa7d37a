use Rattle.call_laws.proofs.WorkedCalls.{chains}
use Rattle.call_laws.proofs.worked_calls.worked_chains_end.Goals as goal

pub returns : goal.returns
returns c = chains
