use Rattle.callee_context.proofs.Listed.{needed_are_listed}
use Rattle.callee_context.proofs.laws.needed_are_listed.Goals as goal

pub returns : goal.returns
returns c = needed_are_listed
