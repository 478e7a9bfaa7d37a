use Rattle.context_bounds.proofs.Passes.{contexts_pass}
use Rattle.context_bounds.proofs.laws.contexts_pass.Goals as goal

pub returns : goal.returns
returns c = contexts_pass
