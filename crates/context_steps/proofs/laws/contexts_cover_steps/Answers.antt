use Rattle.context_steps.proofs.Contexts.{contexts_cover_steps}
use Rattle.context_steps.proofs.laws.contexts_cover_steps.Goals as goal

pub returns : goal.returns
returns c = contexts_cover_steps
