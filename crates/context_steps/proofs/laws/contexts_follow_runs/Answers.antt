use Rattle.context_steps.proofs.Contexts.{contexts_follow_runs}
use Rattle.context_steps.proofs.laws.contexts_follow_runs.Goals as goal

pub returns : goal.returns
returns c = contexts_follow_runs
