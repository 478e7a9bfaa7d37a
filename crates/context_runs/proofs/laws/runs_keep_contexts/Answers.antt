use Rattle.context_runs.proofs.Spent.{runs_keep_contexts}
use Rattle.context_runs.proofs.laws.runs_keep_contexts.Goals as goal

pub returns : goal.returns
returns c = runs_keep_contexts
