use Rattle.context_steps.proofs.Contexts.{runs_spend_bounds}
use Rattle.context_steps.proofs.laws.runs_spend_bounds.Goals as goal

pub returns : goal.returns
returns c = runs_spend_bounds
