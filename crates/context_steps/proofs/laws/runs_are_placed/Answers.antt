use Rattle.context_steps.proofs.Contexts.{runs_are_placed}
use Rattle.context_steps.proofs.laws.runs_are_placed.Goals as goal

pub returns : goal.returns
returns c = runs_are_placed
