use Rattle.closed_steps.proofs.Following.{runs_follow_closed_states}
use Rattle.closed_steps.proofs.laws.runs_follow_closed_states.Goals as goal

pub returns : goal.returns
returns c = runs_follow_closed_states
