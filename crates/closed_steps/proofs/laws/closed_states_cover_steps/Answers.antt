use Rattle.closed_steps.proofs.Covering.{closed_states_cover_steps}
use Rattle.closed_steps.proofs.laws.closed_states_cover_steps.Goals as goal

pub returns : goal.returns
returns c = closed_states_cover_steps
