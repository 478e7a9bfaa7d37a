use Rattle.closed_steps.proofs.Covering.{graphs_cover_steps}
use Rattle.closed_steps.proofs.laws.graphs_cover_steps.Goals as goal

pub returns : goal.returns
returns c = graphs_cover_steps
