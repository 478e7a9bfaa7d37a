use Rattle.context_bounds.proofs.Shapes.{views_are_shapes}
use Rattle.context_bounds.proofs.laws.views_are_shapes.Goals as goal

pub returns : goal.returns
returns c = views_are_shapes
