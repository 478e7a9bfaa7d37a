use Rattle.loop_lines.proofs.Due.{points_are_reached}
use Rattle.loop_lines.proofs.laws.points_are_reached.Goals as goal

pub returns : goal.returns
returns c = points_are_reached
