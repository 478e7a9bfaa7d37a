use Rattle.context_bounds.proofs.Marks.{marks_are_all}
use Rattle.context_bounds.proofs.laws.marks_are_all.Goals as goal

pub returns : goal.returns
returns c = marks_are_all
