use Rattle.loop_lines.proofs.Due.{entries_are_there}
use Rattle.loop_lines.proofs.laws.entries_are_there.Goals as goal

pub returns : goal.returns
returns c = entries_are_there
