use Rattle.context_bounds.proofs.Marks.{contexts_stand}
use Rattle.context_bounds.proofs.laws.contexts_stand.Goals as goal

pub returns : goal.returns
returns c = contexts_stand
