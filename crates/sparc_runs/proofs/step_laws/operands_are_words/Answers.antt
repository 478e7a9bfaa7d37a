use Rattle.sparc_runs.proofs.Bounds.{operands_words}
use Rattle.sparc_runs.proofs.step_laws.operands_are_words.Goals as goal

pub returns : goal.returns
returns c = operands_words
