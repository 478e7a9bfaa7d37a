use Rattle.value_ops.proofs.OperationLemmas.{applied_covers}
use Rattle.value_ops.proofs.laws.results_are_covered.Goals as goal

pub returns : goal.returns
returns c = applied_covers
