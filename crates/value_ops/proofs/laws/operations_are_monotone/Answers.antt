use Rattle.value_ops.proofs.OperationLemmas.{applied_is_monotone}
use Rattle.value_ops.proofs.laws.operations_are_monotone.Goals as goal

pub returns : goal.returns
returns c = applied_is_monotone
