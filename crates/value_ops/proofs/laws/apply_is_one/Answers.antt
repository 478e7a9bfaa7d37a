use Rattle.value_ops.proofs.ApplyLemmas.{apply_is, apply_is_one}
use Rattle.value_ops.proofs.laws.apply_is_one.Goals as goal

pub returns : goal.returns
returns c = record { is = apply_is; one = apply_is_one }
