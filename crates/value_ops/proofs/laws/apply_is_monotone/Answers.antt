use Rattle.value_ops.proofs.ApplyLemmas.{apply_over, apply_covers, apply_falls}
use Rattle.value_ops.proofs.laws.apply_is_monotone.Goals as goal

pub returns : goal.returns
returns c = record { over = apply_over; covers = apply_covers; falls = apply_falls }
