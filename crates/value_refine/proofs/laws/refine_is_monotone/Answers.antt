use Rattle.value_refine.proofs.RefineFunctions.{refine_over, refine_left, refine_address, refine_falls, refine_covers}
use Rattle.value_refine.proofs.laws.refine_is_monotone.Goals as goal

pub returns : goal.returns
returns c = record { over = refine_over; left = refine_left; address = refine_address; falls = refine_falls; covers = refine_covers }
