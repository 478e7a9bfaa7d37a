use Rattle.std.proofs.Common.{refl, lit<}
use Rattle.value_lattice.proofs.thresholds.Thresholds.make.Goals as goal

pub with_numbers-requires-clause-greatest : goal.with_numbers-requires-clause-greatest
with_numbers-requires-clause-greatest c = rw (c.in_ok-extend.ensures, c.new-places.ensures.items) (10, lit< tt, refl)
