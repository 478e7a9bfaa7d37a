use Rattle.value_lattice.specs.Order.{place_of}
use Rattle.value_refine.proofs.RegionLemmas.{either_and}
use Rattle.value_refine.proofs.region.Region.and.Goals as goal

pub returns : goal.returns
returns c = λ w. either_and _ _ _ _ _ (c.and.ensures (place_of w)) (c.and-2.ensures (place_of w))
