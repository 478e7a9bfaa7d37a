use Rattle.value_lattice.proofs.SetLemmas.{place_of_below}
use Rattle.value_lattice.specs.Order.{place_of}
use Rattle.value_refine.proofs.RegionLemmas.{either_side}
use Rattle.value_refine.proofs.region.Region.all_but.Goals as goal

pub returns : goal.returns
returns c = λ w word. either_side _ _ (place_of w) c.args.place (c.below.ensures (place_of w) (place_of_below w))
    (c.above.ensures (place_of w) (place_of_below w))
