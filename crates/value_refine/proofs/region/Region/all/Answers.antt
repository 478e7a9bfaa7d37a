use Rattle.std.proofs.Common.{arith}
use Rattle.value_lattice.proofs.SetLemmas.{place_of_below}
use Rattle.value_lattice.specs.Order.{place_of}
use Rattle.std.proofs.Common.{◌<◌, ◌^◌}
use Rattle.value_refine.proofs.region.Region.all.Goals as goal

pub returns : goal.returns
returns c = λ w word. let place : place_of w < 2 ^ 32 = place_of_below w in (c.of_places.ensures w word).1
    (omega (arith, c.all.ensures), omega (arith, c.all.ensures))
