use Rattle.std.proofs.Common.{◌≤◌, arith}
use Rattle.value_lattice.specs.Ends.{low_end, high_end}
use Rattle.counter_bound.proofs.Ends.{ends_rise}
use Rattle.counter_bound.proofs.bounding.cell_bound.Goals as goal

pub passes_between-requires-clause-rises : goal.passes_between-requires-clause-rises
passes_between-requires-clause-rises c =
    let l : low_end c.get.result.now ≤ high_end c.get.result.now = ends_rise c.get.result.now c.get.ensures.value in
    omega (arith, l, c.ends-low.ensures.low, c.ends-low.ensures.high)
