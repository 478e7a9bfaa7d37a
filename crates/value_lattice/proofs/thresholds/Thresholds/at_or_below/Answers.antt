use Rattle.value_lattice.proofs.ThresholdLemmas.{before, rounded_down}
use Rattle.value_lattice.proofs.thresholds.Thresholds.at_or_below.Goals as goal

pub overflow_sub-result : goal.overflow_sub-result
overflow_sub-result c = before _ c.args.place c.in-Err.i c.places-places.ensures.thresholds c.ranges.place.fits
    (rw c.places-places.ensures.places at c.in-Err.ensures.position)

pub returns-in-Err : goal.returns-in-Err
returns-in-Err c = rw c.places-places.ensures.places
    (rounded_down _ c.args.place c.in-Err.i c.places-places.ensures.thresholds c.ranges.place.fits
    (rw c.places-places.ensures.places at c.in-Err.ensures.position))
