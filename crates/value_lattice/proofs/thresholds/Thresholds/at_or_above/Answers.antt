use Rattle.value_lattice.proofs.ThresholdLemmas.{after, rounded_up}
use Rattle.value_lattice.proofs.thresholds.Thresholds.at_or_above.Goals as goal

pub bounds-places-i : goal.bounds-places-i
bounds-places-i c = rw c.places-places.ensures.places
    (after _ c.args.place c.in-Err.i c.places-places.ensures.thresholds c.ranges.place.fits (rw c.places-places.ensures.places at c.in-Err.ensures.position))

pub returns-in-Err : goal.returns-in-Err
returns-in-Err c = rw c.places-places.ensures.places
    (rounded_up _ c.args.place c.in-Err.i c.places-places.ensures.thresholds c.ranges.place.fits
    (rw c.places-places.ensures.places at c.in-Err.ensures.position))
