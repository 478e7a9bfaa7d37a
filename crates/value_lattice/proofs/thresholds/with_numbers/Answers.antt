use Rattle.value_lattice.specs.Thresholds.{Widens}
use Rattle.value_lattice.proofs.ThresholdLemmas.{widens}
use Rattle.value_lattice.proofs.WidenLemmas.{is_widen}
use Rattle.value_lattice.proofs.thresholds.with_numbers.Goals as goal

are_widened : (c : goal.After-put_places_in_order) → Widens c.args.places.items c.put_places_in_order.new.places.items c.args.list.now
are_widened c =
    let order = c.put_places_in_order.ensures in
    widens c.args.places.items c.extend.new.places.items c.put_places_in_order.new.places.items c.args.list.now c.requires.least c.requires.greatest
    c.in_ok-extend.ensures order.rising order.fits order.keeps order.adds_none

pub invariant_of-result : goal.invariant_of-result
invariant_of-result c = (are_widened c).thresholds

pub returns-clause-widens : goal.returns-clause-widens
returns-clause-widens c = are_widened c

pub returns-clause-value : goal.returns-clause-value
returns-clause-value c = is_widen c.args.places.items _ c.args.list.now (are_widened c)
