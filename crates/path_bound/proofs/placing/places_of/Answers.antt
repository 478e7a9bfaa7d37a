use Rattle.std.proofs.Common.{Some, get_or, ◌∙◌}
use Rattle.std.proofs.lemmas.List.{length-set}
use Rattle.std.proofs.lemmas.Option.{slice_get-get_or}
use Rattle.loop_nest.specs.declared.natural_loop.Loop.{Loop}
use Rattle.path_bound.proofs.Placed.{places_on}
use Rattle.path_bound.proofs.placing.places_of.Goals as goal

pub loop-place-preserved : goal.loop-place-preserved
loop-place-preserved c =
    let one : Loop = get_or c.args.loops.now c.loop-place.place c.index-loops-place.result in
    record {
      size = length-set c.loop-place.places.items one.head (Some c.loop-place.place) ∙ c.loop-place.invariant.size;
      places = places_on c.args.loops.now c.args.count c.loop-place.place one c.loop-place.places.items c.requires c.loop-place.invariant.size
          (slice_get-get_or c.args.loops.now c.loop-place.place c.index-loops-place.result c.loop-place-test.true) c.loop-place.invariant.places;
    }
