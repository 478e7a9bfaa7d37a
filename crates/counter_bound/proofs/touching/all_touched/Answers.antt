use Rattle.std.proofs.Common.{◌≡◌, ◌<◌, Some, length, get_or, refl, sym, ap, ◌∙◌}
use Rattle.std.specs.List.{slice_get}
use Rattle.std.proofs.lemmas.Option.{slice_get-get_or}
use Rattle.counter_bound.specs.declared.change.Change.{Change}
use Rattle.counter_bound.proofs.Changed.{touched_more}
use Rattle.turn_sums.proofs.Lists.{has_at}
use Rattle.counter_bound.proofs.touching.all_touched.Goals as goal

pub bounds-changes-body : goal.bounds-changes-body
bounds-changes-body c =
    c.requires.nodes (get_or c.args.body.now c.loop-place.place 0) (has_at c.args.body.now c.loop-place.place c.loop-place-test.true)

pub touch-touched-requires : goal.touch-touched-requires
touch-touched-requires c =
    let w : get_or c.args.body.now c.loop-place.place 0 < length c.args.changes.now =
    c.requires.nodes (get_or c.args.body.now c.loop-place.place 0) (has_at c.args.body.now c.loop-place.place c.loop-place-test.true) in
    let at : slice_get c.args.changes.now (get_or c.args.body.now c.loop-place.place 0) ≡ Some c.index-changes-body.result =
    slice_get-get_or c.args.changes.now (get_or c.args.body.now c.loop-place.place 0) c.index-changes-body.result w
    ∙ ap (λ (x : Change). Some x) (sym c.index-changes-body.is) in
    λ cell k e. c.requires.added (get_or c.args.body.now c.loop-place.place 0) cell k (at ∙ ap (λ (x : Change). Some x) e)

pub loop-place-preserved : goal.loop-place-preserved
loop-place-preserved c =
    let w : get_or c.args.body.now c.loop-place.place 0 < length c.args.changes.now =
    c.requires.nodes (get_or c.args.body.now c.loop-place.place 0) (has_at c.args.body.now c.loop-place.place c.loop-place-test.true) in
    let at : slice_get c.args.changes.now (get_or c.args.body.now c.loop-place.place 0) ≡ Some c.index-changes-body.result =
    slice_get-get_or c.args.changes.now (get_or c.args.body.now c.loop-place.place 0) c.index-changes-body.result w
    ∙ ap (λ (x : Change). Some x) (sym c.index-changes-body.is) in
    touched_more c.args.body.now c.args.changes.now c.args.inner.now c.loop-place.place c.loop-place.touched c.touch-touched.result c.index-changes-body.result _
    at refl c.touch-touched.ensures.adds c.touch-touched.ensures.spoilt c.loop-place.invariant
