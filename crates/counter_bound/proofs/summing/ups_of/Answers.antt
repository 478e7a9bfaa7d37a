use Rattle.std.proofs.Common.{◌≡◌, ◌<◌, Option, Some, length, get_or, sym, ap, ◌∙◌}
use Rattle.std.specs.List.{slice_get}
use Rattle.std.proofs.lemmas.Option.{slice_get-get_or}
use Rattle.counter_bound.specs.Change.{up_in}
use Rattle.counter_bound.specs.declared.change.Change.{Change}
use Rattle.counter_bound.proofs.Pushing.{pushed_count, pushed_at, pushed_most}
use Rattle.turn_sums.proofs.Lists.{has_at}
use Rattle.counter_bound.proofs.summing.ups_of.Goals as goal

pub bounds-changes-body : goal.bounds-changes-body
bounds-changes-body c =
    c.requires.nodes (get_or c.args.body.now c.loop-place.place 0) (has_at c.args.body.now c.loop-place.place c.loop-place-test.true)

pub loop-place-preserved : goal.loop-place-preserved
loop-place-preserved c =
    let w : get_or c.args.body.now c.loop-place.place 0 < length c.args.changes.now =
    c.requires.nodes (get_or c.args.body.now c.loop-place.place 0) (has_at c.args.body.now c.loop-place.place c.loop-place-test.true) in
    let at : slice_get c.args.changes.now (get_or c.args.body.now c.loop-place.place 0) ≡ Some c.index-changes-body.result =
    slice_get-get_or c.args.changes.now (get_or c.args.body.now c.loop-place.place 0) c.index-changes-body.result w
    ∙ ap (λ (x : Change). Some x) (sym c.index-changes-body.is) in
    let e = (c.in_ok-push.ensures {u = tt}).items in
    record {
      count = pushed_count c.loop-place.ups.items c.push.new.self.items c.up_in.result c.loop-place.place e c.loop-place.invariant.count;
      are = pushed_at c.loop-place.ups.items c.push.new.self.items c.up_in.result c.loop-place.place
          (λ i. up_in (slice_get c.args.changes.now (get_or c.args.body.now i 0)) c.args.c) e c.loop-place.invariant.count c.loop-place.invariant.are
          (c.up_in.ensures.up ∙ ap (λ (o : Option Change). up_in o c.args.c) (sym at));
      most = pushed_most c.loop-place.ups.items c.push.new.self.items c.up_in.result 2147483647 e c.loop-place.invariant.most c.up_in.ensures.most;
    }
