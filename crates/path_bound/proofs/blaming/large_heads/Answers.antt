use Rattle.std.proofs.Common.{◌≡◌, ◌<◌, Some, length, get_or, ◌∙◌, arith}
use Rattle.std.specs.List.{slice_get}
use Rattle.std.proofs.lemmas.List.{length-set}
use Rattle.std.proofs.lemmas.Option.{slice_get-get_or}
use Rattle.bt_base.specs.Graph.{is_edge}
use Rattle.loop_nest.specs.declared.natural_loop.Loop.{Loop}
use Rattle.path_bound.proofs.Marked.{each_on, others_on, all_weighed}
use Rattle.path_bound.proofs.blaming.large_heads.Goals as goal

pub loop-place-preserved : goal.loop-place-preserved
loop-place-preserved c =
    let e = c.in_ok-is.ensures {u = tt} in
    let one : Loop = get_or c.args.loops.now c.loop-place.place c.index-loops-place.result in
    let at : slice_get c.args.loops.now c.loop-place.place ≡ Some one =
    slice_get-get_or c.args.loops.now c.loop-place.place c.index-loops-place.result c.loop-place-test.true in
    let w : one.head < length c.loop-place.large.items =
    (let b : one.head < length c.args.places.now =
    c.requires.loops.heads c.loop-place.place one at in omega (arith, b, c.requires.count, c.loop-place.invariant.size)) in
    record {
      size = length-set c.loop-place.large.items one.head c.in_ok-is.is' ∙ c.loop-place.invariant.size;
      sizes = record {
        costs = c.requires.sizes.costs;
        rows = c.requires.sizes.rows;
        lapped = c.requires.sizes.lapped;
        within = c.requires.sizes.within;
        marked = c.is_large.auto.labels ∙ c.loop-place.invariant.sizes.marked;
      };
      ready = e.ready;
      none = e.none;
      each = each_on (is_edge c.args.graph.now) c.args.loops.now c.requires.loops.rising c.args.node.now c.args.steps.now c.args.laps.now
          c.loop-place.large.items c.loop-place.place one at w c.in_ok-is.is' (e.weighed one at)
          c.loop-place.invariant.each;
      others = others_on (is_edge c.args.graph.now) c.args.loops.now c.requires.loops.rising c.args.node.now c.args.steps.now c.args.laps.now
          c.loop-place.large.items c.loop-place.place one at w c.in_ok-is.is' (e.weighed one at)
          c.loop-place.invariant.others;
    }

pub returns-clause-large : goal.returns-clause-large
returns-clause-large c =
    all_weighed (is_edge c.args.graph.now) c.args.loops.now c.args.node.now c.args.steps.now c.args.laps.now c.loop-place.large.items c.loop-place.place
    (omega (arith, c.loop-place-test.false, c.loop-place.auto.place-end)) c.loop-place.invariant.each c.loop-place.invariant.others
