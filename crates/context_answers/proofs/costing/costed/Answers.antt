use Rattle.std.proofs.Common.{◌≡◌, ◌∷◌, [], ◌<◌, ℕ, List, length, map, Option, Some, None, refl, sym, ap, subst, ◌∙◌, arith}
use Rattle.std.specs.Prelude.{slice_get}
use Rattle.std.proofs.lemmas.Option.{slice_get-get_or}
use Rattle.abs_state.specs.Key.{compare}
use Rattle.bt_base.specs.Graph.{is_edge}
use Rattle.context_answers.proofs.Limits.{bounds_fit, costs_long, if_ok_three, limits_of, named_low, weights_of}
use Rattle.context_answers.proofs.costing.costed.Goals as goal
use Rattle.context_answers.specs.Found.{IsCosted, IsToldOrLarge, passes_in}
use Rattle.context_answers.specs.declared.answer.Answer.{Answer}
use Rattle.context_bounds.specs.Setting.{setting_of}
use Rattle.flow_system.specs.Facts.{fact_at}
use Rattle.path_bound.specs.LongWalk.{IsLongest, IsRefusal, IsTooLarge}
use Rattle.path_bound.specs.Places.{AreBounds}
use Rattle.path_bound.specs.declared.refusal.PathRefusal.{PathRefusal}
use Rattle.wcet_report.specs.declared.reason.Reason.TheVariants as reason

pub longest-requires-clause-bounds : goal.longest-requires-clause-bounds
longest-requires-clause-bounds c =
    let are : c.in_ok-passes.passes.items ≡ map passes_in c.args.outcomes.items = c.in_ok-passes.ensures {u = tt} ∙ ap (map passes_in) c.deref.ensures.value in
    let many : length c.args.outcomes.items ≡ length c.args.nest.now = omega (arith, c.requires.each, c.args.outcomes.ok.0) in
    subst (λ (l : List ℕ). AreBounds c.args.nest.now l) (sym c.deref-3.ensures.value)
    (bounds_fit c.args.nest.now c.args.outcomes.items c.in_ok-passes.passes.items are many c.requires.limited c.requires.passes)

pub longest-requires-clause-costs : goal.longest-requires-clause-costs
longest-requires-clause-costs c =
    let node = (c.in_ok-costs.ensures {u = tt}).node [] in
    let long : length c.in_ok-costs.costs.node.items ≡ length c.deref-2.result.now =
    ap length node
    ∙ costs_long (setting_of c.args.system.now c.args.cycles.now []) (fact_at compare c.args.within.now.facts) c.deref-2.result.now c.args.bounds.now
    (c.requires.count ∙ sym (ap length c.deref-2.ensures.value)) in
    omega (arith, long, ap length c.deref-2.ensures.value, c.requires.ready.same, c.in_ok-costs.costs.node.ok.0)

pub index-requires : goal.index-requires
index-requires c =
    let large : IsTooLarge (is_edge c.args.within.now.graph) c.args.within.now.entry c.args.nest.now c.deref-3.result.now c.in_ok-costs.costs c.in-Err-TooLarge.node =
    subst
    (λ (r : PathRefusal). IsRefusal (is_edge c.args.within.now.graph) c.args.within.now.entry c.args.nest.now c.deref-3.result.now c.in_ok-costs.costs r)
    c.in-Err-TooLarge.field-0-is (c.in-Err-TooLarge.ensures {u = tt}) in
    let low : c.in-Err-TooLarge.node < length c.args.within.now.graph =
    named_low c.args.within.now.graph c.args.within.now.entry c.args.nest.now c.deref-3.result.now c.in_ok-costs.costs c.in-Err-TooLarge.node c.requires.nest
    c.requires.ready.reached c.requires.ready.begins large in
    omega (arith, low, c.requires.ready.same, c.args.within.now.nodes.ok.0)

pub returns-in-Ok : goal.returns-in-Ok
returns-in-Ok c = λ pieces.
    let are : c.in_ok-passes.passes.items ≡ map passes_in c.args.outcomes.items = c.in_ok-passes.ensures {u = tt} ∙ ap (map passes_in) c.deref.ensures.value in
    let costs = c.in_ok-costs.ensures {u = tt} in
    record {
      loops_are = c.told.ensures.loops;
      passes = c.in_ok-passes.passes.items;
      limits = limits_of c.args.outcomes.items c.in_ok-passes.passes.items are c.requires.limited;
      costs = c.in_ok-costs.costs;
      weights = weights_of (setting_of c.args.system.now c.args.cycles.now pieces) c.args.sub c.args.within.now c.deref-2.result.now c.args.bounds.now c.in_ok-costs.costs
          c.deref-2.ensures.value (costs.start pieces) (costs.node pieces) costs.extra;
      told = subst (λ (b : Option ℕ). IsToldOrLarge c.args.within.now c.args.nest.now c.in_ok-passes.passes.items c.in_ok-costs.costs c.told.result.reasons b)
          (sym c.told.ensures.bound)
          (record {
            none = c.told.ensures.reasons;
            long = c.in-Ok.long;
            longest = subst
                (λ (l : List ℕ). IsLongest (is_edge c.args.within.now.graph) c.args.within.now.entry c.args.nest.now l c.in_ok-costs.costs c.in-Ok.long)
                c.deref-3.ensures.value (c.in-Ok.ensures {u = tt});
            is = refl;
          });
    }

pub returns-in-Err-TooLarge : goal.returns-in-Err-TooLarge
returns-in-Err-TooLarge c = λ pieces.
    let are : c.in_ok-passes.passes.items ≡ map passes_in c.args.outcomes.items = c.in_ok-passes.ensures {u = tt} ∙ ap (map passes_in) c.deref.ensures.value in
    let costs = c.in_ok-costs.ensures {u = tt} in
    let large : IsTooLarge (is_edge c.args.within.now.graph) c.args.within.now.entry c.args.nest.now c.deref-3.result.now c.in_ok-costs.costs c.in-Err-TooLarge.node =
    subst
    (λ (r : PathRefusal). IsRefusal (is_edge c.args.within.now.graph) c.args.within.now.entry c.args.nest.now c.deref-3.result.now c.in_ok-costs.costs r)
    c.in-Err-TooLarge.field-0-is (c.in-Err-TooLarge.ensures {u = tt}) in
    let low : c.in-Err-TooLarge.node < length c.args.within.now.graph =
    named_low c.args.within.now.graph c.args.within.now.entry c.args.nest.now c.deref-3.result.now c.in_ok-costs.costs c.in-Err-TooLarge.node c.requires.nest
    c.requires.ready.reached c.requires.ready.begins large in
    let at : slice_get c.args.within.now.nodes.items c.in-Err-TooLarge.node ≡ Some c.index.result.now =
    slice_get-get_or c.args.within.now.nodes.items c.in-Err-TooLarge.node c.index.result.now (omega (arith, low, c.requires.ready.same)) ∙ ap Some (sym c.index.ensures) in
    if_ok_three c.too_large.result (λ (answer : Answer). answer.loops ≡ c.args.outcomes.items)
    (λ (answer : Answer). answer.reasons ≡ reason.TooLarge c.index.result.now ∷ []) (λ (answer : Answer). answer.bound ≡ None)
    (IsCosted (setting_of c.args.system.now c.args.cycles.now pieces) c.args.sub c.args.within.now c.args.bounds.now c.args.nest.now c.args.outcomes.items)
    (λ answer loops reasons bound. record {
      loops_are = loops;
      passes = c.in_ok-passes.passes.items;
      limits = limits_of c.args.outcomes.items c.in_ok-passes.passes.items are c.requires.limited;
      costs = c.in_ok-costs.costs;
      weights = weights_of (setting_of c.args.system.now c.args.cycles.now pieces) c.args.sub c.args.within.now c.deref-2.result.now c.args.bounds.now c.in_ok-costs.costs
          c.deref-2.ensures.value (costs.start pieces) (costs.node pieces) costs.extra;
      told = subst (λ (b : Option ℕ). IsToldOrLarge c.args.within.now c.args.nest.now c.in_ok-passes.passes.items c.in_ok-costs.costs answer.reasons b) (sym bound)
          (record {
            node = c.in-Err-TooLarge.node;
            place = c.index.result.now;
            at = at;
            large = subst
                (λ (l : List ℕ). IsTooLarge (is_edge c.args.within.now.graph) c.args.within.now.entry c.args.nest.now l c.in_ok-costs.costs c.in-Err-TooLarge.node)
                c.deref-3.ensures.value large;
            one = reasons;
          });
    })
    c.too_large.ensures.loops c.too_large.ensures.reasons c.too_large.ensures.bound
