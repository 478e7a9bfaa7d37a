use Rattle.std.proofs.Common.{◌≡◌, ◌<◌, ℕ, List, length, refl, sym, ap, subst, ◌∙◌}
use Rattle.bt_base.specs.Graph.{is_edge}
use Rattle.loop_nest.specs.declared.natural_loop.Loop.{Loop}
use Rattle.path_bound.specs.Answered.{IsOverOr}
use Rattle.path_bound.specs.Places.{loops_in, AreLoopsBelow}
use Rattle.path_bound.specs.Ranked.{rank_in}
use Rattle.path_bound.specs.Ranking.{HaveEnds}
use Rattle.path_bound.specs.Surveyed.{AreFit, IsSurveyed}
use Rattle.path_bound.specs.Turning.{HoldHeads}
use Rattle.path_bound.proofs.Concluded.{fit, entry_placed, best_longest, over_or, survey_told}
use Rattle.path_bound.proofs.bounding.longest.Goals as goal

pub surveyed-requires-clause-fit : goal.surveyed-requires-clause-fit
surveyed-requires-clause-fit c = subst (λ (l : List Loop). AreFit c.args.graph.now l c.args.bounds.now c.args.costs.now) (sym c.loops-loops.ensures)
    (fit c.args.graph.now c.args.entry c.args.nest.now c.args.bounds.now c.args.costs.now c.count-count.ensures.graph c.requires.nest
    c.requires.reached)

pub answered-requires-clause-loops : goal.answered-requires-clause-loops
answered-requires-clause-loops c =
    let f : AreFit c.args.graph.now c.args.nest.now c.args.bounds.now c.args.costs.now =
    fit c.args.graph.now c.args.entry c.args.nest.now c.args.bounds.now c.args.costs.now c.count-count.ensures.graph c.requires.nest
    c.requires.reached in
    let s : IsSurveyed c.args.graph.now c.args.nest.now c.args.bounds.now c.args.costs.now (length c.in_ok-survey.survey.order.items) c.in_ok-survey.survey =
    survey_told c.args.graph.now c.loops-loops.result.now c.args.nest.now c.args.bounds.now c.args.costs.now _
    (length c.in_ok-survey.survey.order.items) c.in_ok-survey.survey c.loops-loops.ensures
    c.in_ok-survey.survey.order.ok.0 (c.in_ok-survey.ensures {u = tt}) in
    let size : length c.deref.result.now ≡ length c.args.graph.now = ap length c.deref.ensures.value ∙ s.size in
    subst (λ (l : List Loop). AreLoopsBelow (length c.deref.result.now) l) (sym c.loops-loops.ensures)
    (subst (λ (k : ℕ). AreLoopsBelow k c.args.nest.now) (sym size) f.below)

pub answered-requires-clause-ends : goal.answered-requires-clause-ends
answered-requires-clause-ends c =
    let f : AreFit c.args.graph.now c.args.nest.now c.args.bounds.now c.args.costs.now =
    fit c.args.graph.now c.args.entry c.args.nest.now c.args.bounds.now c.args.costs.now c.count-count.ensures.graph c.requires.nest
    c.requires.reached in
    subst (λ (l : List Loop). HaveEnds (is_edge c.args.graph.now) (loops_in l)) (sym c.loops-loops.ensures) f.ends

pub answered-requires-clause-heads : goal.answered-requires-clause-heads
answered-requires-clause-heads c =
    let f : AreFit c.args.graph.now c.args.nest.now c.args.bounds.now c.args.costs.now =
    fit c.args.graph.now c.args.entry c.args.nest.now c.args.bounds.now c.args.costs.now c.count-count.ensures.graph c.requires.nest
    c.requires.reached in
    subst (λ (l : List Loop). HoldHeads l) (sym c.loops-loops.ensures) f.hold

pub answered-requires-clause-placed : goal.answered-requires-clause-placed
answered-requires-clause-placed c =
    let s : IsSurveyed c.args.graph.now c.args.nest.now c.args.bounds.now c.args.costs.now (length c.in_ok-survey.survey.order.items) c.in_ok-survey.survey =
    survey_told c.args.graph.now c.loops-loops.result.now c.args.nest.now c.args.bounds.now c.args.costs.now _
    (length c.in_ok-survey.survey.order.items) c.in_ok-survey.survey c.loops-loops.ensures
    c.in_ok-survey.survey.order.ok.0 (c.in_ok-survey.ensures {u = tt}) in
    subst (λ (l : List ℕ). rank_in l c.args.entry < length l) (sym c.deref-4.ensures.value)
    (entry_placed c.args.graph.now c.args.entry c.args.nest.now c.args.bounds.now c.args.costs.now c.count-count.ensures.graph c.requires.nest
    c.requires.reached c.requires.entry c.requires.bounds c.in_ok-survey.survey s)

pub returns : goal.returns
returns c =
    let s : IsSurveyed c.args.graph.now c.args.nest.now c.args.bounds.now c.args.costs.now (length c.in_ok-survey.survey.order.items) c.in_ok-survey.survey =
    survey_told c.args.graph.now c.loops-loops.result.now c.args.nest.now c.args.bounds.now c.args.costs.now _
    (length c.in_ok-survey.survey.order.items) c.in_ok-survey.survey c.loops-loops.ensures
    c.in_ok-survey.survey.order.ok.0 (c.in_ok-survey.ensures {u = tt}) in
    over_or c.args.graph.now c.args.entry c.args.nest.now c.args.bounds.now c.args.costs.now c.count-count.ensures.graph c.requires.nest
    c.requires.reached c.requires.entry c.requires.bounds c.in_ok-survey.survey s c.deref-4.result.now c.deref-2.result.now c.deref-3.result.now
    c.deref-5.result.now c.deref-4.ensures.value c.deref-2.ensures.value c.deref-3.ensures.value c.deref-5.ensures.value c.in-Err.why
    (subst (λ (l : List Loop). IsOverOr (is_edge c.args.graph.now) l
    (loops_in l) c.deref-4.result.now c.deref-2.result.now c.deref-3.result.now c.deref-5.result.now c.args.costs.now.start c.args.entry
    c.in-Err.why)
    c.loops-loops.ensures c.in-Err.ensures)

pub returns-in-Ok : goal.returns-in-Ok
returns-in-Ok c =
    let s : IsSurveyed c.args.graph.now c.args.nest.now c.args.bounds.now c.args.costs.now (length c.in_ok-survey.survey.order.items) c.in_ok-survey.survey =
    survey_told c.args.graph.now c.loops-loops.result.now c.args.nest.now c.args.bounds.now c.args.costs.now _
    (length c.in_ok-survey.survey.order.items) c.in_ok-survey.survey c.loops-loops.ensures
    c.in_ok-survey.survey.order.ok.0 (c.in_ok-survey.ensures {u = tt}) in
    best_longest c.args.graph.now c.args.entry c.args.nest.now c.args.bounds.now c.args.costs.now c.count-count.ensures.graph c.requires.nest
    c.requires.reached c.requires.entry c.requires.bounds c.in_ok-survey.survey s c.deref-4.result.now c.deref-2.result.now c.deref-3.result.now
    c.deref-5.result.now c.deref-4.ensures.value c.deref-2.ensures.value c.deref-3.ensures.value c.deref-5.ensures.value c.in-Ok.best
    c.in-Ok.ensures _ refl refl refl
