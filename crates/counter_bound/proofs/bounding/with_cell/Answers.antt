use Rattle.std.proofs.Common.{◌≡◌, ◌+◌, false, Option, subst, sym, ◌∙◌}
use Rattle.abs_state.specs.declared.head_bound.HeadBound.{HeadBound}
use Rattle.bt_base.specs.Graph.{is_edge}
use Rattle.call_effects.specs.Mask.{has_cell}
use Rattle.counter_bound.specs.Change.{changes_of}
use Rattle.counter_bound.specs.Counts.{CellCounts, IsCellBound, IsBestOrNone}
use Rattle.counter_bound.proofs.Bests.{bound_is, best_with}
use Rattle.path_bound.specs.Places.{loops_in}
use Rattle.turn_sums.specs.Step.{IsStepOrNone}
use Rattle.turn_sums.specs.declared.step.TurnStep.{TurnStep}
use Rattle.counter_bound.proofs.bounding.with_cell.Goals as goal

pub returns-in-Some : goal.returns-in-Some
returns-in-Some c =
    let free : has_cell c.args.touched.now.spoilt c.args.cell ≡ false = sym c.has-else-not-has.ensures.cell ∙ c.if-has.false in
    let counts : CellCounts (is_edge c.args.graph.now) (loops_in c.args.nest.now) c.args.one.now.head c.args.changes.now c.args.cell c.in-Some.step = record {
      added = c.requires.touched.added c.args.cell free;
      step = subst (λ (o : Option TurnStep). IsStepOrNone (is_edge c.args.graph.now) ((loops_in c.args.nest.now).body c.args.one.now.head) c.args.one.now.head
          (changes_of c.args.changes.now c.args.cell) o) c.in-Some.is (c.in_ok-step.ensures {u = tt}).step;
    } in
    let is : IsCellBound (is_edge c.args.graph.now) (loops_in c.args.nest.now) c.args.one.now.head c.args.changes.now c.args.head.now c.cell_bound.result =
    bound_is (is_edge c.args.graph.now) (loops_in c.args.nest.now) c.args.one.now.head c.args.changes.now c.args.head.now c.args.cell c.in-Some.step
    c.cell_bound.result counts c.cell_bound.ensures.cell c.cell_bound.ensures.step c.cell_bound.ensures.lo c.cell_bound.ensures.hi c.cell_bound.ensures.passes in
    subst (λ (o : Option HeadBound). IsBestOrNone (is_edge c.args.graph.now) (loops_in c.args.nest.now) c.args.one.now.head c.args.changes.now c.args.head.now
    (c.args.cell + 1) o) (sym c.better.ensures)
    (best_with (is_edge c.args.graph.now) (loops_in c.args.nest.now) c.args.one.now.head c.args.changes.now c.args.head.now c.args.cell c.args.best
    c.cell_bound.result c.cell_bound.ensures.cell is c.requires.best)
