use Rattle.std.proofs.Common.{◌≡◌, ◌==◌, ◌||◌, ◌<◌, ℕ, Bool, Some, List, [], ◌∷◌, length, get_or, sym, ap, ◌∙◌, arith}
use Rattle.std.specs.List.{slice_get}
use Rattle.std.proofs.lemmas.Bool.{eq-eqb}
use Rattle.std.proofs.lemmas.Option.{slice_get-get_or, slice_get_within}
use Rattle.bt_base.specs.Graph.{has}
use Rattle.counter_bound.specs.Body.{is_marked, is_inner}
use Rattle.loop_nest.specs.declared.natural_loop.Loop.{Loop}
use Rattle.counter_bound.proofs.Inner.{IsBehind, inner_at, inner_elsewhere, or_none}
use Rattle.counter_bound.proofs.Moving.{other_node}
use Rattle.path_bound.proofs.Placed.{some_one}
use Rattle.counter_bound.proofs.marking.mark_loop.Goals as goal
use Rattle.counter_bound.proofs.marking.mark_loop.Goals.{else-place-loops-via-then-place-loops+then-loops-place+else-node-head}
use Rattle.counter_bound.proofs.marking.mark_loop.Goals.{else-place-loops-via-then-place-loops+else-loops-place}
use Rattle.counter_bound.proofs.marking.mark_loop.Goals.{else-place-loops-via-else-place-loops}

pub returns-then-node-head : goal.returns-then-node-head
returns-then-node-head c =
    let place = c.heads_below-place.result in
    let tested = c.index-loops-place.result in
    let one = c.index-loops-place-then-node-head.result in
    let at : slice_get c.args.loops.now place ≡ Some one =
    slice_get-get_or c.args.loops.now place one c.if-place-loops.true ∙ ap (λ (x : Loop). Some x) (sym c.index-loops-place-then-node-head.is) in
    let at_tested : slice_get c.args.loops.now place ≡ Some tested =
    slice_get-get_or c.args.loops.now place tested c.if-place-loops.true ∙ ap (λ (x : Loop). Some x) (sym c.index-loops-place.is) in
    let e : one.head ≡ c.args.node = ap (λ (x : Loop). x.head) (some_one (sym at ∙ at_tested)) ∙ (ap (λ (x : Loop). x.head) c.index-loops-place.is ∙ c.if-loops-place.true) in
    let nodes = c.deref.ensures.value ∙ ap (λ (x : Loop). x.body.items) (sym c.index-loops-place-then-node-head.is) in
    λ i l. c.mark_all.ensures i l ∙ ap (λ (b : Bool). is_marked c.args.marks.now i || b)
    (ap (λ (xs : List ℕ). has xs (get_or c.args.body.now i 0)) nodes
    ∙ sym (inner_at c.args.loops.now c.requires.heads c.args.head c.args.node place one at e (other_node c.args.node c.args.head c.if-node-head.true)
    (get_or c.args.body.now i 0)))

pub returns-else-place-loops : goal.returns-else-place-loops
returns-else-place-loops c =
    let place = c.heads_below-place.result in
    let behind : IsBehind c.args.loops.now c.args.node place =
    record { below = c.heads_below-place.ensures.below; above = c.heads_below-place.ensures.above } in
    λ i l. or_none (is_marked c.args.marks.now i) (is_inner c.args.loops.now c.args.head (c.args.node ∷ []) (get_or c.args.body.now i 0))
    (inner_elsewhere c.args.loops.now c.requires.heads c.args.head c.args.node place behind
    (λ one at e. elim c.else-place-loops.branch [
      | else-place-loops-via-then-place-loops+then-loops-place+else-node-head w ↦ eq-eqb c.args.node c.args.head w.if-node-head.false
      | else-place-loops-via-then-place-loops+else-loops-place w ↦
          let tested = w.index-loops-place.result in
          let at_tested : slice_get c.args.loops.now place ≡ Some tested =
          slice_get-get_or c.args.loops.now place tested w.if-place-loops.true ∙ ap (λ (x : Loop). Some x) (sym w.index-loops-place.is) in
          absurd (w.if-loops-place.false (ap (λ (x : Loop). x.head) (sym w.index-loops-place.is ∙ some_one (sym at_tested ∙ at)) ∙ e))
      | else-place-loops-via-else-place-loops w ↦
          let q : place < length c.args.loops.now = slice_get_within c.args.loops.now place one at in absurd (omega (arith, q, w.if-place-loops.false))
    ]) (get_or c.args.body.now i 0))
