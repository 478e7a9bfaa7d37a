-- The turn that is taken of a loop is one of the turns of the graph.
use Rattle.std.proofs.Common.{◌≡◌, ◌+◌, ℕ, ◌<◌, true, Option, Some, None, List, length, get_or, refl, sym, ap, ◌∙◌, arith, Vec, Global}
use Rattle.std.specs.List.{slice_get}
use Rattle.std.proofs.lemmas.Bool.{ltb-true}
use Rattle.bt_base.specs.Graph.{is_edge}
use Rattle.loop_nest.specs.LoopNest.{is_head}
use Rattle.loop_nest.specs.declared.natural_loop.Loop.{Loop}
use Rattle.path_bound.specs.declared.long_walk.Turn.{Turn}
use Rattle.path_bound.specs.declared.stepping.Step.{Step}
use Rattle.path_bound.specs.declared.weights.Costs.{Costs as Weights}
use Rattle.path_bound.specs.Capped.{cap}
use Rattle.path_bound.specs.Places.{place_of, held, loops_in, costs_in, place_below}
use Rattle.path_bound.specs.Steps.{AreStepsOf}
use Rattle.path_bound.specs.Turned.{task_of, IsGround, AreTurnedUpTo}
use Rattle.path_bound.specs.Turning.{IsTaken}
use Rattle.path_bound.proofs.Placed.{IsLoopAt, place_reads, head_place, below_some, back_some, back_none}
use Rattle.path_bound.proofs.Turns.{turned_past, turned_on}

some_eq : {A : Type 0} {x y : A} → Some x ≡ Some y → x ≡ y
some_eq e = cc

module _ (graph : List (List ℕ)) (loops : List Loop) (bounds : List ℕ) (costs : Weights) (order : List ℕ)
    (ground : IsGround (task_of graph loops bounds costs) order)
    (k : ℕ) (l : k < length order) (at : ℕ) (here : get_or order k 0 ≡ at) (laps : List ℕ) (turns : List Turn)
    (was : AreTurnedUpTo (task_of graph loops bounds costs) loops order k laps turns) where
  -- the next node is no head, and no turn is settled
  pub no_head : place_below loops (length loops) at ≡ None → AreTurnedUpTo (task_of graph loops bounds costs) loops order (k + 1) laps turns
  no_head e = turned_past (task_of graph loops bounds costs) loops order ground k laps turns l (ap (is_head loops) here ∙ back_none loops at e) was

  -- the next node is a head, whose turn is settled
  pub head_taken : (place : ℕ) → place_below loops (length loops) at ≡ Some place → (steps : List (Vec Step Global))
      → AreStepsOf graph (λ n m. cap ((costs_in costs).node n + (costs_in costs).edge n m)) steps
      → (new : List ℕ) (after : List Turn) → at < length laps → place < length turns
      → ((one : Loop) → slice_get loops place ≡ Some one
      → IsTaken (is_edge graph) (loops_in loops) one (get_or bounds place 0) place costs.node.items steps laps new turns after)
      → AreTurnedUpTo (task_of graph loops bounds costs) loops order (k + 1) new after
  head_taken place e steps are new after within there taken =
      let b = below_some loops (length loops) at place e in
      let head : is_head loops at ≡ true = back_some loops at place e in
      let r : IsLoopAt loops (place_of loops at) at = place_reads loops at (omega (arith, b.0, b.1)) in
      let found : slice_get loops place ≡ Some r.one = ap (slice_get loops) (sym b.0) ∙ r.at in
      turned_on (task_of graph loops bounds costs) loops order ground k l at (sym here) head r.one r.head
      (λ n. ap (λ (o : Option Loop). held o n) r.at) costs.node.items steps (λ n. refl) are.row laps turns was
      place (get_or bounds place 0) b.0 (ap (λ (p : ℕ). get_or bounds p 0) (sym b.0)) new after within there
      (λ h a ne q.
      let w : place_of loops h < length loops = ltb-true (place_of loops h) (length loops) (sym (head_place loops h) ∙ a) in
      let s : IsLoopAt loops (place_of loops h) h = place_reads loops h w in
      let f : s.one ≡ r.one = some_eq (sym s.at ∙ (ap (slice_get loops) q ∙ found)) in
      ne (sym s.head ∙ (ap (λ (x : Loop). x.head) f ∙ r.head)))
      (taken r.one found)
