-- The step of a cell, from what the nodes of a body add to it and take from it.
use Rattle.std.proofs.Common.{◌≡◌, ◌<◌, ◌≤◌, ◌^◌, ℕ, Option, Some, None, List, Result, Ok, Err, IfOk, IfSome, length, get_or, sym, ap, subst, ◌∙◌, arith}
use Rattle.std.specs.List.{slice_get}
use Rattle.bt_base.specs.Graph.{is_edge, IsGraph}
use Rattle.counter_bound.specs.Best.{IsShortStep}
use Rattle.counter_bound.specs.Body.{IsBodyGraph, AreUps, AreDowns}
use Rattle.counter_bound.specs.Change.{changes_of}
use Rattle.counter_bound.specs.Counts.{HasNest, IsAdded}
use Rattle.counter_bound.specs.declared.change.Change.{Change}
use Rattle.counter_bound.proofs.Bodies.{balanced, whole_step}
use Rattle.counter_bound.proofs.Sizes.{short_step}
use Rattle.loop_nest.specs.declared.natural_loop.Loop.{Loop}
use Rattle.path_bound.specs.Places.{loops_in}
use Rattle.turn_sums.specs.Search.{steps_of, all_nodes, AreBalanced}
use Rattle.turn_sums.specs.Step.{IsStepOrNone}
use Rattle.turn_sums.specs.declared.step.TurnStep.{TurnStep}

-- what each node of a body adds to a cell, and takes from it
pub record AreSums (body : List ℕ) (changes : List Change) (cell : ℕ) (ups downs : List ℕ) : Type 0 where
  pub ups_count : length ups ≡ length body
  pub downs_count : length downs ≡ length body
  pub ups_are : AreUps body changes cell ups
  pub downs_are : AreDowns body changes cell downs
  pub ups_most : (n : ℕ) → get_or ups n 0 ≤ 2147483647
  pub downs_most : (n : ℕ) → get_or downs n 0 ≤ 2147483648

pub sums_of : (body one two up ups down downs : List ℕ) (changes : List Change) (cell : ℕ) → one ≡ body → two ≡ body → ups ≡ up → downs ≡ down
    → length up ≡ length one → length down ≡ length two → AreUps one changes cell up → AreDowns two changes cell down
    → ((n : ℕ) → get_or up n 0 ≤ 2147483647) → ((n : ℕ) → get_or down n 0 ≤ 2147483648) → AreSums body changes cell ups downs
sums_of body one two up ups down downs changes cell a b u d ups_count downs_count ups_are downs_are ups_most downs_most = record {
  ups_count = ap length u ∙ (ups_count ∙ ap length a);
  downs_count = ap length d ∙ (downs_count ∙ ap length b);
  ups_are = subst (λ (l : List ℕ). AreUps l changes cell ups) a (subst (λ (l : List ℕ). AreUps one changes cell l) (sym u) ups_are);
  downs_are = subst (λ (l : List ℕ). AreDowns l changes cell downs) b (subst (λ (l : List ℕ). AreDowns two changes cell l) (sym d) downs_are);
  ups_most = λ n. subst (λ (l : List ℕ). get_or l n 0 ≤ 2147483647) (sym u) (ups_most n);
  downs_most = λ n. subst (λ (l : List ℕ). get_or l n 0 ≤ 2147483648) (sym d) (downs_most n);
}

pub if_ok : {A E : Type 0} (r : Result A E) (P Q : A → Type 0) → ((a : A) → P a → Q a) → IfOk r P → IfOk r Q
if_ok (Ok a) P Q f h = f a h
if_ok (Err e) P Q f h = tt

module _ (graph : List (List ℕ)) (loops : List Loop) (nest : HasNest graph loops) (number : ℕ) (one : Loop) (at : slice_get loops number ≡ Some one)
    (graph_is : IsGraph graph) (small : List (List ℕ)) (small_is : IsBodyGraph (is_edge graph) one.body.items small) (small_graph : IsGraph small) (place : ℕ)
    (within : place < length one.body.items) (head : get_or one.body.items place 0 ≡ one.head) (changes : List Change) (cell : ℕ) (ups downs : List ℕ)
    (sums : AreSums one.body.items changes cell ups downs) (added : IsAdded (loops_in loops) one.head changes cell) where
  pub sums_balanced : AreBalanced (is_edge small) place (steps_of ups downs)
  sums_balanced = balanced graph loops nest number one at small small_is small_graph place within head changes cell ups downs
      sums.ups_count sums.downs_count sums.ups_are sums.downs_are added

  pub step_is : (step : Option TurnStep) → IsStepOrNone (is_edge small) all_nodes place (steps_of ups downs) step
      → IsStepOrNone (is_edge graph) ((loops_in loops).body one.head) one.head (changes_of changes cell) step
  step_is step s = whole_step graph loops nest number one at small small_is small_graph place within head changes cell ups downs
      sums.ups_count sums.downs_count sums.ups_are sums.downs_are step s

  pub step_short : (step : Option TurnStep) → IsStepOrNone (is_edge small) all_nodes place (steps_of ups downs) step → IfSome step IsShortStep
  step_short None s = tt
  step_short (Some step) s = short_step (is_edge small) place (steps_of ups downs) (length small) small_graph.within sums_balanced
      (let l : length small < 2 ^ 32 = small_graph.counted in omega (arith, l)) sums.ups_most sums.downs_most step s
