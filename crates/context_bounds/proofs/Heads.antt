-- The loops of a context with what bounds them, by the parts from which they are worked out.
use Rattle.std.proofs.Common.{◌≡◌, ℕ, zero, suc, ◌<◌, List, [], ◌∷◌, length, Option, Some, None, sym, subst, arith}
use Rattle.std.specs.Prelude.{slice_get}
use Rattle.std.specs.Option.{option_and_then}
use Rattle.abs_state.specs.declared.key.Place.{Place}
use Rattle.bt_base.specs.Graph.{is_edge}
use Rattle.context_bounds.specs.Heads.{HeadsAreOutcomes, IsHeadOutcome}
use Rattle.context_outcomes.specs.Counting.{IsCounterOf, changes_in}
use Rattle.context_outcomes.specs.Heads.{IsLoopOutcome}
use Rattle.context_outcomes.specs.Inside.{Inside, state_at}
use Rattle.context_outcomes.specs.Setting.{Setting}
use Rattle.graph_view.specs.Numbers.{IsNumber}
use Rattle.loop_nest.specs.declared.natural_loop.Loop.{Loop}
use Rattle.path_bound.specs.Places.{loops_in}
use Rattle.wcet_report.specs.declared.context.Context.{Context}
use Rattle.wcet_report.specs.declared.loops.LoopOutcome.{LoopOutcome}

-- two program points that stand at one place are one
some_place : (p q : Place) → Some p ≡ Some q → p ≡ q
some_place p q e = cc

-- no program point stands where there is none
none_place : (p : Place) → None ≡ Some p → ⊥
none_place p e = cc

-- a program point that stands at a place has its number
number_of : (nodes : List Place) (n : ℕ) (p : Place) → slice_get nodes n ≡ Some p → IsNumber nodes p n
number_of [] n p is = absurd (none_place p is)
number_of (q ∷ nodes) zero p is = record { within = omega arith; is = λ d. some_place q p is }
number_of (q ∷ nodes) (suc n) p is =
    let rest : IsNumber nodes p n = number_of nodes n p is in
    record { within = let low : n < length nodes = rest.within in omega (arith, low); is = rest.is }

-- a loop with what bounds it, as that of the context
one_outcome : {sub : ℕ} {context : Context} (S : Setting) (within : Inside S sub context) (loops : List Loop) (one : Loop) (outcome : LoopOutcome)
    → IsHeadOutcome within.shape.graph within.shape.nodes loops (changes_in S within) (state_at S within.args within.facts) S.binding one outcome
    → IsLoopOutcome S within loops one outcome
one_outcome S within loops one outcome is = record {
  head = number_of within.shape.nodes one.head outcome.head is.head;
  counter = is.counter;
  counts = subst
      (λ (o : Option Place). IsCounterOf (is_edge within.shape.graph) (loops_in loops) one.head (changes_in S within)
      (option_and_then (state_at S within.args within.facts) o) is.counter) (sym is.head) is.counts;
  by = is.by;
}

-- and so for each loop
pub heads_are_outcomes : HeadsAreOutcomes
heads_are_outcomes sub context S within loops outcomes are = record {
  count = are.count;
  each = λ k one outcome at told. one_outcome S within loops one outcome (are.each k one outcome at told);
}
