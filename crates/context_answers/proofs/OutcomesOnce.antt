-- The loops of a context with what bounds each are determined.
use Rattle.std.proofs.Common.{◌≡◌, ℕ, Bool, List, length, Option, Some, None, refl, sym, ap, subst, ◌∙◌, arith}
use Rattle.std.specs.Prelude.{slice_get}
use Rattle.std.specs.Option.{option_and_then}
use Rattle.std.proofs.lemmas.Option.{slice_get_within}
use Rattle.abs_state.specs.State.{State}
use Rattle.abs_state.specs.declared.head_bound.HeadBound.{HeadBound}
use Rattle.assert_bind.specs.Binding.{repeats}
use Rattle.bt_base.specs.Graph.{is_edge}
use Rattle.context_answers.proofs.Lists.{get_there, one_place, same_at, some_same}
use Rattle.context_answers.proofs.LoopsOnce.{head_at, same_count, same_loops}
use Rattle.context_outcomes.specs.Counting.{IsCounterOf, changes_in}
use Rattle.context_outcomes.specs.Heads.{AreHeadBounds, AreLoopOutcomes, AreLoops, IsLoopOutcome, by_of}
use Rattle.context_outcomes.specs.Inside.{Inside, state_at}
use Rattle.context_outcomes.specs.Setting.{Setting}
use Rattle.counter_bound.proofs.Counters.{one_bound}
use Rattle.counter_bound.specs.Counts.{IsBoundOrNone}
use Rattle.counter_bound.specs.declared.change.Change.{Change}
use Rattle.graph_laws.specs.Loops.{Loops}
use Rattle.loop_nest.specs.declared.natural_loop.Loop.{Loop}
use Rattle.path_bound.specs.Places.{loops_in}
use Rattle.wcet_report.specs.declared.context.Context.{Context}
use Rattle.wcet_report.specs.declared.loops.LoopOutcome.{LoopOutcome}

-- what counts at a head is determined
bound_once : (edge : ℕ → ℕ → Bool) (loops : Loops) (head : ℕ) (changes : List Change) (state : State) (one two : Option HeadBound)
    → IsBoundOrNone edge loops head changes state one → IsBoundOrNone edge loops head changes state two → one ≡ two
bound_once edge loops head changes state None None is too = refl
bound_once edge loops head changes state None (Some b) is too = absurd (is b.cell too.is.by too.is.counts)
bound_once edge loops head changes state (Some a) None is too = absurd (too a.cell is.is.by is.is.counts)
bound_once edge loops head changes state (Some a) (Some b) is too = ap Some (one_bound edge loops head changes state a b is too)

counter_once : (edge : ℕ → ℕ → Bool) (loops : Loops) (head : ℕ) (changes : List Change) (state : Option State) (one two : Option HeadBound)
    → IsCounterOf edge loops head changes state one → IsCounterOf edge loops head changes state two → one ≡ two
counter_once edge loops head changes None one two is too = is ∙ sym too
counter_once edge loops head changes (Some s) one two is too = bound_once edge loops head changes s one two is too

module _ (S : Setting) {sub : ℕ} {context : Context} (within : Inside S sub context) (one two : List Loop) (is : AreLoops within.shape one)
    (too : AreLoops within.shape two) where
  left_at_node : ℕ → Option State
  left_at_node h = option_and_then (state_at S within.args within.facts) (slice_get within.shape.nodes h)

  outcome_once : (l m : Loop) (a b : LoopOutcome) → l.head ≡ m.head → IsLoopOutcome S within one l a → IsLoopOutcome S within two m b → a ≡ b
  unfolding left_at_node
  outcome_once l m a b same first second =
      let place : a.head ≡ b.head = one_place within.shape.nodes a.head b.head l.head m.head same first.head second.head in
      let there : IsCounterOf (is_edge within.shape.graph) (loops_in one) m.head (changes_in S within) (left_at_node m.head) second.counter =
      subst (λ (L : Loops). IsCounterOf (is_edge within.shape.graph) L m.head (changes_in S within) (left_at_node m.head) second.counter)
      (sym (same_loops (is_edge within.shape.graph) within.shape.entry one two is too)) second.counts in
      let here : IsCounterOf (is_edge within.shape.graph) (loops_in one) l.head (changes_in S within) (left_at_node l.head) second.counter =
      subst (λ (h : ℕ). IsCounterOf (is_edge within.shape.graph) (loops_in one) h (changes_in S within) (left_at_node h) second.counter) (sym same) there in
      let counter : first.counter ≡ second.counter =
      counter_once (is_edge within.shape.graph) (loops_in one) l.head (changes_in S within) (left_at_node l.head) first.counter second.counter first.counts here in
      let by : a.by ≡ b.by =
      first.by ∙ ((λ i. by_of (counter i) (repeats S.binding (place i).pc)) ∙ sym second.by) in
      λ i. record { head = place i; by = by i }

  -- so all are
  pub outcomes_once : (xs ys : List LoopOutcome) → AreLoopOutcomes S within one xs → AreLoopOutcomes S within two ys → xs ≡ ys
  outcomes_once xs ys first second =
      let many : length one ≡ length two = same_count (is_edge within.shape.graph) within.shape.entry one two is too in
      same_at xs ys (first.count ∙ (many ∙ sym second.count))
      (λ k a b at there.
      let l = get_there one k (let low = slice_get_within xs k a at in omega (arith, low, first.count)) in
      let m = get_there two k (let low = slice_get_within ys k b there in omega (arith, low, second.count)) in
      outcome_once l.0 m.0 a b (head_at (is_edge within.shape.graph) within.shape.entry one two is too k l.0 m.0 l.1 m.1)
      (first.each k l.0 a l.1 at) (second.each k m.0 b m.1 there))

-- the bounds of heads are determined by what bounds each loop
pub bounds_once : (outcomes : List LoopOutcome) (xs ys : List ℕ) → AreHeadBounds outcomes xs → AreHeadBounds outcomes ys → xs ≡ ys
bounds_once outcomes xs ys first second =
    same_at xs ys (first.count ∙ sym second.count)
    (λ k x y at there.
    let o = get_there outcomes k (let low = slice_get_within xs k x at in omega (arith, low, first.count)) in
    some_same (sym (first.each k x o.0 o.1 at) ∙ second.each k y o.0 o.1 there))
