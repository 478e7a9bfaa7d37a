-- The bounds of the heads of a context are one.
use Rattle.std.proofs.Common.{◌≡◌, ℕ, ◌<◌, Bool, true, List, length, get_or, Option, Some, None, slice_get, refl, sym, ap, subst, ◌∙◌, arith}
use Rattle.std.specs.Option.{option_and_then}
use Rattle.std.proofs.lemmas.Option.{slice_get-get_or}
use Rattle.abs_state.specs.State.{State}
use Rattle.abs_state.specs.declared.head_bound.HeadBound.{HeadBound}
use Rattle.assert_bind.specs.Binding.{repeats}
use Rattle.bt_base.specs.Graph.{is_edge}
use Rattle.counter_bound.proofs.Counters.{one_bound}
use Rattle.counter_bound.specs.Counts.{IsBoundOrNone}
use Rattle.counter_bound.specs.declared.change.Change.{Change}
use Rattle.graph_laws.specs.Loops.{Loops}
use Rattle.loop_nest.specs.LoopNest.{is_head}
use Rattle.loop_nest.specs.declared.natural_loop.Loop.{Loop}
use Rattle.path_bound.proofs.Placed.{place_reads}
use Rattle.path_bound.specs.Places.{bound_in, loops_in, place_of}
use Rattle.wcet_report.specs.declared.context.Context.{Context}
use Rattle.wcet_report.specs.declared.loops.LoopOutcome.{LoopOutcome}
use Rattle.outcome_runs.proofs.Heads.{get_there}
use Rattle.context_outcomes.specs.Bounding.{AreBounded}
use Rattle.context_outcomes.specs.Counting.{IsCounterOf, changes_in}
use Rattle.context_outcomes.specs.Heads.{IsLoopOutcome, by_of, passes_by}
use Rattle.context_outcomes.specs.Inside.{Inside, state_at}
use Rattle.context_outcomes.specs.Setting.{Setting}
use Rattle.plain_laws.proofs.OneNest.{head_low, loops_one}

some_same : {X : Type 0} {x y : X} → Some x ≡ Some y → x ≡ y
some_same e = cc

-- what counts at a head is one
module _ (edge : ℕ → ℕ → Bool) (loops : Loops) (head : ℕ) (changes : List Change) where
  counter_one : (s : State) (one two : Option HeadBound) → IsBoundOrNone edge loops head changes s one → IsBoundOrNone edge loops head changes s two → one ≡ two
  counter_one s None None is too = refl
  counter_one s None (Some b) is too = absurd (is b.cell too.is.by too.is.counts)
  counter_one s (Some a) None is too = absurd (too a.cell is.is.by is.is.counts)
  counter_one s (Some a) (Some b) is too = ap Some (one_bound edge loops head changes s a b is too)

  counts_one : (o : Option State) (one two : Option HeadBound) → IsCounterOf edge loops head changes o one → IsCounterOf edge loops head changes o two → one ≡ two
  counts_one None one two is too = is ∙ sym too
  counts_one (Some s) one two is too = counter_one s one two is too

module _ (S : Setting) {sub : ℕ} {context : Context} (within : Inside S sub context) where
  -- a head with its loop, what bounds it, and its bound
  record IsToldHead (loops : List Loop) (bounds : List ℕ) (h : ℕ) : Type 0 where
    pub one : Loop
    pub head : one.head ≡ h
    pub outcome : LoopOutcome
    pub is : IsLoopOutcome S within loops one outcome
    pub passes : passes_by outcome.by ≡ Some (bound_in loops bounds h)

  told_head : (loops : List Loop) (bounds : List ℕ) → AreBounded S within loops bounds → (h : ℕ) → is_head loops h ≡ true → IsToldHead loops bounds h
  told_head loops bounds are h there =
      let low : place_of loops h < length loops = head_low loops h there in
      let at = place_reads loops h low in
      let found = get_there are.outcomes (place_of loops h) (omega (arith, low, are.each.count)) in
      let less : place_of loops h < length bounds = omega (arith, low, are.each.count, are.passes.count) in
      record {
        one = at.one;
        head = at.head;
        outcome = found.0;
        is = are.each.each (place_of loops h) at.one found.0 at.at found.1;
        passes = are.passes.each (place_of loops h) (bound_in loops bounds h) found.0 found.1 (slice_get-get_or bounds (place_of loops h) 0 less);
      }

  -- what counts at a loop's head, by the head
  abbrev counted_at : Loops → ℕ → Option HeadBound → Type 0
  counted_at loops h counter =
      IsCounterOf (is_edge within.shape.graph) loops h (changes_in S within)
      (option_and_then (state_at S within.args within.facts) (slice_get within.shape.nodes h)) counter

  module _ (xs ys : List Loop) (bs cs : List ℕ) (one : AreBounded S within xs bs) (two : AreBounded S within ys cs) (h : ℕ) where
    told_one : IsToldHead xs bs h → IsToldHead ys cs h → bound_in xs bs h ≡ bound_in ys cs h
    told_one a b =
        let here : a.outcome.head ≡ b.outcome.head =
        sym (a.is.head.is a.outcome.head)
        ∙ (ap (λ (k : ℕ). get_or within.shape.nodes k a.outcome.head) (a.head ∙ sym b.head) ∙ b.is.head.is a.outcome.head) in
        let first : counted_at (loops_in ys) h a.is.counter =
        subst (λ (loops : Loops). counted_at loops h a.is.counter)
        (loops_one (is_edge within.shape.graph) within.shape.entry xs ys one.nest two.nest)
        (subst (λ (k : ℕ). counted_at (loops_in xs) k a.is.counter) a.head a.is.counts) in
        let second : counted_at (loops_in ys) h b.is.counter = subst (λ (k : ℕ). counted_at (loops_in ys) k b.is.counter) b.head b.is.counts in
        let counter : a.is.counter ≡ b.is.counter =
        counts_one (is_edge within.shape.graph) (loops_in ys) h (changes_in S within)
        (option_and_then (state_at S within.args within.facts) (slice_get within.shape.nodes h)) a.is.counter b.is.counter first second in
        let by : a.outcome.by ≡ b.outcome.by =
        a.is.by ∙ ((λ i. by_of (counter i) (repeats S.binding (here i).pc)) ∙ sym b.is.by) in
        some_same (sym a.passes ∙ (ap passes_by by ∙ b.passes))

    -- the bounds of a head are one
    pub bounds_one : is_head xs h ≡ true → is_head ys h ≡ true → bound_in xs bs h ≡ bound_in ys cs h
    bounds_one there too = told_one (told_head xs bs one h there) (told_head ys cs two h too)
