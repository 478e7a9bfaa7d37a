-- The heads of contexts with what bounds them.
use Rattle.std.proofs.Common.{◌≡◌, ℕ, zero, suc, ◌+◌, ◌-◌, ◌/◌, ◌<◌, ◌≤◌, ltb, Bool, true, false, ℤ, pos, negsuc, List, [], ◌∷◌, length, Option, Some, None, inl, inr, refl, sym, ap, subst, ◌∙◌, arith}
use Rattle.std.specs.Prelude.{is_some, neg_ℤ, nat_le, slice_get, unwrap_or, if◌then◌else◌}
use Rattle.std.specs.Option.{option_and_then, option_map}
use Rattle.std.proofs.lemmas.Bool.{false≢true, ltb-true}
use Rattle.std.proofs.lemmas.Option.{slice_get-get_or, slice_get_within}
use Rattle.abs_state.specs.State.{State, cell_at}
use Rattle.abs_state.specs.declared.head_bound.HeadBound.{HeadBound}
use Rattle.assert_bind.specs.Binding.{repeats}
use Rattle.bt_base.specs.Graph.{is_edge}
use Rattle.counter_bound.specs.Change.{changes_of}
use Rattle.counter_bound.specs.Counts.{IsCellBound, IsHeadBound, counter_of, passes_by as passes_of, signed}
use Rattle.counter_bound.specs.declared.change.Change.{Change}
use Rattle.frame_laws.specs.Context.{Counter, IsCounter}
use Rattle.graph_laws.specs.Loops.{Loops}
use Rattle.loop_nest.specs.LoopNest.{is_head}
use Rattle.loop_nest.specs.declared.natural_loop.Loop.{Loop}
use Rattle.path_bound.proofs.Placed.{head_place, place_reads}
use Rattle.path_bound.specs.Places.{loops_in, place_of}
use Rattle.turn_sums.specs.Step.{IsStep, size_of}
use Rattle.turn_sums.specs.declared.step.TurnStep.{TurnStep}
use Rattle.turn_sums.specs.declared.step.TurnStep.TheVariants.{Rises, Falls}
use Rattle.value_lattice.specs.Ends.{low_end, high_end}
use Rattle.wcet_report.specs.declared.context.Context.{Context}
use Rattle.wcet_report.specs.declared.loops.By.{By}
use Rattle.wcet_report.specs.declared.loops.By.TheVariants as by
use Rattle.wcet_report.specs.declared.loops.LoopOutcome.{LoopOutcome}
use Rattle.context_outcomes.specs.Counting.{IsCounterOf, changes_in}
use Rattle.context_outcomes.specs.Heads.{IsLoopOutcome, by_less, by_of, passes_by}
use Rattle.context_outcomes.specs.Inside.{Inside}
use Rattle.context_outcomes.specs.Setting.{Setting}
use Rattle.outcome_runs.specs.Family.{Looped, bounds_of, by_at, by_in, counter_if, counter_with, counters_of, loops_of, loops_with, passes_at, size_in, state_of_node}

some_same : {X : Type 0} {x y : X} → Some x ≡ Some y → x ≡ y
some_same e = cc

none_some : {X : Type 0} {x : X} → None ≡ Some x → ⊥
none_some e = cc

-- a number of a list that is as long as another
pub get_there : {X : Type 0} (xs : List X) (k : ℕ) → k < length xs → (x : X) × (slice_get xs k ≡ Some x)
get_there [] k low = absurd (omega (arith, low))
get_there (x ∷ xs) zero low = (x, refl)
get_there (x ∷ xs) (suc k) low = get_there xs k (omega (arith, low))

-- the size of a step with its sign
size_signed : (step : TurnStep) → size_in (signed step) ≡ size_of step
size_signed (Rises n) = refl
size_signed (Falls zero) = refl
size_signed (Falls (suc n)) = refl

at_most : (a b : ℕ) → a ≡ b → b ≤ a
at_most a b e = omega (arith, e)

-- what counts is a counter
by_step : (edge : ℕ → ℕ → Bool) (loops : Loops) (head : ℕ) (changes : List Change) (state : State) (cell passes : ℕ) (step : TurnStep)
    → IsStep edge (loops.body head) head (changes_of changes cell) step → passes ≡ passes_of state cell step
    → IsCounter edge (loops.body head) head passes (counter_of changes state cell step)
by_step edge loops head changes state cell passes (Rises n) s e =
    record { step = s.one; turns = inl s.rise; passes = at_most passes (passes_of state cell (Rises n)) e }
by_step edge loops head changes state cell passes (Falls n) s e =
    record { step = s.one; turns = inr s.fall; passes = at_most passes (passes_of state cell (Falls n)) e }

abbrev sized : List Change → State → ℕ → ℕ → Counter
sized changes state cell size = record {
  cell = cell;
  changes = changes_of changes cell;
  lo = low_end (cell_at state cell);
  hi = high_end (cell_at state cell);
  step = size;
}

bound_counts : (edge : ℕ → ℕ → Bool) (loops : Loops) (head : ℕ) (changes : List Change) (state : State) (bound : HeadBound)
    → IsCellBound edge loops head changes state bound → IsCounter edge (loops.body head) head bound.passes (counter_with changes bound state)
bound_counts edge loops head changes state bound is =
    subst (λ (n : ℕ). IsCounter edge (loops.body head) head bound.passes (sized changes state bound.cell n)) (sym (ap size_in is.step ∙ size_signed is.by))
    (by_step edge loops head changes state bound.cell bound.passes is.by is.counts.step is.passes)

-- what bounds a head by a counter
less_counter : (c b : HeadBound) (count : ℕ) (less : Bool) → (if less then by.Counter c else by.Asserted count) ≡ by.Counter b → c ≡ b
less_counter c b count true is = cc
less_counter c b count false is = cc

pub counter_is : (counter : Option HeadBound) (count : Option ℕ) (b : HeadBound) → by_of counter count ≡ by.Counter b → counter ≡ Some b
counter_is None None b is = cc
counter_is None (Some n) b is = cc
counter_is (Some c) None b is = cc
counter_is (Some c) (Some n) b is = ap Some (less_counter c b n (nat_le c.passes n) is)

less_asserted : (c : HeadBound) (count n : ℕ) (less : Bool) → (if less then by.Counter c else by.Asserted count) ≡ by.Asserted n → count ≡ n
less_asserted c count n true is = cc
less_asserted c count n false is = cc

pub asserted_is : (counter : Option HeadBound) (count : Option ℕ) (n : ℕ) → by_of counter count ≡ by.Asserted n → count ≡ Some n
asserted_is None None n is = cc
asserted_is None (Some k) n is = cc
asserted_is (Some c) None n is = cc
asserted_is (Some c) (Some k) n is = ap Some (less_asserted c k n (nat_le c.passes k) is)

module _ (S : Setting) {sub : ℕ} {context : Context} (within : Inside S sub context) (l : Looped S within) where
  -- a head with the outcome of its loop
  pub record IsHeadWith (h : ℕ) : Type 0 where
    pub one : Loop
    pub head : one.head ≡ h
    pub outcome : LoopOutcome
    pub at : slice_get l.outcomes (place_of l.loops h) ≡ Some outcome
    pub by : by_at l.loops l.outcomes h ≡ Some outcome.by
    pub is : IsLoopOutcome S within l.loops one outcome

  pub head_with : (h : ℕ) → is_head l.loops h ≡ true → IsHeadWith h
  head_with h there =
      let low : place_of l.loops h < length l.loops = ltb-true (place_of l.loops h) (length l.loops) (sym (head_place l.loops h) ∙ there) in
      let loop = place_reads l.loops h low in
      let found = get_there l.outcomes (place_of l.loops h) (omega (arith, low, l.each.count)) in
      record {
        one = loop.one;
        head = loop.head;
        outcome = found.0;
        at = found.1;
        by =
            ap (λ (b : Bool). if b then option_map by_in (slice_get l.outcomes (place_of l.loops h)) else None) there
            ∙ ap (option_map by_in) found.1;
        is = l.each.each (place_of l.loops h) loop.one found.0 loop.at found.1;
      }

  head_there : (h : ℕ) (b : By) → by_at l.loops l.outcomes h ≡ Some b → is_head l.loops h ≡ true
  head_there h b = cases (is_head l.loops h) where
    cases : (there : Bool) → (if there then option_map by_in (slice_get l.outcomes (place_of l.loops h)) else None) ≡ Some b → there ≡ true
    cases true is = refl
    cases false is = absurd (none_some is)

  some_by : (o : Option By) → is_some (option_and_then passes_by o) ≡ true → (b : By) × (o ≡ Some b)
  some_by None there = absurd (false≢true there)
  some_by (Some b) there = (b, refl)

  -- a head with a bound
  pub bounded_head : (h : ℕ) → (loops_of S within (Some l)).has h ≡ true → IsHeadWith h
  bounded_head h there = let b = some_by (by_at l.loops l.outcomes h) there in head_with h (head_there h b.0 b.1)

  -- a head that a counter bounds
  pub record IsCountedBy (h : ℕ) (counter : Counter) : Type 0 where
    pub bound : HeadBound
    pub state : State
    pub left : state_of_node S within h ≡ Some state
    pub is : counter_with (changes_in S within) bound state ≡ counter
    pub best : IsHeadBound (is_edge within.shape.graph) (loops_in l.loops) h (changes_in S within) state bound
    pub most : bounds_of S within (Some l) h ≡ bound.passes

  counted : (h : ℕ) (counter : Counter) (w : IsHeadWith h) (b : By) (s : Option State) → w.outcome.by ≡ b → state_of_node S within h ≡ s
      → counter_if (changes_in S within) s b ≡ Some counter → IsCountedBy h counter
  counted h counter w (by.Counter bound) (Some state) same left found =
      let some : w.is.counter ≡ Some bound = counter_is w.is.counter (repeats S.binding w.outcome.head.pc) bound (sym w.is.by ∙ same) in
      let here : state_of_node S within w.one.head ≡ Some state = ap (state_of_node S within) w.head ∙ left in
      let counts : IsCounterOf (is_edge within.shape.graph) (loops_in l.loops) w.one.head (changes_in S within) (Some state) (Some bound) =
      subst (λ (o : Option HeadBound). IsCounterOf (is_edge within.shape.graph) (loops_in l.loops) w.one.head (changes_in S within) (Some state) o) some
      (subst (λ (o : Option State). IsCounterOf (is_edge within.shape.graph) (loops_in l.loops) w.one.head (changes_in S within) o w.is.counter) here w.is.counts) in
      record {
        bound = bound;
        state = state;
        left = left;
        is = some_same found;
        best = subst (λ (n : ℕ). IsHeadBound (is_edge within.shape.graph) (loops_in l.loops) n (changes_in S within) state bound) w.head counts;
        most = ap (λ (o : Option By). unwrap_or (option_and_then passes_by o) 0) (w.by ∙ ap Some same);
      }
  counted h counter w (by.Counter bound) None same left found = absurd (none_some found)
  counted h counter w (by.Asserted count) s same left found = absurd (none_some found)
  counted h counter w by.Nothing s same left found = absurd (none_some found)

  pub counted_head : (h : ℕ) (counter : Counter) → (loops_of S within (Some l)).has h ≡ true → counters_of S within (Some l) h ≡ Some counter
      → IsCountedBy h counter
  counted_head h counter there found =
      let w = bounded_head h there in
      counted h counter w w.outcome.by (state_of_node S within h) refl refl
      (sym (ap (option_and_then (counter_if (changes_in S within) (state_of_node S within h))) w.by) ∙ found)

  -- so it is bounded
  pub counter_holds : (h : ℕ) (counter : Counter) → (loops_of S within (Some l)).has h ≡ true → counters_of S within (Some l) h ≡ Some counter
      → IsCounter (is_edge within.shape.graph) ((loops_of S within (Some l)).body h) h (bounds_of S within (Some l) h) counter
  counter_holds h counter there found =
      let c = counted_head h counter there found in
      subst (λ (n : ℕ). IsCounter (is_edge within.shape.graph) ((loops_in l.loops).body h) h n counter) (sym c.most)
      (subst (λ (k : Counter). IsCounter (is_edge within.shape.graph) ((loops_in l.loops).body h) h c.bound.passes k) c.is
      (bound_counts (is_edge within.shape.graph) (loops_in l.loops) h (changes_in S within) c.state c.bound c.best.is))

  -- a head whose bound no counter shows
  pub record IsAssertedWith (h : ℕ) : Type 0 where
    pub head : IsHeadWith h
    pub count : ℕ
    pub told : repeats S.binding head.outcome.head.pc ≡ Some count
    pub most : bounds_of S within (Some l) h ≡ count

  asserted : (h : ℕ) (w : IsHeadWith h) (b : By) (s : Option State) → w.outcome.by ≡ b → state_of_node S within h ≡ s
      → is_some (passes_by b) ≡ true → counter_if (changes_in S within) s b ≡ None → IsAssertedWith h
  asserted h w (by.Counter bound) (Some state) same left there none = absurd (none_some (sym none))
  asserted h w (by.Counter bound) None same left there none =
      let some : w.is.counter ≡ Some bound = counter_is w.is.counter (repeats S.binding w.outcome.head.pc) bound (sym w.is.by ∙ same) in
      let here : state_of_node S within w.one.head ≡ None = ap (state_of_node S within) w.head ∙ left in
      let without : w.is.counter ≡ None =
      subst (λ (o : Option State). IsCounterOf (is_edge within.shape.graph) (loops_in l.loops) w.one.head (changes_in S within) o w.is.counter) here w.is.counts in
      absurd (none_some (sym without ∙ some))
  asserted h w (by.Asserted count) s same left there none =
      record {
        head = w;
        count = count;
        told = asserted_is w.is.counter (repeats S.binding w.outcome.head.pc) count (sym w.is.by ∙ same);
        most = ap (λ (o : Option By). unwrap_or (option_and_then passes_by o) 0) (w.by ∙ ap Some same);
      }
  asserted h w by.Nothing s same left there none = absurd (false≢true there)

  pub asserted_head : (h : ℕ) → (loops_of S within (Some l)).has h ≡ true → counters_of S within (Some l) h ≡ None → IsAssertedWith h
  asserted_head h there none =
      let w = bounded_head h there in
      asserted h w w.outcome.by (state_of_node S within h) refl refl
      (sym (ap (λ (o : Option By). is_some (option_and_then passes_by o)) w.by) ∙ there)
      (sym (ap (option_and_then (counter_if (changes_in S within) (state_of_node S within h))) w.by) ∙ none)
