-- What counts in the contexts of outcomes counts.
use Rattle.std.proofs.Common.{◌≡◌, ◌≢◌, ◌⊎◌, ℕ, zero, suc, ◌+◌, ◌^◌, ◌<◌, ◌≤◌, Bool, true, false, ℤ, List, [], ◌∷◌, ◌++◌, length, Option, Some, None, inl, inr, refl, sym, ap, subst, ◌∙◌, arith}
use Rattle.std.specs.Prelude.{◌==◌, is_some, map, slice_get, if◌then◌else◌}
use Rattle.std.specs.Option.{option_and_then}
use Rattle.std.proofs.lemmas.Bool.{false≢true}
use Rattle.abs_state.specs.State.{State, cell_at, is_state_over}
use Rattle.abs_state.specs.declared.key.Key.TheVariants as key
use Rattle.abs_state.specs.declared.key.Place.{Place}
use Rattle.bt_base.specs.Graph.{is_edge}
use Rattle.call_effects.specs.Cell.{cell_of}
use Rattle.context_steps.specs.Followed.{AreContexts}
use Rattle.counter_bound.specs.Change.{adds_to, changes_of, down_in, touches, up_in}
use Rattle.counter_bound.specs.declared.change.Change.{Change}
use Rattle.counter_bound.specs.declared.change.Change.TheVariants.{Add, Other}
use Rattle.counting_steps.specs.Changes.{Adds, AreChanges, Leaves}
use Rattle.frame_laws.specs.Context.{Counter}
use Rattle.path_bound.specs.Places.{loops_in}
use Rattle.transfer_rules.proofs.FactKinds.{fitting}
use Rattle.transfer_rules.proofs.HandedValues.{cell_over}
use Rattle.transfer_rules.specs.Closed.{IsAllowed, IsTaken}
use Rattle.transfer_rules.specs.Fact.{state_in}
use Rattle.transfer_rules.specs.Lawful.{is_over_or_none}
use Rattle.transfer_rules.specs.declared.act.Way.{Way}
use Rattle.transfer_rules.specs.declared.fact.Fact.{Fact}
use Rattle.transfer_rules.specs.declared.fact.Fact.TheVariants as fact
use Rattle.transfer_rules.specs.declared.step.Step.{Step}
use Rattle.transfer_values.proofs.LawLemmas.{families_are_lawful}
use Rattle.transfer_values.specs.Family.{family}
use Rattle.transfer_values.specs.Narrow.{narrowed}
use Rattle.value_lattice.proofs.TestLemmas.{over_decides}
use Rattle.value_lattice.specs.Ends.{high_end, low_end}
use Rattle.value_lattice.specs.Order.{place_of}
use Rattle.value_lattice.specs.Value.{IsValue, MayHave}
use Rattle.wcet_report.specs.declared.loops.By.{By}
use Rattle.wcet_report.specs.declared.loops.By.TheVariants as by
use Rattle.wcet_report.specs.declared.outcome.Outcome.{Outcome}
use Rattle.context_outcomes.specs.Arguments.{thresholds_with}
use Rattle.context_outcomes.specs.Counting.{change_at, changes_in}
use Rattle.context_outcomes.specs.Heads.{passes_by}
use Rattle.context_outcomes.specs.Inside.{state_at}
use Rattle.context_outcomes.specs.Setting.{Setting, facts_in, program_of}
use Rattle.outcome_runs.proofs.Changing.{between_ends, changed}
use Rattle.outcome_runs.proofs.Contextual.{are_contexts, args_of, wide}
use Rattle.outcome_runs.proofs.Filling.{node_at}
use Rattle.outcome_runs.proofs.Heads.{IsCountedBy, counted_head}
use Rattle.outcome_runs.proofs.Lows.{added_low, counting_adds, mapped_from}
use Rattle.outcome_runs.specs.Family.{Looped, by_at, context_of, contexts_of, counter_if, counters_of, facts_of, looped, loops_of, number_of, place_in, state_of_node}
use Rattle.outcome_runs.specs.Laws.{OutcomesCount}
use Rattle.outcome_runs.specs.Told.{Entry, IsKnown, Told}

some_same : {X : Type 0} {x y : X} → Some x ≡ Some y → x ≡ y
some_same e = cc

none_some : {X : Type 0} {x : X} → None ≡ Some x → ⊥
none_some e = cc

-- what is made of what stands at a place
get_mapped : {A B : Type 0} (f : A → B) (xs : List A) (k : ℕ) (x : A) → slice_get xs k ≡ Some x → slice_get (map f xs) k ≡ Some (f x)
get_mapped f [] k x at = cc
get_mapped f (a ∷ xs) zero x at = ap (λ b. Some (f b)) (some_same at)
get_mapped f (a ∷ xs) (suc k) x at = get_mapped f xs k x at

module _ (S : Setting) (known : IsKnown S) (one : Entry S) where
  abbrev nodes : List Place
  nodes = one.is.within.shape.nodes

  abbrev more : List ℕ
  more = thresholds_with S one.is.within.args

  -- what is allowed at a program point is what is left of its state
  left_is : (p : Place) (before : State) → IsAllowed (family more S.image S.binding) one.is.within.facts p before
      → state_at S one.is.within.args one.is.within.facts p ≡ Some before
  left_is p before allowed =
      ap (λ (o : Option Fact). option_and_then (narrowed more S.binding p) (state_in o)) allowed.found ∙ allowed.narrowed

  values : (p : Place) (before : State) → IsAllowed (family more S.image S.binding) one.is.within.facts p before → (c : ℕ) → IsValue (cell_at before c)
  values p before allowed c =
      let first = (fitting more (key.Node p) (fact.State allowed.state) (one.is.within.are.least.closed.fit (key.Node p) (fact.State allowed.state) allowed.found)).over in
      let lawful = families_are_lawful.lawful more S.image S.binding (wide S known one.is.within.args) in
      let over : is_state_over more before ≡ true =
      subst (λ (o : Option State). is_over_or_none more o ≡ true) allowed.narrowed (lawful.narrow p allowed.state first) in
      ((over_decides more (cell_at before c)).0 (cell_over more before c (wide S known one.is.within.args) over)).value

  there : (p : Place) (before : State) → IsAllowed (family more S.image S.binding) one.is.within.facts p before → slice_get nodes (place_in nodes p) ≡ Some p
  there p before allowed = node_at S known one p (ap is_some allowed.found)

  change_is : (p : Place) (before : State) → IsAllowed (family more S.image S.binding) one.is.within.facts p before
      → slice_get (changes_in S one.is.within) (place_in nodes p) ≡ Some (change_at S p (Some before))
  change_is p before allowed =
      get_mapped (λ q. change_at S q (state_at S one.is.within.args one.is.within.facts q)) nodes (place_in nodes p) p (there p before allowed)
      ∙ ap (λ (o : Option State). Some (change_at S p o)) (left_is p before allowed)

  module _ (l : Looped S one.is.within) (h : ℕ) (counter : Counter) (has : (loops_of S one.is.within (Some l)).has h ≡ true) (found : counters_of S one.is.within (Some l) h ≡ Some counter) where
    shown : IsCountedBy S one.is.within l h counter
    shown = counted_head S one.is.within l h counter has found

    pub changes_as : (p : Place) (step : Step) (way : Way) (before after : State) → (loops_of S one.is.within (Some l)).body h (place_in nodes p) ≡ true
        → IsTaken (family more S.image S.binding) (program_of S) one.is.within.facts p step way before after
        → Leaves (facts_in S) p step counter.cell (counter.changes.up (place_in nodes p)) (counter.changes.down (place_in nodes p))
        ⊎ Adds p step before counter.cell (counter.changes.up (place_in nodes p)) (counter.changes.down (place_in nodes p))
    changes_as p step way before after inside taken =
        let at = change_is p before taken.allowed in
        let only = shown.best.is.counts.added.adds (place_in nodes p) (change_at S p (Some before)) inside at in
        let made = changed S p step way before taken.act (values p before taken.allowed) shown.bound.cell only in
        subst (λ (c : Counter). Leaves (facts_in S) p step c.cell (c.changes.up (place_in nodes p)) (c.changes.down (place_in nodes p))
        ⊎ Adds p step before c.cell (c.changes.up (place_in nodes p)) (c.changes.down (place_in nodes p))) shown.is
        (subst (λ (o : Option Change). Leaves (facts_in S) p step shown.bound.cell (up_in o shown.bound.cell) (down_in o shown.bound.cell)
        ⊎ Adds p step before shown.bound.cell (up_in o shown.bound.cell) (down_in o shown.bound.cell)) (sym at) made)

    pub heads_within : (p : Place) (before : State) → place_in nodes p ≡ h → IsAllowed (family more S.image S.binding) one.is.within.facts p before
        → (w : ℕ) → w < 2 ^ 32 → MayHave (cell_at before counter.cell) w → (counter.lo ≤ place_of w) × (place_of w ≤ counter.hi)
    heads_within p before here allowed w low may =
        let at : slice_get nodes h ≡ Some p = ap (slice_get nodes) (sym here) ∙ there p before allowed in
        let left : state_of_node S one.is.within h ≡ Some before =
        ap (option_and_then (state_at S one.is.within.args one.is.within.facts)) at ∙ left_is p before allowed in
        let same : before ≡ shown.state = some_same (sym left ∙ shown.left) in
        let may_there : MayHave (cell_at before shown.bound.cell) w = subst (λ (c : Counter). MayHave (cell_at before c.cell) w) (sym shown.is) may in
        let ends = between_ends (cell_at before shown.bound.cell) w (values p before allowed shown.bound.cell) low may_there in
        subst (λ (c : Counter). (c.lo ≤ place_of w) × (place_of w ≤ c.hi)) shown.is
        (subst (λ (s : State). (low_end (cell_at s shown.bound.cell) ≤ place_of w) × (place_of w ≤ high_end (cell_at s shown.bound.cell))) same ends)

  module _ (l : Looped S one.is.within) where
    with_bound : (h : ℕ) (counter : Counter) (o : Option By) → by_at l.loops l.outcomes h ≡ o
        → option_and_then (counter_if (changes_in S one.is.within) (state_of_node S one.is.within h)) o ≡ Some counter → is_some (option_and_then passes_by o) ≡ true
    with_bound h counter None same found = absurd (none_some found)
    with_bound h counter (Some (by.Counter bound)) same found = refl
    with_bound h counter (Some (by.Asserted count)) same found = refl
    with_bound h counter (Some by.Nothing) same found = absurd (none_some found)

    pub low_cell : (h : ℕ) (counter : Counter) → counters_of S one.is.within (Some l) h ≡ Some counter → counter.cell < 48
    low_cell h counter found =
        let has = with_bound h counter (by_at l.loops l.outcomes h) refl found in
        let c = counted_head S one.is.within l h counter has found in
        let added =
        counting_adds (is_edge one.is.within.shape.graph) ((loops_in l.loops).body h) h (changes_in S one.is.within) c.bound.cell c.best.is.by c.best.is.counts.step in
        let from =
        mapped_from (λ p. change_at S p (state_at S one.is.within.args one.is.within.facts p)) nodes added.node (Add c.bound.cell added.amount) added.at in
        subst (λ (k : Counter). k.cell < 48) c.is
        (added_low S from.0 (state_at S one.is.within.args one.is.within.facts from.0) c.bound.cell added.amount from.1)

module _ (S : Setting) (list : List Outcome) (told : Told S list) (known : IsKnown S) where
  low_at : (c : ℕ) (o : Option (Entry S)) (h : ℕ) (counter : Counter) → (context_of told c o).counter h ≡ Some counter → counter.cell < 48
  low_at c None h counter found = absurd (none_some found)
  low_at c (Some one) h counter found = cases (looped one) found where
    cases : (l : Option (Looped S one.is.within)) → counters_of S one.is.within l h ≡ Some counter → counter.cell < 48
    cases None none = absurd (none_some none)
    cases (Some l) some = low_cell S known one l h counter some

  changes_at : (c : ℕ) (o : Option (Entry S)) (h : ℕ) (counter : Counter) (p : Place) (step : Step) (way : Way) (before after : State)
      → (context_of told c o).loops.has h ≡ true → (context_of told c o).counter h ≡ Some counter
      → (context_of told c o).loops.body h (number_of told o p) ≡ true
      → IsTaken (family (thresholds_with S (args_of S list told known o)) S.image S.binding) (program_of S) (facts_of told o) p step way before after
      → Leaves (facts_in S) p step counter.cell (counter.changes.up (number_of told o p)) (counter.changes.down (number_of told o p))
      ⊎ Adds p step before counter.cell (counter.changes.up (number_of told o p)) (counter.changes.down (number_of told o p))
  changes_at c None h counter p step way before after has found inside taken = absurd (false≢true has)
  changes_at c (Some one) h counter p step way before after has found inside taken = cases (looped one) has found inside where
    cases : (l : Option (Looped S one.is.within)) → (loops_of S one.is.within l).has h ≡ true → counters_of S one.is.within l h ≡ Some counter
        → (loops_of S one.is.within l).body h (place_in one.is.within.shape.nodes p) ≡ true
        → Leaves (facts_in S) p step counter.cell (counter.changes.up (place_in one.is.within.shape.nodes p)) (counter.changes.down (place_in one.is.within.shape.nodes p))
        ⊎ Adds p step before counter.cell (counter.changes.up (place_in one.is.within.shape.nodes p)) (counter.changes.down (place_in one.is.within.shape.nodes p))
    cases None there none body = absurd (false≢true there)
    cases (Some l) there some body = changes_as S known one l h counter there some p step way before after body taken

  heads_at : (c : ℕ) (o : Option (Entry S)) (h : ℕ) (counter : Counter) (p : Place) (before : State) → (context_of told c o).loops.has h ≡ true
      → (context_of told c o).counter h ≡ Some counter → number_of told o p ≡ h
      → IsAllowed (family (thresholds_with S (args_of S list told known o)) S.image S.binding) (facts_of told o) p before
      → (w : ℕ) → w < 2 ^ 32 → MayHave (cell_at before counter.cell) w → (counter.lo ≤ place_of w) × (place_of w ≤ counter.hi)
  heads_at c None h counter p before has found here allowed = absurd (false≢true has)
  heads_at c (Some one) h counter p before has found here allowed = cases (looped one) has found where
    cases : (l : Option (Looped S one.is.within)) → (loops_of S one.is.within l).has h ≡ true → counters_of S one.is.within l h ≡ Some counter
        → (w : ℕ) → w < 2 ^ 32 → MayHave (cell_at before counter.cell) w → (counter.lo ≤ place_of w) × (place_of w ≤ counter.hi)
    cases None there none = absurd (false≢true there)
    cases (Some l) there some = heads_within S known one l h counter there some p before here allowed

  pub counts : AreChanges S.image S.binding S.eight S.thresholds (facts_in S) (contexts_of told) (are_contexts S list told known)
  unfolding are_contexts
  counts = record {
    low = λ c h counter has found. low_at c (slice_get told.entries c) h counter found;
    changes = λ c h counter p step way before after has there found inside taken.
        changes_at c (slice_get told.entries c) h counter p step way before after there found inside taken;
    heads = λ c h counter p before has there found here allowed. heads_at c (slice_get told.entries c) h counter p before there found here allowed;
  }

pub outcomes_count : OutcomesCount
outcomes_count S list told known = record { contexts = are_contexts S list told known; changes = counts S list told known }
