-- The outcomes of a program can be reported.
use Rattle.std.proofs.Common.{◌≡◌, ◌==◌, ℕ, ◌<◌, Bool, true, false, List, [], ◌∷◌, length, get_or, Option, Some, None, Contains}
use Rattle.std.proofs.Common.{inl, inr, refl, sym, ap, subst, ◌∙◌, arith, cond}
use Rattle.std.specs.Prelude.{All, IfSome, nat_le, slice_get, if◌then◌else◌}
use Rattle.std.specs.List.{filter}
use Rattle.std.specs.Option.{option_and_then}
use Rattle.std.proofs.lemmas.Bool.{and_from, and_parts, eq-eqb, eqb-true, false≢true}
use Rattle.std.proofs.lemmas.List.Elements.{Contains-get_or}
use Rattle.std.proofs.lemmas.Option.{slice_get-get_or, slice_get_within}
use Rattle.abs_state.specs.State.{State}
use Rattle.abs_state.specs.declared.head_bound.HeadBound.{HeadBound}
use Rattle.abs_state.specs.declared.key.Place.{Place}
use Rattle.assert_bind.specs.Binding.{repeats, roots}
use Rattle.bt_base.specs.Graph.{is_edge}
use Rattle.call_laws.proofs.Risings.{contains_cases, contains_first, contains_later}
use Rattle.graph_laws.specs.Loops.{Loops}
use Rattle.graph_view.specs.Numbers.{IsNumber}
use Rattle.counter_bound.specs.declared.change.Change.TheVariants.{Add}
use Rattle.outcome_runs.proofs.Lows.{added_low, counting_adds, mapped_from}
use Rattle.outcome_runs.proofs.Numbering.{one_number}
use Rattle.path_bound.specs.Places.{loops_in}
use Rattle.report_runs.proofs.Rooted.{IsChosenFor, chosen_for, one_open}
use Rattle.value_lattice.specs.Value.{IsValue}
use Rattle.context_inside.proofs.Entered.{all_values}
use Rattle.wcet_report.specs.Context.{HasArguments, is_open}
use Rattle.wcet_report.specs.Laws.{ContextInRange}
use Rattle.wcet_report.specs.Outcome.{HasCell}
use Rattle.wcet_report.specs.Report.{AreApart, is_of_root, outcomes_of}
use Rattle.wcet_report.specs.declared.context.Context.{Context}
use Rattle.wcet_report.specs.declared.context.Context.TheVariants.{Plain, With}
use Rattle.wcet_report.specs.declared.loops.By.TheVariants.{Asserted, Counter}
use Rattle.wcet_report.specs.declared.loops.LoopOutcome.{LoopOutcome}
use Rattle.wcet_report.specs.declared.outcome.Outcome.{Outcome}
use Rattle.wcet_report.specs.declared.outcome.Outcomes.{Outcomes}
use Rattle.context_answers.proofs.Lists.{at_among, get_there}
use Rattle.context_outcomes.specs.Counting.{IsCounterOf, change_at, changes_in}
use Rattle.context_outcomes.specs.Heads.{by_of}
use Rattle.context_outcomes.specs.Inside.{Inside, state_at}
use Rattle.context_outcomes.specs.Outcomes.{AreOutcomes, AreTold}
use Rattle.context_outcomes.specs.Setting.{Setting}
use Rattle.outcome_laws.proofs.Outcomes.{each_once, outcomes_of_contexts_are_one}
use Rattle.outcome_laws.proofs.Permutations.{IsEachOnce, first_once, later_once}
use Rattle.outcome_laws.proofs.Roots.{IsRootOutcome, chosen_open, root_outcome}
use Rattle.outcome_laws.specs.Laws.{OutcomesAreReportable}

-- no item of a list passes a test
none_pass : {X : Type 0} (test : X → Bool) (xs : List X) → ((x : X) → Contains xs x → test x ≡ true → ⊥) → length (filter test xs) ≡ 0
none_pass test [] never = refl
none_pass {X} test (x ∷ xs) never =
    by (test x) refl (none_pass test xs (λ y has. never y (contains_later x xs y has))) where
      by : (b : Bool) → test x ≡ b → length (filter test xs) ≡ 0 → length (cond b (x ∷ filter test xs) (filter test xs)) ≡ 0
      by true passes rest = absurd (never x (contains_first x xs) passes)
      by false other rest = rest

-- one item of a list, which stands there once, passes it
one_passes : {X : Type 0} (test : X → Bool) (xs : List X) (one : X) → IsEachOnce xs → Contains xs one → test one ≡ true
    → ((x : X) → Contains xs x → test x ≡ true → x ≡ one) → length (filter test xs) ≡ 1
one_passes test [] one once has passes only = absurd (let low = has.1 in omega (arith, low))
one_passes {X} test (x ∷ xs) one once has passes only =
    by (test x) refl
    (λ later. one_passes test xs one (later_once x xs once) later passes (λ y among pass. only y (contains_later x xs y among) pass))
  where
    by : (b : Bool) → test x ≡ b → (Contains xs one → length (filter test xs) ≡ 1) → length (cond b (x ∷ filter test xs) (filter test xs)) ≡ 1
    by true here further =
        let same : x ≡ one = only x (contains_first x xs) here in
        let none : length (filter test xs) ≡ 0 =
        none_pass test xs
        (λ y among pass.
        let also : y ≡ one = only y (contains_later x xs y among) pass in
        first_once x xs once (subst (Contains xs) (also ∙ sym same) among)) in
        omega (arith, none)
    by false other further = elim (contains_cases x xs one has) [
      | inl first ↦ absurd (false≢true (sym other ∙ (ap test first ∙ passes)))
      | inr later ↦ further later
    ]

-- what holds of each member holds of all
all_from : {X : Type 0} (P : X → Type 0) (xs : List X) → ((x : X) → Contains xs x → P x) → All P xs
all_from P xs each = λ k d low. each (get_or xs k d) (Contains-get_or xs k d low)

-- the heads of a context's loops are different
told_apart : (S : Setting) {sub : ℕ} {context : Context} (within : Inside S sub context) (ls : List LoopOutcome) → AreTold S within ls
    → AreApart (λ a b. a.head ≡ b.head) ls
told_apart S within ls (inl (loops, nest, each)) j k d before low alike =
    let count : length ls ≡ length loops = each.count in
    let l = get_there loops j (omega (arith, before, low, count)) in
    let m = get_there loops k (omega (arith, low, count)) in
    let first = each.each j l.0 (get_or ls j d) l.1 (slice_get-get_or ls j d (omega (arith, before, low))) in
    let second = each.each k m.0 (get_or ls k d) m.1 (slice_get-get_or ls k d low) in
    let heads : l.0.head ≡ m.0.head =
    one_number within.shape.nodes within.shape.points.rising (get_or ls j d).head l.0.head m.0.head first.head
    (subst (λ (p : Place). IsNumber within.shape.nodes p m.0.head) (sym alike) second.head) in
    let rises : l.0.head < m.0.head = nest.rising j k l.0 m.0 before l.1 m.1 in
    omega (arith, heads, rises)
told_apart S within ls (inr none) j k d before low alike = let empty : length ls ≡ 0 = ap length none.1 in omega (arith, low, empty)

-- the cell of what counts at a head is one that some program point adds to
module _ (S : Setting) {sub : ℕ} {context : Context} (within : Inside S sub context) where
  -- it is one of 48
  counter_low : (loops : Loops) (head : ℕ) (o : Option State) (counter : Option HeadBound)
      → IsCounterOf (is_edge within.shape.graph) loops head (changes_in S within) o counter → IfSome counter (λ b. b.cell < 48)
  counter_low loops head None counter none = subst (λ (c : Option HeadBound). IfSome c (λ b. b.cell < 48)) (sym none) tt
  counter_low loops head (Some s) None is = tt
  counter_low loops head (Some s) (Some b) is =
      let adds = counting_adds (is_edge within.shape.graph) (loops.body head) head (changes_in S within) b.cell is.is.by is.is.counts.step in
      let from = mapped_from (λ p. change_at S p (state_at S within.args within.facts p)) within.shape.nodes adds.node (Add b.cell adds.amount) adds.at in
      added_low S from.0 (state_at S within.args within.facts from.0) b.cell adds.amount from.1

-- so is that of the less of what counts and what is asserted
less_cell : (counter : HeadBound) (count : ℕ) (less : Bool) → counter.cell < 48 → HasCell (if less then Counter counter else Asserted count)
less_cell counter count true low = low
less_cell counter count false low = tt

-- and of what bounds a head
by_cell : (counter : Option HeadBound) (count : Option ℕ) → IfSome counter (λ b. b.cell < 48) → HasCell (by_of counter count)
by_cell None None low = tt
by_cell None (Some count) low = tt
by_cell (Some counter) None low = low
by_cell (Some counter) (Some count) low = less_cell counter count (nat_le counter.passes count) low

-- the counters of the loops that are told are cells
told_cell : (S : Setting) {sub : ℕ} {context : Context} (within : Inside S sub context) (ls : List LoopOutcome) → AreTold S within ls → (o : LoopOutcome)
    → Contains ls o → HasCell o.by
told_cell S within ls (inl (loops, nest, each)) o has =
    let at = at_among ls o has in
    let count : length ls ≡ length loops = each.count in
    let low : at.0 < length ls = slice_get_within ls at.0 o at.1 in
    let one = get_there loops at.0 (omega (arith, low, count)) in
    let is = each.each at.0 one.0 o one.1 at.1 in
    subst HasCell (sym is.by)
    (by_cell is.counter (repeats S.binding o.head.pc)
    (counter_low S within (loops_in loops) one.0.head
    (option_and_then (state_at S within.args within.facts) (slice_get within.shape.nodes one.0.head)) is.counter is.counts))
told_cell S within ls (inr none) o has =
    let low : has.0 < length ls = has.1 in
    let empty : length ls ≡ 0 = ap length none.1 in absurd (omega (arith, low, empty))

-- a context that is chosen for thirteen values has thirteen values, or none
context_fits : (S : Setting) (sub : ℕ) (context : Context) → IsChosenFor S sub context → ContextInRange context × HasArguments context
context_fits S sub Plain is = (tt, tt)
context_fits S sub (With list) is = (subst (All IsValue) (sym is.chosen.1) (all_values is.args is.values), ap length is.chosen.1 ∙ is.count)

module _ (S : Setting) (outcomes : Outcomes) (are : AreOutcomes S outcomes) where
  -- each context fits
  fits : (o : Outcome) → Contains outcomes.list o → ContextInRange o.context × HasArguments o.context
  fits o has = context_fits S o.sub o.context (chosen_for S o.sub o.context (are.each o has).0)

  -- no context stands twice
  contexts_apart : AreApart (λ a b. (a.sub ≡ b.sub) × (a.context ≡ b.context)) outcomes.list
  contexts_apart j k d before low alike =
      let same : j ≡ k =
      are.once j k (get_or outcomes.list j d) (get_or outcomes.list k d) (slice_get-get_or outcomes.list j d (omega (arith, before, low)))
      (slice_get-get_or outcomes.list k d low) alike.0 alike.1 in
      omega (arith, same, before)

  -- nor does a head in one of them
  heads_apart : All (λ o. AreApart (λ a b. a.head ≡ b.head) o.loops) outcomes.list
  heads_apart =
      all_from (λ o. AreApart (λ a b. a.head ≡ b.head) o.loops) outcomes.list
      (λ o has. let is = (are.each o has).1.is in told_apart S is.within o.loops is.loops)

  -- the values of their arguments are values
  pub contexts_in_range : All (λ o. ContextInRange o.context) outcomes.list
  contexts_in_range = all_from (λ o. ContextInRange o.context) outcomes.list (λ o has. (fits o has).0)

  -- their counters are cells
  cells_low : All (λ o. All (λ each. HasCell each.by) o.loops) outcomes.list
  cells_low =
      all_from (λ o. All (λ each. HasCell each.by) o.loops) outcomes.list
      (λ o has.
      let is = (are.each o has).1.is in all_from (λ each. HasCell each.by) o.loops (told_cell S is.within o.loops is.loops))

  -- a root has one outcome in which nothing is known of its arguments
  root_once : (r : ℕ) → Contains (roots S.binding) r → outcomes_of r outcomes.list ≡ 1
  root_once r rooted =
      let a : IsRootOutcome S outcomes.list r = root_outcome S outcomes are r rooted in
      one_passes (is_of_root r) outcomes.list a.outcome (each_once S outcomes are) a.among
      (and_from (a.outcome.sub == r) (is_open a.outcome.context) (eq-eqb a.outcome.sub r a.own) (chosen_open S r a.outcome.context a.chosen))
      (λ o has passes. one_root r a o has (and_parts (o.sub == r) (is_open o.context) passes))
    where
      one_root : (r : ℕ) (a : IsRootOutcome S outcomes.list r) (o : Outcome) → Contains outcomes.list o
          → ((o.sub == r) ≡ true) × (is_open o.context ≡ true) → o ≡ a.outcome
      one_root r a o has parts =
          let own : o.sub ≡ r = eqb-true o.sub r parts.0 in
          let for_some : IsChosenFor S r o.context =
          subst (λ (n : ℕ). IsChosenFor S n o.context) own (chosen_for S o.sub o.context (are.each o has).0) in
          let context : a.outcome.context ≡ o.context =
          one_open S r a.outcome.context o.context for_some.args a.chosen for_some.chosen for_some.count parts.1 in
          outcomes_of_contexts_are_one S o a.outcome (are.each o has).1.is (are.each a.outcome a.among).1.is (own ∙ sym a.own) (sym context)

-- so the outcomes can be reported
pub outcomes_are_reportable : OutcomesAreReportable
outcomes_are_reportable S outcomes are = record {
  rooted = all_from (λ r. outcomes_of r outcomes.list ≡ 1) outcomes.roots
      (λ r has. root_once S outcomes are r (subst (λ (l : List ℕ). Contains l r) are.entries has));
  apart = contexts_apart S outcomes are;
  heads = heads_apart S outcomes are;
  cells = cells_low S outcomes are;
  arguments = all_from (λ o. HasArguments o.context) outcomes.list (λ o has. (fits S outcomes are o has).1);
}
