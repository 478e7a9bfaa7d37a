-- The bound that a report shows of a root is that of the root's context.
use Rattle.std.proofs.Common.{◌≡◌, ◌∙◌, ℕ, zero, suc, Bool, true, false, List, [], ◌∷◌, length, Option, Some, None, Contains, inl, inr, refl, sym, ap, subst, arith}
use Rattle.std.specs.Ordering.{int_eq}
use Rattle.std.specs.Prelude.{◌==◌, if◌then◌else◌, map, negsuc, pos, slice_get}
use Rattle.std.specs.List.{list_all}
use Rattle.std.proofs.lemmas.Bool.{and_from, and_parts, cases_lt, eqb-true, false≢true}
use Rattle.std.proofs.lemmas.Bool.Decides.{Decides-int_eq}
use Rattle.std.proofs.lemmas.Option.{slice_get-get_or, slice_get_past}
use Rattle.abs_state.specs.declared.key.Key.TheVariants as key
use Rattle.abs_state.specs.declared.key.Place.{Place}
use Rattle.context_outcomes.specs.Arguments.{any_arguments, thresholds_with}
use Rattle.context_outcomes.specs.Inside.{Inside}
use Rattle.context_outcomes.specs.Outcomes.{AreOutcomes, IsChosen, IsNeeded, called, root}
use Rattle.context_outcomes.specs.Setting.{Setting}
use Rattle.outcome_runs.specs.Told.{Entry, IsRootAt, Told, outcome_of}
use Rattle.transfer_rules.proofs.FactKinds.{fitting}
use Rattle.transfer_rules.specs.Give.{argument_registers}
use Rattle.transfer_rules.specs.declared.fact.Fact.TheVariants as fact
use Rattle.value_lattice.specs.Least.{top}
use Rattle.value_lattice.specs.Test.{has_ends_in, is_over, is_value}
use Rattle.value_lattice.specs.declared.value.Value.{Value}
use Rattle.value_lattice.specs.declared.value.Value.TheVariants.{Words, Range, Ret}
use Rattle.wcet_report.specs.Context.{are_any, is_open}
use Rattle.wcet_report.specs.Report.{flattened, is_of_root, open_bound, root_bound}
use Rattle.wcet_report.specs.Value.{is_any}
use Rattle.wcet_report.specs.declared.context.Context.{Context}
use Rattle.wcet_report.specs.declared.context.Context.TheVariants.{Plain, With}
use Rattle.wcet_report.specs.declared.outcome.Outcome.{Outcome}
use Rattle.wcet_report.specs.declared.outcome.Outcomes.{Outcomes}

some_same : {X : Type 0} {x y : X} → Some x ≡ Some y → x ≡ y
some_same e = cc

none_some : {X : Type 0} {x : X} → None ≡ Some x → ⊥
none_some e = cc

pub among_at : {X : Type 0} (xs : List X) (k : ℕ) (x : X) → slice_get xs k ≡ Some x → Contains xs x
among_at xs k x at = elim (cases_lt k (length xs)) [
  | inl low ↦ (k, low, some_same (sym (slice_get-get_or xs k x low) ∙ at))
  | inr past ↦ absurd (none_some (sym (slice_get_past xs k past) ∙ at))
]

-- ---- values of which nothing is known

any_is : (v : Value) → is_any v ≡ true → v ≡ top
any_is (Words words) wrong = absurd (false≢true wrong)
any_is (Range lo hi) all =
    let both : (int_eq lo (negsuc 2147483647) ≡ true) × (int_eq hi (pos 2147483647) ≡ true) =
    and_parts (int_eq lo (negsuc 2147483647)) (int_eq hi (pos 2147483647)) all in
    let low : lo ≡ negsuc 2147483647 = (Decides-int_eq lo (negsuc 2147483647)).0 both.0 in
    let high : hi ≡ pos 2147483647 = (Decides-int_eq hi (pos 2147483647)).0 both.1 in
    λ i. Range (low i) (high i)
any_is Ret wrong = absurd (false≢true wrong)

-- as many values of which nothing is known are those of a root
pub all_any : (rs : List ℕ) (vs : List Value) → length vs ≡ length rs → are_any vs ≡ true → vs ≡ map (λ r. top) rs
all_any [] [] same any = refl
all_any [] (v ∷ vs) same any = absurd (omega (arith, same))
all_any (r ∷ rs) [] same any = absurd (omega (arith, same))
all_any (r ∷ rs) (v ∷ vs) same any =
    let parts = and_parts (is_any v) (are_any vs) any in
    let one : v ≡ top = any_is v parts.0 in
    let rest : vs ≡ map (λ q. top) rs = all_any rs vs (omega (arith, same)) parts.1 in
    λ i. one i ∷ rest i

-- values over thresholds are values
over_value : (t : List ℕ) (v : Value) → is_over t v ≡ true → is_value v ≡ true
unfolding is_over
over_value t v over = (and_parts (is_value v) (has_ends_in t v) over).0

are_values : (t : List ℕ) (vs : List Value) → list_all (is_over t) vs ≡ true → list_all is_value vs ≡ true
are_values t [] over = refl
are_values t (v ∷ vs) over =
    let parts = and_parts (is_over t v) (list_all (is_over t) vs) over in
    and_from (is_value v) (list_all is_value vs) (over_value t v parts.0) (are_values t vs parts.1)

any_are_values : list_all is_value any_arguments ≡ true
unfolding is_value
any_are_values = refl

-- ---- the outcome that a report takes for a root

-- an outcome of a list, of a subprogram of whose arguments nothing is known
pub record IsOpenOf (list : List Outcome) (r : ℕ) (bound : Option ℕ) : Type 0 where
  pub at : ℕ
  pub outcome : Outcome
  pub there : slice_get list at ≡ Some outcome
  pub of : outcome.sub ≡ r
  pub is_open : is_open outcome.context ≡ true
  pub bound_is : outcome.bound ≡ bound

later : (one : Outcome) (list : List Outcome) (r : ℕ) (bound : Option ℕ) → IsOpenOf list r bound → IsOpenOf (one ∷ list) r bound
later one list r bound o = record { at = suc o.at; outcome = o.outcome; there = o.there; of = o.of; is_open = o.is_open; bound_is = o.bound_is }

found_by : (one : Outcome) (rest : List Outcome) (r : ℕ) (bound : Option ℕ) (b : Bool) → is_of_root r one ≡ b
    → (if b then Some one.bound else open_bound r rest) ≡ Some bound → (open_bound r rest ≡ Some bound → IsOpenOf rest r bound)
    → IsOpenOf (one ∷ rest) r bound
found_by one rest r bound true here is further =
    let parts = and_parts (one.sub == r) (is_open one.context) here in
    record { at = 0; outcome = one; there = refl; of = eqb-true one.sub r parts.0; is_open = parts.1; bound_is = some_same is }
found_by one rest r bound false here is further = later one rest r bound (further is)

pub found_open : (list : List Outcome) (r : ℕ) (bound : Option ℕ) → open_bound r list ≡ Some bound → IsOpenOf list r bound
found_open [] r bound is = cc
found_open (one ∷ rest) r bound is = found_by one rest r bound (is_of_root r one) refl is (found_open rest r bound)

flat_some : (o : Option (Option ℕ)) (n : ℕ) → flattened o ≡ Some n → o ≡ Some (Some n)
flat_some None n is = cc
flat_some (Some b) n is = ap Some is

-- ---- contexts in which nothing is known of the arguments

module _ (S : Setting) where
  -- the arguments of a call of a context are thirteen, and values
  thirteen : (sub : ℕ) (context : Context) (within : Inside S sub context) (p : Place) (t : ℕ) (given : List Value)
      → within.facts (key.Call p t) ≡ Some (fact.Args given) → (length given ≡ 13) × (list_all is_value given ≡ true)
  thirteen sub context within p t given is =
      let fit = (fitting (thresholds_with S within.args) (key.Call p t) (fact.Args given) (within.are.least.closed.fit (key.Call p t) (fact.Args given) is)).over in
      let parts = and_parts (length given == 13) (list_all (is_over (thresholds_with S within.args)) given) fit in
      (eqb-true (length given) 13 parts.0, are_values (thresholds_with S within.args) given parts.1)

  -- a needed context is chosen for some arguments, which are thirteen values
  pub record IsChosenFor (sub : ℕ) (context : Context) : Type 0 where
    pub args : List Value
    pub count : length args ≡ 13
    pub values : list_all is_value args ≡ true
    pub chosen : IsChosen S sub args context

  pub chosen_for : (sub : ℕ) (context : Context) → IsNeeded S sub context → IsChosenFor sub context
  chosen_for sub context (root among chosen) = record { args = any_arguments; count = refl; values = any_are_values; chosen = chosen }
  chosen_for t next (called needed within enters leads) =
      let given = thirteen _ _ within _ t leads.given leads.there in
      record { args = leads.given; count = given.0; values = given.1; chosen = leads.chosen }

  -- a root has one context in which nothing is known of its arguments
  pub one_open : (r : ℕ) (one other : Context) (args : List Value) → IsChosen S r any_arguments one → IsChosen S r args other → length args ≡ 13
      → is_open other ≡ true → one ≡ other
  one_open r Plain Plain args first second count any = refl
  one_open r Plain (With list) args first second count any = absurd (second.0 first)
  one_open r (With mine) Plain args first second count any = absurd (first.0 second)
  one_open r (With mine) (With list) args first second count any =
      let thirteen : length list ≡ length argument_registers = ap length second.1 ∙ count in
      ap With (first.1 ∙ sym (all_any argument_registers list thirteen any))

  module _ (outcomes : Outcomes) (are : AreOutcomes S outcomes) (told : Told S outcomes.list) where
    -- an entry's outcome stands in the list at the entry's place
    entry_there : (c : ℕ) (entry : Entry S) → slice_get told.entries c ≡ Some entry → slice_get outcomes.list c ≡ Some entry.outcome
    entry_there c entry at = ap (λ (list : List Outcome). slice_get list c) (sym told.are) ∙ mapped told.entries c entry at where
      mapped : (entries : List (Entry S)) (c : ℕ) (entry : Entry S) → slice_get entries c ≡ Some entry
          → slice_get (map outcome_of entries) c ≡ Some entry.outcome
      mapped [] c entry at = cc
      mapped (e ∷ rest) zero entry at = ap (λ (x : Entry S). Some x.outcome) (some_same at)
      mapped (e ∷ rest) (suc c) entry at = mapped rest c entry at

    -- where the report shows a bound of a root, it is that of the root's context
    pub root_told : (r c bound : ℕ) (is : IsRootAt told.entries r c) → root_bound outcomes.list r ≡ Some bound → is.entry.outcome.bound ≡ Some bound
    root_told r c bound is shown =
        let o = found_open outcomes.list r (Some bound) (flat_some (open_bound r outcomes.list) bound shown) in
        let needed = (are.each o.outcome (among_at outcomes.list o.at o.outcome o.there)).0 in
        let chosen : IsChosenFor r o.outcome.context = subst (λ (n : ℕ). IsChosenFor n o.outcome.context) o.of (chosen_for o.outcome.sub o.outcome.context needed) in
        let contexts : is.entry.outcome.context ≡ o.outcome.context =
        one_open r is.entry.outcome.context o.outcome.context chosen.args is.chosen chosen.chosen chosen.count o.is_open in
        let places : c ≡ o.at =
        are.once c o.at is.entry.outcome o.outcome (entry_there c is.entry is.at) o.there (is.sub ∙ sym o.of) contexts in
        let both : Some is.entry.outcome ≡ Some o.outcome =
        sym (entry_there c is.entry is.at) ∙ ap (slice_get outcomes.list) places ∙ o.there in
        ap (λ (x : Outcome). x.bound) (some_same both) ∙ o.bound_is
