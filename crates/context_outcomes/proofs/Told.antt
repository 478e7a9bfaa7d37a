-- Needed contexts and their outcomes.
use Rattle.std.proofs.Common.{◌≡◌, ℕ, ◌<◌, ◌≤◌, List, [], ◌∷◌, length, get_or, Option, Some, None, Contains, refl, sym, ap, ◌∙◌, arith, inl, inr}
use Rattle.std.specs.List.{slice_get}
use Rattle.std.proofs.lemmas.Bool.{cases_lt}
use Rattle.std.proofs.lemmas.List.{get_or_default}
use Rattle.std.proofs.lemmas.Option.{slice_get-get_or, slice_get_past}
use Rattle.context_outcomes.proofs.Pigeons.{pigeonhole}
use Rattle.wcet_report.specs.declared.context.Context.{Context}
use Rattle.wcet_report.specs.declared.outcome.Outcome.{Outcome}
use Rattle.wcet_report.specs.declared.outcome.Outcomes.{Outcomes}
use Rattle.context_outcomes.specs.Laws.{NeededAreTold, UnmatchedAreNotMatched}
use Rattle.context_outcomes.specs.Outcomes.{AreOutcomes, HasOutcome}
use Rattle.context_outcomes.specs.Refusals.{AreNeeded}
use Rattle.context_outcomes.specs.Setting.{Setting}

pub unmatched_are_not_matched : UnmatchedAreNotMatched
unmatched_are_not_matched S line first matched = first.is.unmatched (matched first.is.one first.is.among)

some_is : {X : Type 0} {x y : X} → Some x ≡ Some y → x ≡ y
some_is e = cc

none_is_not : {X : Type 0} {x : X} → None ≡ Some x → ⊥
none_is_not e = cc

-- what stands at a place is among a list
pub among : {X : Type 0} (xs : List X) (i : ℕ) (x : X) → slice_get xs i ≡ Some x → Contains xs x
among xs i x is = elim (cases_lt i (length xs)) [
  | inl l ↦ (i, l, some_is (sym (slice_get-get_or xs i x l) ∙ is))
  | inr past ↦ absurd (none_is_not (sym (slice_get_past xs i past) ∙ is))
]

-- a place of a list has something
there : {X : Type 0} (xs : List X) (i : ℕ) → i < length xs → slice_get xs i ≡ None → ⊥
there [] i l is = absurd (omega (arith, l))
there (x ∷ xs) i l is = none_is_not (sym is ∙ slice_get-get_or (x ∷ xs) i x l)

same_pair : (c d : ℕ × Context) → c.0 ≡ d.0 → c.1 ≡ d.1 → c ≡ d
same_pair c d a b = ap (λ (s : ℕ). (s, c.1)) a ∙ ap (λ (t : Context). (d.0, t)) b

module _ (S : Setting) (outcomes : Outcomes) (many : ℕ) (are : AreOutcomes S outcomes) (needed : AreNeeded S many) where
  told : (one : ℕ × Context) → Contains needed.list one → HasOutcome outcomes.list one.0 one.1
  told one has = are.all one.0 one.1 (needed.each one has)

  place : (i : ℕ) (o : Option (ℕ × Context)) → slice_get needed.list i ≡ o → ℕ
  place i None is = 0
  place i (Some one) is = (told one (among needed.list i one is)).among.0

  place_of : ℕ → ℕ
  place_of i = place i (slice_get needed.list i) refl

  place_within : (i : ℕ) (o : Option (ℕ × Context)) (is : slice_get needed.list i ≡ o) → i < length needed.list → place i o is < length outcomes.list
  unfolding place told
  place_within i None is l = absurd (there needed.list i l is)
  place_within i (Some one) is l = (told one (among needed.list i one is)).among.1

  -- two outcomes at one place are one
  one_outcome : (one two : Outcome) (has : Contains outcomes.list one) (too : Contains outcomes.list two) → has.0 ≡ too.0 → one ≡ two
  one_outcome one two has too same =
      sym has.2 ∙ (ap (λ (k : ℕ). get_or outcomes.list k one) same ∙ (get_or_default outcomes.list too.0 one two too.1 ∙ too.2))

  places_apart : (i j : ℕ) (o p : Option (ℕ × Context)) (is : slice_get needed.list i ≡ o) (too : slice_get needed.list j ≡ p)
      → i < length needed.list → j < length needed.list → place i o is ≡ place j p too → i ≡ j
  unfolding place told
  places_apart i j None p is too l m same = absurd (there needed.list i l is)
  places_apart i j (Some one) None is too l m same = absurd (there needed.list j m too)
  places_apart i j (Some one) (Some two) is too l m same =
      let first = told one (among needed.list i one is) in
      let second = told two (among needed.list j two too) in
      let e : first.outcome ≡ second.outcome = one_outcome first.outcome second.outcome first.among second.among same in
      let sub : one.0 ≡ two.0 = sym first.is.of ∙ (ap (λ (x : Outcome). x.sub) e ∙ second.is.of) in
      let context : one.1 ≡ two.1 = sym first.is.in_context ∙ (ap (λ (x : Outcome). x.context) e ∙ second.is.in_context) in
      let same_one : two ≡ one = sym (same_pair one two sub context) in
      needed.different i j one is (too ∙ ap (λ (x : ℕ × Context). Some x) same_one)

  pub needed_have_places : many ≤ length outcomes.list
  unfolding place_of place
  needed_have_places =
      let count : length needed.list ≡ many = needed.many in
      pigeonhole many (length outcomes.list) place_of
      (λ i l. place_within i (slice_get needed.list i) refl (omega (arith, l, count)))
      (λ i j l m same. places_apart i j (slice_get needed.list i) (slice_get needed.list j) refl refl (omega (arith, l, count)) (omega (arith, m, count)) same)

pub needed_are_told : NeededAreTold
needed_are_told S outcomes many are needed = needed_have_places S outcomes many are needed
