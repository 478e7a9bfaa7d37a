-- Facts joined one after the other are the least that is at least each.
use Rattle.std.proofs.Common.{◌≡◌, ◌==◌, ℕ, ◌<◌, Bool, true, false, if◌then◌else◌, get_or, set, List, [], ◌∷◌, ◌++◌, length, Option, Some, None, Contains, inl, inr, refl, sym, ap, subst, ◌∙◌, arith}
use Rattle.std.specs.List.{All}
use Rattle.std.specs.List.Sorted.{IsStrictlyIncreasing}
use Rattle.std.proofs.lemmas.Bool.{cases_lt, eq-eqb}
use Rattle.std.proofs.lemmas.Bool.Decides.{eqb_tells}
use Rattle.std.proofs.lemmas.Grind.{get_or_default_zero}
use Rattle.std.proofs.lemmas.List.{get_or-set_other, get_or-set_same, length-set}
use Rattle.std.proofs.lemmas.List.Elements.{All-get_or, All-set}
use Rattle.bt_base.proofs.RisingLists.{rising_below}
use Rattle.call_laws.proofs.Risings.{contains_cases, contains_first, contains_later, none_in_empty}
use Rattle.abs_state.specs.declared.key.Key.TheVariants as key
use Rattle.abs_state.specs.declared.key.Place.{Place}
use Rattle.transfer_rules.proofs.FactKinds.{fitting, from_fitting}
use Rattle.transfer_rules.proofs.FactOrder.{facts_onward, join_first, join_fits, join_least, join_second, same_fact}
use Rattle.transfer_rules.specs.Fact.{fits, is_at_most, joined}
use Rattle.transfer_rules.specs.Give.{entry_of}
use Rattle.transfer_rules.specs.declared.fact.Fact.{Fact}
use Rattle.value_lattice.specs.Thresholds.{IsThresholds}
use Rattle.plain_parts.specs.Joined.{IsGiven, IsGivenOrNone, JoinsGiven, entry_at, entry_with, join_all, joined_with}

some_same : {X : Type 0} {x y : X} → Some x ≡ Some y → x ≡ y
some_same e = cc

none_some : {X : Type 0} {x : X} → None ≡ Some x → ⊥
none_some e = cc

not_same : (a b : ℕ) → (a ≡ b → ⊥) → (a == b) ≡ false
not_same a b other = elim (eqb_tells a b) [ inl is ↦ absurd (other is.1) | inr is ↦ is.0 ]

-- each fact of a list is one of a call
abbrev pub AreGiven : List ℕ → List Fact → Type 0
AreGiven t vs = (v : Fact) → Contains vs v → IsGiven t v

rest_given : (t : List ℕ) (v : Fact) (vs : List Fact) → AreGiven t (v ∷ vs) → AreGiven t vs
rest_given t v vs all u has = all u (contains_later v vs u has)

module _ (t : List ℕ) (is : IsThresholds t) where
  -- the join of two is one of a call, at least both, and the least such
  pub with_given : (earlier : Option Fact) (v : Fact) → IsGivenOrNone t earlier → IsGiven t v → IsGiven t (joined_with t earlier v)
  with_given None v one two = two
  with_given (Some u) v one two = join_fits t is (key.Call (entry_of 0) 0) u v one two

  with_up : (earlier : Option Fact) (v : Fact) → IsGivenOrNone t earlier → IsGiven t v → is_at_most v (joined_with t earlier v) ≡ true
  with_up None v one two = same_fact t v (fitting t (key.Call (entry_of 0) 0) v two).over
  with_up (Some u) v one two = join_second t is (key.Call (entry_of 0) 0) u v one two

  with_first : (u v : Fact) → IsGiven t u → IsGiven t v → is_at_most u (joined_with t (Some u) v) ≡ true
  with_first u v one two = join_first t is (key.Call (entry_of 0) 0) u v one two

  with_least : (earlier : Option Fact) (v w : Fact) → IsGivenOrNone t earlier → IsGiven t v → IsGiven t w
      → ((u : Fact) → earlier ≡ Some u → is_at_most u w ≡ true) → is_at_most v w ≡ true → is_at_most (joined_with t earlier v) w ≡ true
  with_least None v w one two three first up = up
  with_least (Some u) v w one two three first up = join_least t is (key.Call (entry_of 0) 0) u v w one two three (first u refl) up

  -- what is joined of many is one of a call
  pub all_given : (earlier : Option Fact) (vs : List Fact) → IsGivenOrNone t earlier → AreGiven t vs → IsGivenOrNone t (join_all t earlier vs)
  all_given earlier [] one all = one
  all_given earlier (v ∷ vs) one all =
      all_given (Some (joined_with t earlier v)) vs (with_given earlier v one (all v (contains_first v vs))) (rest_given t v vs all)

  -- it is at least what was there
  all_first : (u : Fact) (vs : List Fact) (w : Fact) → IsGiven t u → AreGiven t vs → join_all t (Some u) vs ≡ Some w → is_at_most u w ≡ true
  all_first u [] w one all e =
      subst (λ (x : Fact). is_at_most u x ≡ true) (some_same e) (same_fact t u (fitting t (key.Call (entry_of 0) 0) u one).over)
  all_first u (v ∷ vs) w one all e =
      let two = all v (contains_first v vs) in
      facts_onward u (joined_with t (Some u) v) w (with_first u v one two)
      (all_first (joined_with t (Some u) v) vs w (with_given (Some u) v one two) (rest_given t v vs all) e)

  -- and at least each of the many
  pub all_up : (earlier : Option Fact) (vs : List Fact) (w : Fact) → IsGivenOrNone t earlier → AreGiven t vs → join_all t earlier vs ≡ Some w
      → (v : Fact) → Contains vs v → is_at_most v w ≡ true
  all_up earlier [] w one all e u has = absurd (none_in_empty u has)
  all_up earlier (v ∷ vs) w one all e u has =
      let two = all v (contains_first v vs) in
      let both : IsGiven t (joined_with t earlier v) = with_given earlier v one two in
      elim (contains_cases v vs u has) [
        | inl same ↦
            subst (λ (x : Fact). is_at_most x w ≡ true) same
            (facts_onward v (joined_with t earlier v) w (with_up earlier v one two)
            (all_first (joined_with t earlier v) vs w both (rest_given t v vs all) e))
        | inr later ↦ all_up (Some (joined_with t earlier v)) vs w both (rest_given t v vs all) e u later
      ]

  -- and the least such
  pub all_least : (earlier : Option Fact) (vs : List Fact) (w x : Fact) → IsGivenOrNone t earlier → AreGiven t vs → IsGiven t x
      → join_all t earlier vs ≡ Some w → ((u : Fact) → earlier ≡ Some u → is_at_most u x ≡ true)
      → ((v : Fact) → Contains vs v → is_at_most v x ≡ true) → is_at_most w x ≡ true
  all_least earlier [] w x one all three e first each = first w e
  all_least earlier (v ∷ vs) w x one all three e first each =
      let two = all v (contains_first v vs) in
      all_least (Some (joined_with t earlier v)) vs w x (with_given earlier v one two) (rest_given t v vs all) three e
      (λ u same.
      subst (λ (y : Fact). is_at_most y x ≡ true) (some_same same)
      (with_least earlier v x one two three first (each v (contains_first v vs))))
      (λ u has. each u (contains_later v vs u has))

-- something is joined where there is something
pub all_some : (t : List ℕ) (u : Fact) (vs : List Fact) → join_all t (Some u) vs ≡ None → ⊥
all_some t u [] e = none_some (sym e)
all_some t u (v ∷ vs) e = all_some t (joined_with t (Some u) v) vs e

pub none_joined : (t : List ℕ) (vs : List Fact) → join_all t None vs ≡ None → (v : Fact) → Contains vs v → ⊥
none_joined t [] e v has = none_in_empty v has
none_joined t (u ∷ vs) e v has = all_some t (joined_with t None u) vs e

pub joined_over : (t : List ℕ) (earlier : Option Fact) (vs ws : List Fact) → join_all t earlier (vs ++ ws) ≡ join_all t (join_all t earlier vs) ws
joined_over t earlier [] ws = refl
joined_over t earlier (v ∷ vs) ws = joined_over t (Some (joined_with t earlier v)) vs ws

-- where numbers rise each stands at one place
pub one_place : (xs : List ℕ) → IsStrictlyIncreasing xs → (j k : ℕ) → j < length xs → k < length xs → get_or xs j 0 ≡ get_or xs k 0 → j ≡ k
one_place xs rise j k low less same = elim (cases_lt j k) [
  | inl before ↦ let l : get_or xs j 0 < get_or xs k 0 = rising_below xs rise j k before less in absurd (omega (arith, l, same))
  | inr others ↦ elim (cases_lt k j) [
    | inl after ↦ let l : get_or xs k 0 < get_or xs j 0 = rising_below xs rise k j after low in absurd (omega (arith, l, same))
    | inr here ↦ omega (arith, others, here)
  ]
]

-- what is handed on is joined into the entry of what is called, and into no other
module _ (t : List ℕ) (is : IsThresholds t) (subs : List ℕ) (rise : IsStrictlyIncreasing subs) (callee : ℕ) (given : Fact) (fit : IsGiven t given)
    (old : List (Option Fact)) (count : length old ≡ length subs) (all : All (IsGivenOrNone t) old) where
  pub joins_at : (number : ℕ) (new : List (Option Fact)) → number < length subs → get_or subs number 0 ≡ callee
      → new ≡ set old number (Some (joined_with t (entry_at old number) given)) → JoinsGiven t subs callee given old new
  joins_at number new low at e =
      let within : number < length old = omega (arith, count, low) in
      let here : IsGivenOrNone t (entry_at old number) = All-get_or (IsGivenOrNone t) old number None within all in
      record {
        count = ap length e ∙ length-set old number (Some (joined_with t (entry_at old number) given));
        all =
            subst (All (IsGivenOrNone t)) (sym e)
            (All-set (IsGivenOrNone t) old number (Some (joined_with t (entry_at old number) given)) (with_given t is (entry_at old number) given here fit) all);
        each = λ n less.
            ap (λ (table : List (Option Fact)). entry_at table n) e
            ∙ elim (eqb_tells n number) [
              | inl same ↦
                  ap (entry_at (set old number (Some (joined_with t (entry_at old number) given)))) same.1
                  ∙ (get_or-set_same old number (Some (joined_with t (entry_at old number) given)) None within
                  ∙ sym
                  (ap (λ (m : ℕ). entry_with t subs old callee given m) same.1
                  ∙ ap (λ (b : Bool). if b then Some (joined_with t (entry_at old number) given) else entry_at old number) (eq-eqb (get_or subs number 0) callee at)))
              | inr other ↦
                  get_or-set_other old number n (Some (joined_with t (entry_at old number) given)) None other.1
                  ∙ sym
                  (ap (λ (b : Bool). if b then Some (joined_with t (entry_at old n) given) else entry_at old n)
                  (not_same (get_or subs n 0) callee (λ f. other.1 (one_place subs rise n number less low (f ∙ sym at)))))
            ];
      }

  pub joins_nowhere : (Contains subs callee → ⊥) → JoinsGiven t subs callee given old old
  joins_nowhere none = record {
    count = refl;
    all = all;
    each = λ n less.
        sym
        (ap (λ (b : Bool). if b then Some (joined_with t (entry_at old n) given) else entry_at old n)
        (not_same (get_or subs n 0) callee (λ f. none (n, less, get_or_default_zero subs n callee less ∙ f))));
  }

-- what stands at a call is one of a call
pub given_of : (t : List ℕ) (p : Place) (s : ℕ) (v : Fact) → fits t (key.Call p s) v ≡ true → IsGiven t v
given_of t p s v fit =
    let is = fitting t (key.Call p s) v fit in
    from_fitting t (key.Call (entry_of 0) 0) v (record { kind = is.kind; depths = refl; over = is.over })
