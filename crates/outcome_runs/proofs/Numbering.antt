-- The number of a program point is its place in the list.
use Rattle.std.proofs.Common.{◌≡◌, ℕ, zero, suc, ◌<◌, Bool, true, false, List, [], ◌∷◌, length, get_or, Option, Some, None, Contains, refl, sym, ap, subst, ◌∙◌, arith, inl, inr}
use Rattle.std.specs.Prelude.{slice_get, if◌then◌else◌}
use Rattle.std.specs.Cmp.{IsTotalOrder}
use Rattle.std.specs.List.Sorted.{IsStrictlySortedBy}
use Rattle.std.specs.Ordering.{is_eq}
use Rattle.std.specs.declared.cmp.Ordering.{Ordering}
use Rattle.std.specs.declared.cmp.Ordering.TheVariants.{Less, Equal, Greater}
use Rattle.std.proofs.lemmas.Bool.{cases_lt, false≢true}
use Rattle.std.proofs.lemmas.Cmp.{tied_itself}
use Rattle.std.proofs.lemmas.Map.Keys.{Less-from_sorted}
use Rattle.std.proofs.lemmas.Option.{slice_get-get_or, slice_get_past}
use Rattle.abs_state.proofs.KeyLemmas.{keys_are_ordered}
use Rattle.abs_state.specs.declared.key.Key.TheVariants.{Node}
use Rattle.abs_state.specs.declared.key.Place.{Place}
use Rattle.graph_view.specs.Numbers.{place_cmp, IsNumber}
use Rattle.outcome_runs.specs.Family.{place_in}

node_key : (p q : Place) → Node p ≡ Node q → p ≡ q
node_key p q same = cc

place_exact : (p q : Place) → place_cmp p q ≡ Equal → p ≡ q
place_exact p q tie = node_key p q (keys_are_ordered.exact (Node p) (Node q) tie)

place_total : IsTotalOrder place_cmp
place_total = record {
  antisymm = λ p q. keys_are_ordered.total.antisymm (Node p) (Node q);
  trans = λ p q r. keys_are_ordered.total.trans (Node p) (Node q) (Node r);
  congr = λ p q r. keys_are_ordered.total.congr (Node p) (Node q) (Node r);
}

equal_of : (o : Ordering) → is_eq o ≡ true → o ≡ Equal
equal_of Less is = absurd (false≢true is)
equal_of Equal is = refl
equal_of Greater is = absurd (false≢true is)

some_same : {X : Type 0} {x y : X} → Some x ≡ Some y → x ≡ y
some_same e = cc

none_some : {X : Type 0} {x : X} → None ≡ Some x → ⊥
none_some e = cc

-- a program point that stands in a list stands at its place
pub place_reads : (nodes : List Place) (p : Place) (k : ℕ) → slice_get nodes k ≡ Some p → slice_get nodes (place_in nodes p) ≡ Some p
place_reads [] p k at = absurd (none_some at)
place_reads (q ∷ rest) p k at = by (λ j here. place_reads rest p j here) (is_eq (place_cmp q p)) refl where
  later : ((j : ℕ) → slice_get rest j ≡ Some p → slice_get rest (place_in rest p) ≡ Some p) → (j : ℕ) → is_eq (place_cmp q p) ≡ false
      → slice_get (q ∷ rest) j ≡ Some p → slice_get rest (place_in rest p) ≡ Some p
  later again zero other here =
      let same : is_eq (place_cmp p p) ≡ false = subst (λ (r : Place). is_eq (place_cmp r p) ≡ false) (some_same here) other in
      absurd (false≢true (sym same ∙ ap is_eq (tied_itself place_total p)))
  later again (suc j) other here = again j here

  by : ((j : ℕ) → slice_get rest j ≡ Some p → slice_get rest (place_in rest p) ≡ Some p) → (b : Bool) → is_eq (place_cmp q p) ≡ b
      → slice_get (q ∷ rest) (if b then 0 else suc (place_in rest p)) ≡ Some p
  by again true e = ap Some (place_exact q p (equal_of (place_cmp q p) e))
  by again false e = later again k e at

pub get_within : {X : Type 0} (xs : List X) (k : ℕ) (x : X) → slice_get xs k ≡ Some x → k < length xs
get_within xs k x at = elim (cases_lt k (length xs)) [ inl low ↦ low | inr past ↦ absurd (none_some (sym (slice_get_past xs k past) ∙ at)) ]

pub number_reads : (nodes : List Place) (p : Place) (n : ℕ) → IsNumber nodes p n → slice_get nodes n ≡ Some p
number_reads nodes p n is = slice_get-get_or nodes n p is.within ∙ ap Some (is.is p)

pub read_number : (nodes : List Place) (p : Place) (n : ℕ) → slice_get nodes n ≡ Some p → IsNumber nodes p n
read_number nodes p n at =
    let low = get_within nodes n p at in
    record { within = low; is = λ d. some_same (sym (slice_get-get_or nodes n d low) ∙ at) }

pub contained : (nodes : List Place) (p : Place) → Contains nodes p → slice_get nodes (place_in nodes p) ≡ Some p
contained nodes p (k, low, is) = place_reads nodes p k (slice_get-get_or nodes k p low ∙ ap Some is)

module _ (nodes : List Place) (rise : IsStrictlySortedBy place_cmp nodes) where
  apart : (p : Place) (j k : ℕ) → j < k → IsNumber nodes p j → IsNumber nodes p k → ⊥
  apart p j k less one other =
      let order : place_cmp (get_or nodes j p) (get_or nodes k p) ≡ Less = Less-from_sorted place_cmp nodes j k p rise less other.within in
      let same : place_cmp (get_or nodes j p) (get_or nodes k p) ≡ Equal =
      (λ i. place_cmp (one.is p i) (other.is p i)) ∙ tied_itself place_total p in
      let wrong : Less ≡ Equal = sym order ∙ same in cc

  pub one_number : (p : Place) (n m : ℕ) → IsNumber nodes p n → IsNumber nodes p m → n ≡ m
  one_number p n m at also = elim (cases_lt n m) [
    | inl before ↦ absurd (apart p n m before at also)
    | inr others ↦ elim (cases_lt m n) [ inl after ↦ absurd (apart p m n after also at) | inr here ↦ omega (arith, others, here) ]
  ]

  -- the number is the place
  pub place_is : (p : Place) (n : ℕ) → IsNumber nodes p n → place_in nodes p ≡ n
  place_is p n is =
      one_number p (place_in nodes p) n (read_number nodes p (place_in nodes p) (place_reads nodes p n (number_reads nodes p n is))) is
