-- A list of needed contexts as it grows.
use Rattle.std.proofs.Common.{◌≡◌, ℕ, zero, suc, ◌+◌, ◌<◌, ◌⊎◌, List, [], ◌∷◌, ◌++◌, Contains, length, Some, None, Ok, Err, inl, inr, refl, sym, ap, subst, ◌∙◌, arith}
use Rattle.std.specs.Prelude.{IfOk, slice_get}
use Rattle.std.proofs.lemmas.List.{length-append}
use Rattle.std.proofs.lemmas.Option.{get_or_from_slice_get, slice_get_within}
use Rattle.std.specs.declared.result.Result.{Result}
use Rattle.callee_context.specs.Worklist.{AreFound, GrowsTo}
use Rattle.context_list.proofs.Numbers.{at_place}
use Rattle.context_list.specs.Numbered.{IsPut, One}
use Rattle.context_outcomes.specs.Outcomes.{IsNeeded}
use Rattle.context_outcomes.specs.Refusals.{AreNeeded, most_contexts}
use Rattle.context_outcomes.specs.Setting.{Setting}

some_same : {X : Type 0} {x y : X} → Some x ≡ Some y → x ≡ y
some_same e = cc

none_some : {X : Type 0} {x : X} → None ≡ Some x → ⊥
none_some e = cc

-- what stands in a list with one put at its end
pub get_last : {X : Type 0} (xs : List X) (x y : X) (k : ℕ) → slice_get (xs ++ x ∷ []) k ≡ Some y
    → (slice_get xs k ≡ Some y) ⊎ ((k ≡ length xs) × (x ≡ y))
get_last [] x y zero e = inr (refl, some_same e)
get_last [] x y (suc k) e = absurd (none_some e)
get_last (z ∷ xs) x y zero e = inl e
get_last (z ∷ xs) x y (suc k) e = elim (get_last xs x y k e) [
  | inl here ↦ inl here
  | inr last ↦ inr (ap suc last.0, last.1)
]

-- what stood in the list still does
pub get_kept : {X : Type 0} (xs : List X) (x y : X) (k : ℕ) → slice_get xs k ≡ Some y → slice_get (xs ++ x ∷ []) k ≡ Some y
get_kept [] x y k e = absurd (none_some e)
get_kept (z ∷ xs) x y zero e = e
get_kept (z ∷ xs) x y (suc k) e = get_kept xs x y k e

-- so does the one at the end
pub get_end : {X : Type 0} (xs : List X) (x : X) → slice_get (xs ++ x ∷ []) (length xs) ≡ Some x
get_end [] x = refl
get_end (z ∷ xs) x = get_end xs x

-- what stands at a number is among the list
pub among : (list : List One) (n : ℕ) (one : One) → slice_get list n ≡ Some one → Contains list one
among list n one at = (n, slice_get_within list n one at, get_or_from_slice_get list n one one at)

module _ (S : Setting) (list : List One) (found : AreFound S list) (one : One) (needed : IsNeeded S one.0 one.1) (new : Contains list one → ⊥) where
  abbrev longer : List One
  longer = list ++ one ∷ []

  apart : (j k : ℕ) (two : One) → (slice_get list j ≡ Some two) ⊎ ((j ≡ length list) × (one ≡ two))
      → (slice_get list k ≡ Some two) ⊎ ((k ≡ length list) × (one ≡ two)) → j ≡ k
  apart j k two (inl a) (inl b) = found.different j k two a b
  apart j k two (inl a) (inr b) = absurd (new (subst (λ (x : One). Contains list x) (sym b.1) (among list j two a)))
  apart j k two (inr a) (inl b) = absurd (new (subst (λ (x : One). Contains list x) (sym a.1) (among list k two b)))
  apart j k two (inr a) (inr b) = a.0 ∙ sym b.0

  different : (j k : ℕ) (two : One) → slice_get longer j ≡ Some two → slice_get longer k ≡ Some two → j ≡ k
  different j k two here there = apart j k two (get_last list one two j here) (get_last list one two k there)

  needed_at : (n : ℕ) (two : One) → (slice_get list n ≡ Some two) ⊎ ((n ≡ length list) × (one ≡ two)) → IsNeeded S two.0 two.1
  needed_at n two (inl a) = found.needed two (among list n two a)
  needed_at n two (inr b) = subst (λ (x : One). IsNeeded S x.0 x.1) b.1 needed

  all_needed : (two : One) → Contains longer two → IsNeeded S two.0 two.1
  all_needed two has = needed_at has.0 two (get_last list one two has.0 (at_place longer two has))

  -- one that isn't there may be put at the end
  pub grown : length list < most_contexts → GrowsTo S list longer
  grown less = record {
    found = record {
      needed = all_needed;
      different = different;
      few = let many : length longer ≡ length list + 1 = length-append list (one ∷ []) in omega (arith, less, many);
    };
    kept = λ n two at. get_kept list one two n at;
    longer = let many : length longer ≡ length list + 1 = length-append list (one ∷ []) in omega (arith, many);
  }

  -- where the list is full, one too many is needed
  pub overfull : length list ≡ most_contexts → AreNeeded S 4097
  overfull full = record {
    list = longer;
    many = let many : length longer ≡ length list + 1 = length-append list (one ∷ []) in omega (arith, full, many);
    each = all_needed;
    different = different;
  }

-- a list is one to which it grows
pub grows_same : (S : Setting) (list : List One) → AreFound S list → GrowsTo S list list
grows_same S list found = record { found = found; kept = λ n one at. at; longer = omega arith }

pub grows_on : (S : Setting) (a b c : List One) → GrowsTo S a b → GrowsTo S b c → GrowsTo S a c
grows_on S a b c one two = record {
  found = two.found;
  kept = λ n x at. two.kept n x (one.kept n x at);
  longer = let p = one.longer in let q = two.longer in omega (arith, p, q);
}

-- so is one where it is put
pub put_grows : (S : Setting) (old new : List One) (one : One) (n : ℕ) → AreFound S old → IsNeeded S one.0 one.1 → length old < most_contexts
    → IsPut old new one n → GrowsTo S old new
put_grows S old new one n found needed less (inl same) = subst (λ (list : List One). GrowsTo S old list) (sym same.0) (grows_same S old found)
put_grows S old new one n found needed less (inr put) =
    subst (λ (list : List One). GrowsTo S old list) (sym put.0) (grown S old found one needed put.2 less)

pub put_at : (old new : List One) (one : One) (n : ℕ) → IsPut old new one n → slice_get new n ≡ Some one
put_at old new one n (inl same) = subst (λ (list : List One). slice_get list n ≡ Some one) (sym same.0) same.1
put_at old new one n (inr put) =
    subst (λ (list : List One). slice_get list n ≡ Some one) (sym put.0)
    (subst (λ (k : ℕ). slice_get (old ++ one ∷ []) k ≡ Some one) (sym put.1) (get_end old one))

-- what holds of an answer holds of what follows from it
pub if_ok : {X E : Type 0} (r : Result X E) (P Q : X → Type 0) → ((x : X) → P x → Q x) → IfOk r P → IfOk r Q
if_ok (Ok x) P Q f h = f x h
if_ok (Err e) P Q f h = tt
