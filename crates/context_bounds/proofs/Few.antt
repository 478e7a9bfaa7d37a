-- Rising keys that are all listed are no more than the list.
use Rattle.std.proofs.Common.{◌≡◌, ◌||◌, ℕ, suc, ◌<◌, ◌≤◌, Bool, true, false, cond, List, [], ◌∷◌, length, get_or, ⊎_elim, refl, sym, ap, ◌∙◌, arith}
use Rattle.std.specs.List.{All}
use Rattle.std.specs.List.Sorted.{IsStrictlySortedBy}
use Rattle.std.specs.Ordering.{is_eq}
use Rattle.std.specs.declared.cmp.Ordering.TheVariants.{Less, Equal}
use Rattle.std.proofs.lemmas.Bool.{cases_lt}
use Rattle.std.proofs.lemmas.Cmp.{tied_itself}
use Rattle.std.proofs.lemmas.Map.Keys.{Less-from_sorted}
use Rattle.abs_state.proofs.KeyLemmas.{keys_are_ordered}
use Rattle.abs_state.specs.Key.{compare}
use Rattle.abs_state.specs.declared.key.Key.{Key}
use Rattle.context_bounds.proofs.Shapes.{keys_order}
use Rattle.context_outcomes.proofs.Pigeons.{pigeonhole}
use Rattle.flow_core.proofs.EntryLemmas.{same_key}
use Rattle.local_facts.specs.Restricted.{is_listed}

-- the place of a key in a list, or the list's length
abbrev place : List Key → Key → ℕ
place [] k = 0
place (q ∷ qs) k = cond (is_eq (compare q k)) 0 (suc (place qs k))

-- the place of a listed key is within the list
place_within : (qs : List Key) (k : Key) → is_listed compare qs k ≡ true → place qs k < length qs
place_within [] k h = absurd (cc)
place_within (q ∷ qs) k h = within_cases (place_within qs k) (is_eq (compare q k)) refl
  where
    within_cases : (is_listed compare qs k ≡ true → place qs k < length qs) → (b : Bool) → is_eq (compare q k) ≡ b
        → cond b 0 (suc (place qs k)) < suc (length qs)
    within_cases later true e = omega arith
    within_cases later false e = let r = later (sym (ap (λ c. c || is_listed compare qs k) e) ∙ h) in omega (arith, r)

-- at its place a listed key stands
place_is : (qs : List Key) (k d : Key) → is_listed compare qs k ≡ true → get_or qs (place qs k) d ≡ k
place_is [] k d h = absurd (cc)
place_is (q ∷ qs) k d h = is_cases (place_is qs k d) (is_eq (compare q k)) refl
  where
    is_cases : (is_listed compare qs k ≡ true → get_or qs (place qs k) d ≡ k) → (b : Bool) → is_eq (compare q k) ≡ b
        → get_or (q ∷ qs) (cond b 0 (suc (place qs k))) d ≡ k
    is_cases later true e = same_key compare keys_order q k e
    is_cases later false e = later (sym (ap (λ c. c || is_listed compare qs k) e) ∙ h)

-- rising keys have places of their own, so they are no more than the list
pub few_keys : (keep : List Key) (d : Key) (ks : List Key) → IsStrictlySortedBy compare ks → All (λ k. is_listed compare keep k ≡ true) ks
    → length ks ≤ length keep
few_keys keep d ks rise kept = pigeonhole (length ks) (length keep) at (λ i low. place_within keep (get_or ks i d) (kept i d low)) one
  where
    at : ℕ → ℕ
    at i = place keep (get_or ks i d)

    same : (i j : ℕ) → i < length ks → j < length ks → place keep (get_or ks i d) ≡ place keep (get_or ks j d) → get_or ks i d ≡ get_or ks j d
    same i j a b e = sym (place_is keep (get_or ks i d) d (kept i d a)) ∙ ap (λ n. get_or keep n d) e ∙ place_is keep (get_or ks j d) d (kept j d b)

    apart : (i j : ℕ) → i < j → j < length ks → get_or ks i d ≡ get_or ks j d → ⊥
    apart i j low within e =
        let less : compare (get_or ks i d) (get_or ks j d) ≡ Less = Less-from_sorted compare ks i j d rise low within in
        let tied : compare (get_or ks i d) (get_or ks j d) ≡ Equal =
        ap (λ x. compare (get_or ks i d) x) (sym e) ∙ tied_itself keys_are_ordered.total (get_or ks i d) in
        let clash : Less ≡ Equal = sym less ∙ tied in
        absurd (cc)

    one : (i j : ℕ) → i < length ks → j < length ks → place keep (get_or ks i d) ≡ place keep (get_or ks j d) → i ≡ j
    one i j a b e =
        ⊎_elim (λ (low : i < j). absurd (apart i j low b (same i j a b e)))
        (λ (high : j ≤ i). ⊎_elim (λ (low : j < i). absurd (apart j i low a (sym (same i j a b e)))) (λ (up : i ≤ j). omega (arith, high, up)) (cases_lt j i))
        (cases_lt i j)
