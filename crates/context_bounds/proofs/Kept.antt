-- The keys of one subprogram among those of facts.
use Rattle.std.proofs.Common.{◌≡◌, ◌&&◌, ◌||◌, ◌↔◌, ◌⊎◌, Bool, true, false, cond, List, [], ◌∷◌, Some, Ordering, refl, sym, ap, ◌∙◌, inl, inr}
use Rattle.std.specs.Prelude.{is_some}
use Rattle.std.specs.List.{filter}
use Rattle.std.specs.Map.{keys_of}
use Rattle.std.specs.Ordering.{is_eq, ordering_reverse}
use Rattle.std.specs.declared.cmp.Ordering.TheVariants.{Less, Equal, Greater}
use Rattle.std.proofs.lemmas.Bool.{cases_Bool, false≢true}
use Rattle.std.proofs.lemmas.List.Kept.{IsStrictlySortedBy-filter}
use Rattle.abs_state.proofs.KeyLemmas.{keys_are_ordered}
use Rattle.abs_state.specs.Key.{compare}
use Rattle.abs_state.specs.declared.key.Key.{Key}
use Rattle.context_bounds.specs.Laws.{OwnKeysAreKept}
use Rattle.context_facts.specs.Context.{is_local}
use Rattle.flow_system.specs.Facts.{fact_at}
use Rattle.local_facts.specs.Restricted.{is_listed}
use Rattle.transfer_rules.specs.Fact.{Piece}

-- an ordering that is said to be equal is equal
pub equal_from_is_eq : (o : Ordering) → is_eq o ≡ true → o ≡ Equal
equal_from_is_eq Less e = absurd (cc)
equal_from_is_eq Equal e = refl
equal_from_is_eq Greater e = absurd (cc)

-- turned round, it says equal of the same
reversed : (o : Ordering) → is_eq (ordering_reverse o) ≡ is_eq o
reversed Less = refl
reversed Equal = refl
reversed Greater = refl

-- two keys are equal either way round
either_way : (j k : Key) → is_eq (compare j k) ≡ is_eq (compare k j)
either_way j k = ap is_eq (keys_are_ordered.total.antisymm j k) ∙ reversed (compare k j)

-- where one of two is false both are
none_of : (b : Bool) → false ≡ (b && false)
none_of true = refl
none_of false = refl

-- a key is listed among those that pass a test exactly where it passes and has a fact
pub kept_where : (p : Key → Bool) (pieces : List Piece) (k : Key)
    → is_listed compare (filter p (keys_of pieces)) k ≡ (p k && is_some (fact_at compare pieces k))
kept_where p [] k = none_of (p k)
kept_where p (piece ∷ rest) k = by (kept_where p rest k) (cases_Bool (is_eq (compare k piece.0))) (cases_Bool (p piece.0))
  where
    by : (is_listed compare (filter p (keys_of rest)) k ≡ (p k && is_some (fact_at compare rest k)))
        → (is_eq (compare k piece.0) ≡ true) ⊎ (is_eq (compare k piece.0) ≡ false) → (p piece.0 ≡ true) ⊎ (p piece.0 ≡ false)
        → is_listed compare (cond (p piece.0) (piece.0 ∷ (filter p (keys_of rest))) (filter p (keys_of rest))) k
        ≡ (p k && is_some (cond (is_eq (compare k piece.0)) (Some piece.1) (fact_at compare rest k)))
    by below (inl same) (inl passing) =
        let e : k ≡ piece.0 = keys_are_ordered.exact k piece.0 (equal_from_is_eq (compare k piece.0) same) in
        ap (λ (b : Bool). is_listed compare (cond b (piece.0 ∷ (filter p (keys_of rest))) (filter p (keys_of rest))) k) passing
        ∙ (ap (λ (b : Bool). b || is_listed compare (filter p (keys_of rest)) k) (either_way piece.0 k ∙ same)
        ∙ sym (ap (λ (b : Bool). p k && is_some (cond b (Some piece.1) (fact_at compare rest k))) same ∙ ap (λ (b : Bool). b && true) (ap p e ∙ passing)))
    by below (inl same) (inr failing) =
        let e : k ≡ piece.0 = keys_are_ordered.exact k piece.0 (equal_from_is_eq (compare k piece.0) same) in
        ap (λ (b : Bool). is_listed compare (cond b (piece.0 ∷ (filter p (keys_of rest))) (filter p (keys_of rest))) k) failing
        ∙ (below
        ∙ (ap (λ (b : Bool). b && is_some (fact_at compare rest k)) (ap p e ∙ failing)
        ∙ sym (ap (λ (b : Bool). b && is_some (cond (is_eq (compare k piece.0)) (Some piece.1) (fact_at compare rest k))) (ap p e ∙ failing))))
    by below (inr apart) (inl passing) =
        ap (λ (b : Bool). is_listed compare (cond b (piece.0 ∷ (filter p (keys_of rest))) (filter p (keys_of rest))) k) passing
        ∙ (ap (λ (b : Bool). b || is_listed compare (filter p (keys_of rest)) k) (either_way piece.0 k ∙ apart)
        ∙ (below ∙ sym (ap (λ (b : Bool). p k && is_some (cond b (Some piece.1) (fact_at compare rest k))) apart)))
    by below (inr apart) (inr failing) =
        ap (λ (b : Bool). is_listed compare (cond b (piece.0 ∷ (filter p (keys_of rest))) (filter p (keys_of rest))) k) failing
        ∙ (below ∙ sym (ap (λ (b : Bool). p k && is_some (cond b (Some piece.1) (fact_at compare rest k))) apart))

-- both hold where their conjunction does
both_of : (b c : Bool) → ((b && c) ≡ true) ↔ ((b ≡ true) × (c ≡ true))
both_of true c = (λ h. (refl, h), λ h. h.1)
both_of false c = (λ h. absurd (false≢true h), λ h. absurd (false≢true h.0))

-- the keys of a subprogram rise, and are those of it that facts have
pub own_keys_are_kept : OwnKeysAreKept
own_keys_are_kept pieces sub rise = record {
  rise = IsStrictlySortedBy-filter compare (is_local sub) (keys_of pieces) rise;
  each = λ k.
      let is = kept_where (is_local sub) pieces k in
      let both = both_of (is_local sub k) (is_some (fact_at compare pieces k)) in
      (λ listed. both.0 (sym is ∙ listed), λ has. is ∙ both.1 has);
}
