-- Pieces at keys are pieces of the facts, so they fit and are due as these do.
use Rattle.std.proofs.Common.{◌≡◌, ℕ, ◌<◌, ◌≤◌, List, [], ◌∷◌, Option, Some, None, Ordering, IsSome, IsTrue, Contains, refl, sym, ap, ◌∙◌, subst, arith}
use Rattle.std.proofs.Common.{zero, suc}
use Rattle.std.specs.List.{flat_map}
use Rattle.std.specs.Map.{keys_of}
use Rattle.flow_system.specs.Facts.{fact_at, KeysRise}
use Rattle.flow_system.specs.Laws.{IsLawful}
use Rattle.flow_system.specs.Rules.{Rules}
use Rattle.flow_system.specs.State.{AllFit, ContainsAll, IsBelow, AllDue, HoldsDue}
use Rattle.flow_core.specs.Core.{counted_keys}
use Rattle.flow_core.specs.Refusal.{IsPassing}
use Rattle.flow_core.specs.Staged.{PiecesFit}
use Rattle.flow_core.specs.declared.refusals.GrowRefusal.TheVariants.{Nodes}
use Rattle.flow_core.proofs.QueueLemmas.{some_when}
use Rattle.flow_core.proofs.StateLemmas.{below_itself}
use Rattle.flow_core.proofs.WritingLemmas.{flat_from, flat_listed, key_listed}
use Rattle.part_pool.specs.Pieces.{piece_of, pieces_at}

contains_one : {X : Type 0} (x y : X) → Contains (x ∷ []) y → x ≡ y
contains_one x y (zero, below, is) = is
contains_one x y (suc i, below, is) = absurd (omega arith)

module _ {K V : Type 0} where
  piece_is : (k q : K) (v : V) (o : Option V) → Contains (piece_of k o) (q, v) → (k ≡ q) × (o ≡ Some v)
  piece_is k q v None listed = absurd (omega (arith, listed.1))
  piece_is k q v (Some w) listed =
      let is : (k, w) ≡ (q, v) = contains_one (k, w) (q, v) listed in (ap (λ (p : K × V). p.0) is, ap (λ (p : K × V). Some p.1) is)

  module _ (cmp : K → K → Ordering) (facts : List (K × V)) (keys : List K) where
    pub piece_stands : (k : K) (v : V) → Contains (pieces_at cmp facts keys) (k, v) → fact_at cmp facts k ≡ Some v
    piece_stands k v listed =
        let from = flat_from (λ (q : K). piece_of q (fact_at cmp facts q)) keys (k, v) listed in
        let is = piece_is from.one k v (fact_at cmp facts from.one) from.inner in
        subst (λ q. fact_at cmp facts q ≡ Some v) is.0 is.1

    pub piece_listed : (k : K) (v : V) → Contains keys k → fact_at cmp facts k ≡ Some v → Contains (pieces_at cmp facts keys) (k, v)
    piece_listed k v listed found = flat_listed (λ (q : K). piece_of q (fact_at cmp facts q)) keys k (k, v) listed
        (subst (λ o. Contains (piece_of k o) (k, v)) (sym found) (zero, omega arith, refl))

    module _ (m : Rules K V) where
      pub pieces_fit : AllFit m (fact_at cmp facts) → PiecesFit m (pieces_at cmp facts keys)
      pieces_fit fit k v listed = fit k v (piece_stands k v listed)

      pub pieces_due : HoldsDue m (fact_at cmp facts) → AllDue m (pieces_at cmp facts keys)
      pieces_due due k v listed = due k v (piece_stands k v listed)

      pub pieces_contained : (s : K → Option V) → IsBelow m (fact_at cmp facts) s → ContainsAll m s (pieces_at cmp facts keys)
      pieces_contained s below k v listed = below k v (piece_stands k v listed)

      pub pieces_stand : IsLawful cmp m → AllFit m (fact_at cmp facts) → ContainsAll m (fact_at cmp facts) (pieces_at cmp facts keys)
      pieces_stand law fit = pieces_contained (fact_at cmp facts) (below_itself cmp m law (fact_at cmp facts) fit)

  -- a state that contains the pieces at all keys contains the facts
  pub all_contained : (cmp : K → K → Ordering) (m : Rules K V) → IsLawful cmp m → (facts : List (K × V)) (s : K → Option V)
      → ContainsAll m s (pieces_at cmp facts (keys_of facts)) → IsBelow m (fact_at cmp facts) s
  all_contained cmp m law facts s has k v found = has k v
      (piece_listed cmp facts (keys_of facts) k v (key_listed cmp law.keys facts k (some_when (fact_at cmp facts k) v found)) found)

  module _ (cmp : K → K → Ordering) (m : Rules K V) (facts own : List (K × V)) (keys : List K) (pieces : List (K × V)) (are : pieces ≡ pieces_at cmp facts keys)
      (same : facts ≡ own) where
    -- copies of facts that fit fit, and of facts that are due are due
    pub copies_fit : AllFit m (fact_at cmp own) → PiecesFit m pieces
    copies_fit fit = subst (λ list. PiecesFit m list) (sym are) (pieces_fit cmp facts keys m (subst (λ list. AllFit m (fact_at cmp list)) (sym same) fit))

    pub copies_due : HoldsDue m (fact_at cmp own) → AllDue m pieces
    copies_due due = subst (λ list. AllDue m list) (sym are) (pieces_due cmp facts keys m (subst (λ list. HoldsDue m (fact_at cmp list)) (sym same) due))

  -- facts within the limit have no pieces that pass it
  pub begins_within : (cmp : K → K → Ordering) (m : Rules K V) → IsLawful cmp m → (facts old : List (K × V)) (keys : List K) (pieces : List (K × V))
      (limit count : ℕ) → old ≡ [] → pieces ≡ pieces_at cmp facts keys → AllFit m (fact_at cmp facts) → KeysRise cmp facts → counted_keys m facts ≤ limit
      → IsPassing cmp m old pieces limit (Nodes count) → ⊥
  begins_within cmp m law facts old keys pieces limit count none are fit rise within passing =
      let over : limit < counted_keys m facts = passing.1 facts rise fit
      (subst (λ list. IsBelow m (fact_at cmp list) (fact_at cmp facts)) (sym none) (λ k v e. absurd (cc)))
      (subst (λ list. ContainsAll m (fact_at cmp facts) list) (sym are) (pieces_stand cmp facts keys m law fit)) in
      omega arith
