-- The due graph of a restricted system is the least map over the kept keys, and the other way round.
use Rattle.std.proofs.Common.{◌≡◌, ℕ, ◌≤◌, List, [], Option, Some, None, Ordering, IsSome, IsTrue, refl, sym, subst}
use Rattle.flow_system.specs.Laws.{IsLawful}
use Rattle.flow_system.specs.Rules.{Rules}
use Rattle.flow_system.specs.State.{ContainsPiece, IsClosed, IsDueGraph}
use Rattle.local_facts.specs.Restricted.{is_listed, beside, restricted, IsRestriction, IsLocallyClosed, IsLeastLocal}
use Rattle.flow_core.specs.Core.{counted_keys}
use Rattle.flow_core.specs.Refusal.{IsPassing, IsTooBig}
use Rattle.flow_core.specs.declared.refusals.GrowRefusal.{GrowRefusal}
use Rattle.flow_core.specs.declared.refusals.GrowRefusal.TheVariants.{Nodes, Want}
use Rattle.local_facts.specs.Laws.{kept_listed, listed_kept, true_both, fits_whole, fits_kept}

module _ {K V : Type 0} (cmp : K → K → Ordering) (m : Rules K V) (starts : List (K × V)) (keep : List K) (fixed : List (K × V)) where
  piece_whole : (s : K → Option V) (k : K) (v : V) → ContainsPiece (restricted cmp m starts keep fixed) s k v → ContainsPiece m s k v
  piece_whole s k v p = record { fact = p.fact; found = p.found; above = p.above }

  piece_local : (s : K → Option V) (k : K) (v : V) → ContainsPiece m s k v → ContainsPiece (restricted cmp m starts keep fixed) s k v
  piece_local s k v p = record { fact = p.fact; found = p.found; above = p.above }

module _ {K V : Type 0} (cmp : K → K → Ordering) (m : Rules K V) (law : IsLawful cmp m) (starts : List (K × V)) (keep : List K)
    (fixed : List (K × V)) (sound : IsRestriction cmp m starts keep fixed) where
  local_closed : (s : K → Option V) → IsClosed (restricted cmp m starts keep fixed) s → IsLocallyClosed cmp m starts keep fixed s
  local_closed s closed = record {
    kept = λ k has. kept_cases k (s k) refl has;
    fit = λ k v found. fits_whole cmp m law starts keep fixed sound k v (closed.fit k v found);
    starts = λ k v listed. piece_whole cmp m starts keep fixed s k v (closed.starts k v listed);
    given = λ k has j v listed kept. piece_whole cmp m starts keep fixed s j v
        (closed.given k has j v (listed_kept (λ (piece : K × V). is_listed cmp keep piece.0) (m.gives k (beside cmp keep fixed s))
        (j, v) listed kept));
  }
    where
      kept_cases : (k : K) (o : Option V) → s k ≡ o → IsSome o → IsTrue (is_listed cmp keep k)
      kept_cases k None e has = absurd (cc)
      kept_cases k (Some v) e has = fits_kept cmp m law starts keep fixed sound k v (closed.fit k v e)

  whole_closed : (s : K → Option V) → IsLocallyClosed cmp m starts keep fixed s → IsClosed (restricted cmp m starts keep fixed) s
  whole_closed s closed = record {
    fit = λ k v found. true_both (is_listed cmp keep k) (m.fits k v) (closed.kept k (subst (λ (o : Option V). IsSome o) (sym found) refl))
        (closed.fit k v found);
    starts = λ k v listed. piece_local cmp m starts keep fixed s k v (closed.starts k v listed);
    given = λ k has j v listed.
        let r = kept_listed (λ (piece : K × V). is_listed cmp keep piece.0) (m.gives k (beside cmp keep fixed s)) (j, v) listed in
        piece_local cmp m starts keep fixed s j v (closed.given k has j v r.0 r.1);
  }

  -- the due graph of the restricted system is the least map
  pub least_from_due : (s : K → Option V) → IsDueGraph (restricted cmp m starts keep fixed) s → IsLeastLocal cmp m starts keep fixed s
  least_from_due s due = record {
    closed = local_closed s due.closed;
    least = λ t closed k v found. piece_whole cmp m starts keep fixed t k v (due.least k v found t (whole_closed t closed));
  }

  -- the least map is the due graph of the restricted system
  pub due_from_least : (s : K → Option V) → IsLeastLocal cmp m starts keep fixed s → IsDueGraph (restricted cmp m starts keep fixed) s
  due_from_least s least = record {
    closed = whole_closed s least.closed;
    least = λ k v found t closed. piece_local cmp m starts keep fixed t k v (least.least t (local_closed t closed) k v found);
  }

  -- the same where the rules are only equal to the restricted ones
  pub least_from_due_of : (r : Rules K V) (s t : K → Option V) → r ≡ restricted cmp m starts keep fixed → IsDueGraph r s → t ≡ s
      → IsLeastLocal cmp m starts keep fixed t
  least_from_due_of r s t is due same =
      least_from_due t (subst (λ x. IsDueGraph (restricted cmp m starts keep fixed) x) (sym same) (subst (λ x. IsDueGraph x s) is due))

  -- the limit of the restricted system is one on the counted keys of the whole
  pub within_of : (r : Rules K V) (facts facts' : List (K × V)) (limit limit' : ℕ) → r ≡ restricted cmp m starts keep fixed
      → counted_keys r facts ≤ limit → facts' ≡ facts → limit ≡ limit' → counted_keys m facts' ≤ limit'
  within_of r facts facts' limit limit' is within same to =
      subst (λ n. counted_keys m facts' ≤ n) to (subst (λ x. counted_keys m x ≤ limit) (sym same) (subst (λ x. counted_keys x facts ≤ limit) is within))

module _ {K V : Type 0} (cmp : K → K → Ordering) (m : Rules K V) (law : IsLawful cmp m) (starts : List (K × V)) (keep : List K) (fixed : List (K × V)) where
  -- the facts of two least maps at a key are the same
  pub least_same : (s t : K → Option V) → IsLeastLocal cmp m starts keep fixed s → IsLeastLocal cmp m starts keep fixed t → (k : K) → s k ≡ t k
  least_same s t first second k = same_cases (s k) (t k) refl refl
    where
      fact_same : (v w : V) → s k ≡ Some v → t k ≡ Some w → v ≡ w
      fact_same v w here there =
          let up = first.least t second.closed k v here in
          let down = second.least s first.closed k w there in
          let is_w : up.fact ≡ w = let f = up.found in cc in
          let is_v : down.fact ≡ v = let f = down.found in cc in
          law.order.both k v w (first.closed.fit k v here) (second.closed.fit k w there) (subst (λ x. IsTrue (m.at_most v x)) is_w up.above)
          (subst (λ x. IsTrue (m.at_most w x)) is_v down.above)

      same_cases : (o p : Option V) → s k ≡ o → t k ≡ p → s k ≡ t k
      same_cases None None here there = cc
      same_cases None (Some w) here there = let found = (second.least s first.closed k w there).found in absurd (cc)
      same_cases (Some v) None here there = let found = (first.least t second.closed k v here).found in absurd (cc)
      same_cases (Some v) (Some w) here there = let is = fact_same v w here there in cc

-- where the start pieces alone pass the limit, so does each closed state
pub passing_is_too_big : {K V : Type 0} (cmp : K → K → Ordering) (r q : Rules K V) (limit : ℕ) → r ≡ q → (refusal : GrowRefusal)
    → IsPassing cmp r [] r.starts limit refusal → IsTooBig cmp q limit refusal
passing_is_too_big {K} {V} cmp r q limit is refusal passing = too_big refusal (subst (λ (x : Rules K V). IsPassing cmp x [] x.starts limit refusal) is passing)
  where
    too_big : (refusal : GrowRefusal) → IsPassing cmp q [] q.starts limit refusal → IsTooBig cmp q limit refusal
    too_big (Nodes count) (one_more, passes) = (one_more, λ t rise closed. passes t rise closed.fit (λ k v found. absurd (cc)) closed.starts)
    too_big Want passing = tt

-- the same refusal, where rules and limits are only equal
pub too_big_of : {K V : Type 0} (cmp : K → K → Ordering) (r q : Rules K V) (limit limit' : ℕ) → r ≡ q → limit ≡ limit' → (refusal : GrowRefusal)
    → IsTooBig cmp r limit refusal → IsTooBig cmp q limit' refusal
too_big_of cmp r q limit limit' is same refusal too_big = subst (λ n. IsTooBig cmp q n refusal) same (subst (λ x. IsTooBig cmp x limit refusal) is too_big)
