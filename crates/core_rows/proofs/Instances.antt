-- Tests that the rings hand on, and a ring beside another of the same numbers.
use Rattle.std.proofs.Common.{◌≡◌, ℕ, ◌+◌, ◌≤◌, Bool, true, false, cond, List, [], ◌∷◌, Option, Some, None, Ordering, IsTrue, Contains, nat_le, nat_lt}
use Rattle.std.proofs.Common.{refl, subst, arith, ⊎_elim}
use Rattle.std.proofs.lemmas.Bool.Decides.{nat_tests}
use Rattle.std.specs.Ordering.{nat_cmp}
use Rattle.flow_system.specs.Due.{IsHandedOn, IsFiner}
use Rattle.flow_system.specs.Laws.{IsLawful}
use Rattle.flow_system.specs.Rules.{Rules}
use Rattle.local_facts.specs.Handed.{IsHandedOnLocally}
use Rattle.local_facts.specs.Restricted.{beside}
use Rattle.core_rows.specs.Relay as Relay
use Rattle.core_rows.specs.Ring.{ring, ring_gives, ring_lawful, next_of, handed, one_of, one_of_two}

next_within : (last j : ℕ) → IsTrue (nat_le (next_of last j) last)
next_within last j = next_cases (nat_lt j last) refl
  where
    next_cases : (b : Bool) → nat_lt j last ≡ b → IsTrue (nat_le (cond b (j + 1) 0) last)
    next_cases true e = grind (arith, nat_tests)
    next_cases false e = grind (arith, nat_tests)

gives_within : (last j : ℕ) (o : Option ℕ) (k v : ℕ) → Contains (ring_gives last j o) (k, v) → IsTrue (nat_le k last)
gives_within last j None k v listed = absurd (omega (arith, listed.1))
gives_within last j (Some u) k v listed = subst (λ (p : ℕ × ℕ). IsTrue (nat_le p.0 last)) (one_of (next_of last j, handed last j u) (k, v) listed)
    (next_within last j)

-- a ring hands on that keys are at most its last
pub keys_handed_on : (last second : ℕ) (s : ℕ → Option ℕ) → second ≤ last → IsHandedOn (ring last second) s (λ k v. nat_le k last)
keys_handed_on last second s below = record {
  starts = λ k v listed. ⊎_elim (λ e. subst (λ (p : ℕ × ℕ). IsTrue (nat_le p.0 last)) e (grind (arith, nat_tests)))
      (λ e. subst (λ (p : ℕ × ℕ). IsTrue (nat_le p.0 last)) e (grind (arith, nat_tests))) (one_of_two (0, 0) (second, 1) (k, v) listed);
  greater = λ k v w fv fw up passes. passes;
  given = λ j u found passes k v listed. gives_within last j (s j) k v listed;
}

relay_within : (last j : ℕ) (o p : Option ℕ) (k v : ℕ) → Contains (Relay.relay_gives last j o p) (k, v) → IsTrue (nat_le k last)
relay_within last j None p k v listed = absurd (omega (arith, listed.1))
relay_within last j (Some u) p k v listed = subst (λ (x : ℕ × ℕ). IsTrue (nat_le x.0 last)) (one_of (next_of last j, Relay.handed u p) (k, v) listed)
    (next_within last j)

-- the restricted relay hands on that keys are at most its last
pub kept_handed_on : (last start v : ℕ) (keep : List ℕ) (fixed : List (ℕ × ℕ)) (s : ℕ → Option ℕ) → start ≤ last
    → IsHandedOnLocally nat_cmp (Relay.relay last) ((start, v) ∷ []) keep fixed s (λ k v. nat_le k last)
kept_handed_on last start v keep fixed s below = record {
  starts = λ k w listed. subst (λ (p : ℕ × ℕ). IsTrue (nat_le p.0 last)) (one_of (start, v) (k, w) listed) (grind (arith, nat_tests));
  greater = λ k v w fv fw up passes. passes;
  given = λ j u found passes k w listed kept. relay_within last j (beside nat_cmp keep fixed s j) (beside nat_cmp keep fixed s last) k w listed;
}

finer_itself : (m : Rules ℕ ℕ) → IsLawful nat_cmp m → IsFiner m m
finer_itself m law = record {
  fits = λ k v fits. fits;
  order = λ v w up. up;
  starts = λ k v listed. record { fact = v; listed = listed; above = law.order.same k v (law.fit.starts k v listed) };
  gives = λ k s fit j v listed. record { fact = v; listed = listed; above = law.order.same j v (law.fit.gives k s fit j v listed) };
}

-- two rings of the same numbers give no more than each other
pub same_rings : (last second last' second' : ℕ) → last ≡ last' → second ≡ second' → IsFiner (ring last second) (ring last' second')
same_rings last second last' second' l s = subst (λ x. IsFiner (ring last second) (ring x second')) l
    (subst (λ y. IsFiner (ring last second) (ring last y)) s (finer_itself (ring last second) (ring_lawful last second)))
