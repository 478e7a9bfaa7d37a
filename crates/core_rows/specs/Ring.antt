-- A small system to try the calls with: keys in a ring, each of which hands its number on to the next one.
use Rattle.std.specs.Prelude.{◌≡◌, ℕ, ◌+◌, ◌<◌, ◌≤◌, Bool, true, false, List, [], ◌∷◌, length, Option, Some, None, IsTrue, Contains, nat_lt, nat_le}
use Rattle.std.specs.Prelude.{if◌then◌else◌, min, max, refl, ◌/◌, ◌%◌}
use Rattle.std.specs.Ordering.{nat_cmp}
use Rattle.std.proofs.Common.{sym, ap, ◌∙◌, subst, arith, inl, inr, ◌⊎◌, ⊎_elim, zero, suc, cond, rules, tests}
use Rattle.std.proofs.lemmas.Bool.Decides.{nat_tests}
use Rattle.std.proofs.lemmas.Cmp.{nat_cmp_total}
use Rattle.std.proofs.lemmas.Map.Lookups.{exact_unsigned}
use Rattle.flow_system.specs.Rules.{Rules}
use Rattle.flow_system.specs.State.{AllFit, IsBelow, HasPieceAbove, IsCovered}
use Rattle.flow_system.specs.Laws.{IsLawful}

-- the key after one
abbrev pub next_of : ℕ → ℕ → ℕ
next_of last k = if nat_lt k last then k + 1 else 0

-- what it is handed: one more where the ring closes, up to 3
abbrev pub handed : ℕ → ℕ → ℕ → ℕ
handed last k v = if nat_lt k last then v else min (v + 1) 3

-- what a key gives, by its own fact
abbrev pub ring_gives : ℕ → ℕ → Option ℕ → List (ℕ × ℕ)
ring_gives last k None = []
ring_gives last k (Some v) = (next_of last k, handed last k v) ∷ []

-- the ring up to a last key, which starts with 0 at its first key and with 1 at another
abbrev pub ring : ℕ → ℕ → Rules ℕ ℕ
ring last second = record {
  starts = (0, 0) ∷ (second, 1) ∷ [];
  reads = λ k. k ∷ [];
  gives = λ k s. ring_gives last k (s k);
  join = max;
  at_most = nat_le;
  counted = λ k. true;
  fits = λ k v. nat_le v 3;
  rank = λ v. v;
  top = 3;
  most = 1;
}

pub one_of : {X : Type 0} (x y : X) → Contains (x ∷ []) y → x ≡ y
one_of x y (zero, below, is) = is
one_of x y (suc i, below, is) = absurd (omega arith)

pub one_of_two : {X : Type 0} (x y z : X) → Contains (x ∷ y ∷ []) z → (x ≡ z) ⊎ (y ≡ z)
one_of_two x y z (zero, below, is) = inl is
one_of_two x y z (suc zero, below, is) = inr is
one_of_two x y z (suc (suc i), below, is) = absurd (omega arith)

handed_fits : (last k v : ℕ) → IsTrue (nat_le v 3) → IsTrue (nat_le (handed last k v) 3)
handed_fits last k v h = fits_cases (nat_lt k last)
  where
    fits_cases : (b : Bool) → IsTrue (nat_le (cond b v (min (v + 1) 3)) 3)
    fits_cases true = h
    fits_cases false = grind (arith, nat_tests)

handed_up : (last k v w : ℕ) → IsTrue (nat_le v w) → IsTrue (nat_le (handed last k v) (handed last k w))
handed_up last k v w h = up_cases (nat_lt k last)
  where
    up_cases : (b : Bool) → IsTrue (nat_le (cond b v (min (v + 1) 3)) (cond b w (min (w + 1) 3)))
    up_cases true = h
    up_cases false = grind (arith, nat_tests)

gives_fit : (last j : ℕ) (o : Option ℕ) → ((v : ℕ) → o ≡ Some v → IsTrue (nat_le v 3)) → (k v : ℕ) → Contains (ring_gives last j o) (k, v) → IsTrue (nat_le v 3)
gives_fit last j None h k v listed = absurd (omega (arith, listed.1))
gives_fit last j (Some u) h k v listed = subst (λ (p : ℕ × ℕ). IsTrue (nat_le p.1 3)) (one_of (next_of last j, handed last j u) (k, v) listed)
    (handed_fits last j u (h u refl))

gives_short : (last j : ℕ) (o : Option ℕ) → length (ring_gives last j o) ≤ 1
gives_short last j None = omega arith
gives_short last j (Some u) = omega arith

gives_up : (last second j : ℕ) (o p : Option ℕ) → ((v : ℕ) → o ≡ Some v → (w : ℕ) × (p ≡ Some w) × IsTrue (nat_le v w))
    → IsCovered (ring last second) (ring_gives last j o) (ring_gives last j p)
gives_up last second j None p h k v listed = absurd (omega (arith, listed.1))
gives_up last second j (Some u) None h k v listed = let q = h u refl in let e = q.1 in cc
gives_up last second j (Some u) (Some w) h k v listed =
    let q = h u refl in
    let e : q.0 ≡ w = let f = q.1 in cc in
    let up = handed_up last j u w (subst (λ x. IsTrue (nat_le u x)) e q.2) in
    let is = one_of (next_of last j, handed last j u) (k, v) listed in
    subst (λ (x : ℕ × ℕ). HasPieceAbove (ring last second) (ring_gives last j (Some w)) x.0 x.1) is
    (record { fact = handed last j w; listed = (0, omega arith, refl); above = up })

-- the number of a key's part is below 64
pub ring_parted : (k : ℕ) → k / 16 % 64 < 64
ring_parted k = omega arith

pub ring_lawful : (last second : ℕ) → IsLawful nat_cmp (ring last second)
ring_lawful last second = record {
  keys = record { total = nat_cmp_total; exact = exact_unsigned };
  fit = record {
    starts = λ k v listed. ⊎_elim (λ e. subst (λ (p : ℕ × ℕ). IsTrue (nat_le p.1 3)) e refl) (λ e. subst (λ (p : ℕ × ℕ). IsTrue (nat_le p.1 3)) e refl)
        (one_of_two (0, 0) (second, 1) (k, v) listed);
    gives = λ j s fit k v listed. gives_fit last j (s j) (λ u e. fit j u e) k v listed;
    join = λ k a b fa fb. grind (arith, nat_tests);
  };
  order = record {
    same = λ k a fa. grind (arith, nat_tests);
    onward = λ k a b c fa fb fc ab bc. grind (arith, nat_tests);
    both = λ k a b fa fb ab ba. grind (arith, nat_tests);
  };
  least = record {
    first = λ k a b fa fb. grind (arith, nat_tests);
    second = λ k a b fa fb. grind (arith, nat_tests);
    least = λ k a b c fa fb fc ac bc. grind (arith, nat_tests);
  };
  monotone = λ s t fs ft below k. gives_up last second k (s k) (t k) (λ v e. let p = below k v e in (p.fact, p.found, p.above));
  looks = record {
    itself = λ k. (0, omega arith, refl);
    looks = λ s t fs ft k same. ap (ring_gives last k) (same k (0, omega arith, refl));
  };
  limits = record {
    rises = λ k a b fa fb up down. grind (arith, nat_tests);
    limit = λ k a fa. grind (arith, nat_tests);
    reads = λ k. omega arith;
    gives = λ k s fs. gives_short last k (s k);
    counted = λ k s h. cc;
  };
}
