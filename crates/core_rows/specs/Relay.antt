-- A small system for the tests: keys in a ring, each of which hands on the greater of its own number and that of the
-- last key.
use Rattle.std.specs.Prelude.{◌≡◌, ℕ, ◌+◌, ◌≤◌, true, List, [], ◌∷◌, length, Option, Some, None, IsTrue, Contains, nat_lt, nat_le, if◌then◌else◌, max, refl}
use Rattle.std.specs.Ordering.{nat_cmp}
use Rattle.std.proofs.Common.{ap, ◌∙◌, subst, arith, zero, suc}
use Rattle.std.proofs.lemmas.Bool.Decides.{nat_tests}
use Rattle.std.proofs.lemmas.Cmp.{nat_cmp_total}
use Rattle.std.proofs.lemmas.Map.Lookups.{exact_unsigned}
use Rattle.flow_system.specs.Rules.{Rules}
use Rattle.flow_system.specs.State.{HasPieceAbove, IsCovered}
use Rattle.flow_system.specs.Laws.{IsLawful}

-- the key after one
abbrev pub next_of : ℕ → ℕ → ℕ
next_of last k = if nat_lt k last then k + 1 else 0

-- what a key hands on, by its own number and that of the last key
abbrev pub handed : ℕ → Option ℕ → ℕ
handed v None = v
handed v (Some w) = max v w

-- what a key gives, by its own fact and that of the last key
abbrev pub relay_gives : ℕ → ℕ → Option ℕ → Option ℕ → List (ℕ × ℕ)
relay_gives last k None other = []
relay_gives last k (Some v) other = (next_of last k, handed v other) ∷ []

-- the ring up to a last key, which starts with 0 at its first key
abbrev pub relay : ℕ → Rules ℕ ℕ
relay last = record {
  starts = (0, 0) ∷ [];
  reads = λ k. k ∷ last ∷ [];
  gives = λ k s. relay_gives last k (s k) (s last);
  join = max;
  at_most = nat_le;
  counted = λ k. true;
  fits = λ k v. nat_le v 3;
  rank = λ v. v;
  top = 3;
  most = 2;
}

pub one_of : {X : Type 0} (x y : X) → Contains (x ∷ []) y → x ≡ y
one_of x y (zero, below, is) = is
one_of x y (suc i, below, is) = absurd (omega arith)

-- a number that stands in the first state is at most one that stands in the second
abbrev IsUp : Option ℕ → Option ℕ → Type 0
IsUp o p = (v : ℕ) → o ≡ Some v → (w : ℕ) × (p ≡ Some w) × IsTrue (nat_le v w)

abbrev Fits : Option ℕ → Type 0
Fits o = (v : ℕ) → o ≡ Some v → IsTrue (nat_le v 3)

handed_fits : (v : ℕ) (o : Option ℕ) → IsTrue (nat_le v 3) → Fits o → IsTrue (nat_le (handed v o) 3)
handed_fits v None h f = h
handed_fits v (Some w) h f = let fw = f w refl in grind (arith, nat_tests)

handed_up : (v w : ℕ) (o p : Option ℕ) → IsTrue (nat_le v w) → IsUp o p → IsTrue (nat_le (handed v o) (handed w p))
handed_up v w None None h up = h
handed_up v w None (Some y) h up = grind (arith, nat_tests)
handed_up v w (Some x) None h up = let q = up x refl in let e = q.1 in cc
handed_up v w (Some x) (Some y) h up =
    let q = up x refl in
    let e : q.0 ≡ y = let f = q.1 in cc in
    let below : IsTrue (nat_le x y) = subst (λ z. IsTrue (nat_le x z)) e q.2 in
    grind (arith, nat_tests)

gives_fit : (last j : ℕ) (o p : Option ℕ) → Fits o → Fits p → (k v : ℕ) → Contains (relay_gives last j o p) (k, v) → IsTrue (nat_le v 3)
gives_fit last j None p h f k v listed = absurd (omega (arith, listed.1))
gives_fit last j (Some u) p h f k v listed = subst (λ (x : ℕ × ℕ). IsTrue (nat_le x.1 3)) (one_of (next_of last j, handed u p) (k, v) listed)
    (handed_fits u p (h u refl) f)

gives_short : (last j : ℕ) (o p : Option ℕ) → length (relay_gives last j o p) ≤ 2
gives_short last j None p = omega arith
gives_short last j (Some u) p = omega arith

gives_up : (last j : ℕ) (o p a b : Option ℕ) → IsUp o p → IsUp a b → IsCovered (relay last) (relay_gives last j o a) (relay_gives last j p b)
gives_up last j None p a b h up k v listed = absurd (omega (arith, listed.1))
gives_up last j (Some u) None a b h up k v listed = let q = h u refl in let e = q.1 in cc
gives_up last j (Some u) (Some w) a b h up k v listed =
    let q = h u refl in
    let e : q.0 ≡ w = let f = q.1 in cc in
    let above = handed_up u w a b (subst (λ x. IsTrue (nat_le u x)) e q.2) up in
    let is = one_of (next_of last j, handed u a) (k, v) listed in
    subst (λ (x : ℕ × ℕ). HasPieceAbove (relay last) (relay_gives last j (Some w) b) x.0 x.1) is
    (record { fact = handed w b; listed = (0, omega arith, refl); above = above })

pub relay_lawful : (last : ℕ) → IsLawful nat_cmp (relay last)
relay_lawful last = record {
  keys = record { total = nat_cmp_total; exact = exact_unsigned };
  fit = record {
    starts = λ k v listed. subst (λ (p : ℕ × ℕ). IsTrue (nat_le p.1 3)) (one_of (0, 0) (k, v) listed) refl;
    gives = λ j s fit k v listed. gives_fit last j (s j) (s last) (λ u e. fit j u e) (λ u e. fit last u e) k v listed;
    join = λ k a b fa fb. grind (arith, nat_tests);
  };
  order = record {
    same = λ k a fa. grind (arith, nat_tests);
    onward = λ k a b c fa fb fc ab bc. grind (arith, nat_tests);
    both = λ k a b fa fb ab ba. grind (arith, nat_tests);
  };
  least = record {
    first = λ k a b fa fb. grind (arith, nat_tests);
    second = λ k a b fa fb. grind (arith, nat_tests);
    least = λ k a b c fa fb fc ac bc. grind (arith, nat_tests);
  };
  monotone = λ s t fs ft below k. gives_up last k (s k) (t k) (s last) (t last) (λ v e. let p = below k v e in (p.fact, p.found, p.above))
      (λ v e. let p = below last v e in (p.fact, p.found, p.above));
  looks = record {
    itself = λ k. (0, omega arith, refl);
    looks = λ s t fs ft k same. ap (λ o. relay_gives last k o (s last)) (same k (0, omega arith, refl))
        ∙ ap (λ o. relay_gives last k (t k) o) (same last (1, omega arith, refl));
  };
  limits = record {
    rises = λ k a b fa fb up down. grind (arith, nat_tests);
    limit = λ k a fa. grind (arith, nat_tests);
    reads = λ k. omega arith;
    gives = λ k s fs. gives_short last k (s k) (s last);
    counted = λ k s h. cc;
  };
}
