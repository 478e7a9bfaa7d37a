-- Chains of what waits: nothing does where each that waits calls another that does.
use Rattle.std.proofs.Common.{◌≡◌, ◌==◌, ◌&&◌, ◌||◌, ℕ, suc, ◌<◌, ◌≤◌, ◌+◌, ◌⊎◌, inl, inr, Bool, true, false, List, [], ◌∷◌, Contains, length, refl, sym, ap, subst, arith, eqb-true, zero}
use Rattle.std.proofs.lemmas.Bool.{false≢true}
use Rattle.std.proofs.lemmas.Bool.Decides.{eqb_tells}
use Rattle.assert_bind.proofs.SubjectLemmas.{and_both}
use Rattle.call_laws.proofs.Chains.{followed_end}
use Rattle.call_laws.proofs.Risings.{contains_first, contains_later, contains_cases, none_in_empty}
use Rattle.call_laws.specs.Calls.{AreBelow, AreFollowed, ChainsEnd}
use Rattle.graph_laws.specs.Walk.{IsWalk}
use Rattle.graph_laws.specs.Nest.{Reaches}

-- pairs of a caller and what it calls, which doesn't lead back to the caller
pub record AreFollowedPairs (calls : ℕ → ℕ → Bool) (pairs : List (ℕ × ℕ)) : Type 0 where
  pub called : (n m : ℕ) → Contains pairs (n, m) → calls n m ≡ true
  pub apart : (n m : ℕ) → Contains pairs (n, m) → Reaches calls m n → ⊥

-- one that is called by this one waits
pub record CallsWaiting (pairs : List (ℕ × ℕ)) (waits : ℕ → Type 0) (n : ℕ) : Type 0 where
  pub callee : ℕ
  pub called : Contains pairs (n, callee)
  pub waiting : waits callee

-- whether pairs have this one
abbrev has_pair : List (ℕ × ℕ) → ℕ → ℕ → Bool
has_pair [] n m = false
has_pair ((a, b) ∷ ps) n m = ((a == n) && (b == m)) || has_pair ps n m

-- a number above all that is called
abbrev above : List (ℕ × ℕ) → ℕ
above [] = 0
above ((a, b) ∷ ps) = suc b + above ps

-- either of two tests
or_cases : (a b : Bool) → (a || b) ≡ true → (a ≡ true) ⊎ (b ≡ true)
or_cases true b e = inl refl
or_cases false b e = inr e

or_first : (a b : Bool) → a ≡ true → (a || b) ≡ true
or_first true b e = refl
or_first false b e = cc

or_second : (a b : Bool) → b ≡ true → (a || b) ≡ true
or_second true b e = refl
or_second false b e = e

-- what the test finds is there
pair_there : (ps : List (ℕ × ℕ)) (n m : ℕ) → has_pair ps n m ≡ true → Contains ps (n, m)
pair_there [] n m e = absurd (false≢true e)
pair_there ((a, b) ∷ ps) n m e = elim (or_cases ((a == n) && (b == m)) (has_pair ps n m) e) [
  | inl h ↦
      let both = and_both (a == n) (b == m) h in
      let first : a ≡ n = eqb-true a n both.0 in
      let second : b ≡ m = eqb-true b m both.1 in
      subst (λ (k : ℕ). Contains ((a, b) ∷ ps) (n, k)) second (subst (λ (k : ℕ). Contains ((a, b) ∷ ps) (k, b)) first (contains_first (a, b) ps))
  | inr h ↦ contains_later (a, b) ps (n, m) (pair_there ps n m h)
]

-- a number is itself
same : (n : ℕ) → (n == n) ≡ true
same n = elim (eqb_tells n n) [
  | inl a ↦ a.0
  | inr a ↦ absurd (a.1 refl)
]

-- two equal pairs are told so
both_same : (n m : ℕ) → ((n == n) && (m == m)) ≡ true
both_same n m = subst (λ (a : Bool). (a && (m == m)) ≡ true) (sym (same n)) (same m)

same_test : (p : ℕ × ℕ) (n m : ℕ) → p ≡ (n, m) → ((p.0 == n) && (p.1 == m)) ≡ true
same_test p n m e = subst (λ (q : ℕ × ℕ). ((q.0 == n) && (q.1 == m)) ≡ true) (sym e) (both_same n m)

-- what is there the test finds
pair_found : (ps : List (ℕ × ℕ)) (n m : ℕ) → Contains ps (n, m) → has_pair ps n m ≡ true
pair_found [] n m c = absurd (none_in_empty (n, m) c)
pair_found ((a, b) ∷ ps) n m c = elim (contains_cases (a, b) ps (n, m) c) [
  | inl e ↦ or_first ((a == n) && (b == m)) (has_pair ps n m) (same_test (a, b) n m e)
  | inr h ↦ or_second ((a == n) && (b == m)) (has_pair ps n m) (pair_found ps n m h)
]

-- what is called is below the number
pair_below : (ps : List (ℕ × ℕ)) → AreBelow (has_pair ps) (above ps)
pair_below [] n m e = absurd (false≢true e)
pair_below ((a, b) ∷ ps) n m e = elim (or_cases ((a == n) && (b == m)) (has_pair ps n m) e) [
  | inl h ↦
      let second : b ≡ m = eqb-true b m (and_both (a == n) (b == m) h).1 in
      let low : b < suc b + above ps = omega arith in
      subst (λ (k : ℕ). k < suc b + above ps) second low
  | inr h ↦
      let l : m < above ps = pair_below ps n m h in
      omega (arith, l)
]

module _ (calls : ℕ → ℕ → Bool) (pairs : List (ℕ × ℕ)) (followed : AreFollowedPairs calls pairs) (waits : ℕ → Type 0)
    (each : (n : ℕ) → waits n → CallsWaiting pairs waits n) where
  -- a walk of so many followed calls
  record HasWalk (n k : ℕ) : Type 0 where
    pub rest : List ℕ
    pub walk : IsWalk (has_pair pairs) n rest
    pub long : length rest ≡ k

  -- from one that waits there are walks of any length
  walks : (k n : ℕ) → waits n → HasWalk n k
  walks zero n w = record { rest = []; walk = tt; long = refl }
  walks (suc k) n w =
      let next = each n w in
      let more = walks k next.callee next.waiting in
      record { rest = next.callee ∷ more.rest; walk = (pair_found pairs n next.callee next.called, more.walk); long = ap suc more.long }

  are_followed : AreFollowed calls (has_pair pairs)
  are_followed = record {
    called = λ n m e. followed.called n m (pair_there pairs n m e);
    apart = λ n m e back. followed.apart n m (pair_there pairs n m e) back;
  }

  -- nothing waits where each that waits calls another that does
  pub nothing_waits : (n : ℕ) → waits n → ⊥
  nothing_waits n w =
      let ends : ChainsEnd (has_pair pairs) (above pairs) = followed_end calls (has_pair pairs) (above pairs) are_followed (pair_below pairs) in
      let far = walks (suc (above pairs)) n w in
      let short : length far.rest ≤ above pairs = ends.short n far.rest far.walk in
      let long : length far.rest ≡ suc (above pairs) = far.long in
      omega (arith, short, long)
