-- Where edges lead on, or back to the first node, each walk that comes back passes the first.
use Rattle.std.proofs.Common.{◌≡◌, ◌≢◌, ◌==◌, ℕ, ◌+◌, ◌<◌, inl, inr, Bool, List, [], ◌∷◌, ◌++◌, subst, arith}
use Rattle.std.proofs.lemmas.Bool.Decides.{eqb_tells}
use Rattle.std.specs.Prelude.{if◌then◌else◌}
use Rattle.graph_laws.specs.Counter.{Changes}
use Rattle.graph_laws.specs.Walk.{IsWalk, passes}
use Rattle.turn_sums.specs.Search.{AreBalanced}
use Rattle.graph_rows.specs.Leading.{LeadOn}

not_first : (n x : ℕ) → (if n == 0 then 1 else 0) + x ≡ 0 → (n ≢ 0) × (x ≡ 0)
not_first n x e = elim (eqb_tells n 0) [
  | inl a ↦ (let q : 1 + x ≡ 0 = subst (λ (b : Bool). (if b then 1 else 0) + x ≡ 0) a.0 e in absurd (omega (arith, q)))
  | inr a ↦ (let q : 0 + x ≡ 0 = subst (λ (b : Bool). (if b then 1 else 0) + x ≡ 0) a.0 e in (a.1, omega (arith, q)))
]

rising : (edge : ℕ → ℕ → Bool) → LeadOn edge → (n : ℕ) (between : List ℕ) (m : ℕ) → IsWalk edge n (between ++ m ∷ []) → passes 0 between ≡ 0 → m ≢ 0 → n < m
rising edge on n [] m w p nz = elim (on n m w.0) [
  | inl z ↦ absurd (nz z)
  | inr l ↦ l
]
rising edge on n (b ∷ between) m w p nz =
    let q = not_first b (passes 0 between) p in
    let r : b < m = rising edge on b between m w.1 q.1 nz in
    elim (on n b w.0) [
      | inl z ↦ absurd (q.0 z)
      | inr l ↦ omega (arith, l, r)
    ]

pub none_round : (edge : ℕ → ℕ → Bool) (changes : Changes) → LeadOn edge → AreBalanced edge 0 changes
none_round edge changes on n between w p =
    let q = not_first n (passes 0 between) p in
    let r : n < n = rising edge on n between n w q.1 q.0 in
    absurd (omega (arith, r))
