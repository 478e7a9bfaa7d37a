-- Regions of words.
use Rattle.std.proofs.Common.{◌≡◌, ℕ, ◌<◌, ◌⊎◌, ◌↔◌, inl, inr, ⊎_elim, arith}
use Rattle.std.proofs.lemmas.Bool.{cases_lt}

-- what is below a number or above it is what differs from it
pub either_side : (P Q : Type 0) (k n : ℕ) → P ↔ (k < n) → Q ↔ (n < k) → (P ⊎ Q) ↔ (k ≡ n → ⊥)
either_side P Q k n below above = (λ some same. ⊎_elim (λ p. omega (arith, below.0 p)) (λ q. omega (arith, above.0 q)) some, back) where
  back : (k ≡ n → ⊥) → P ⊎ Q
  back apart =
      elim (cases_lt k n) [
        | inl less ↦ inl (below.1 less)
        | inr more ↦ elim (cases_lt n k) [ inl greater ↦ inr (above.1 greater) | inr other ↦ absurd (apart (omega arith)) ]
      ]

-- of two kinds those that are of a third one too
pub either_and : (P Q R S T : Type 0) → R ↔ (P × T) → S ↔ (Q × T) → (R ⊎ S) ↔ ((P ⊎ Q) × T)
either_and P Q R S T first second = (
  λ some. ⊎_elim (λ r. (inl (first.0 r).0, (first.0 r).1)) (λ s. (inr (second.0 s).0, (second.0 s).1)) some,
  λ both. ⊎_elim
      (λ p. inl (first.1 (p, both.1))) (λ q. inr (second.1 (q, both.1))) both.0,
)
