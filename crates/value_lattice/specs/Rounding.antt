-- Rounding to thresholds.
use Rattle.std.specs.Prelude.{ℕ, ◌≤◌, min, max, List, [], ◌∷◌, Contains, nat_le, if◌then◌else◌}

-- the greatest threshold at or below a place
pub record IsRoundedDown (t : List ℕ) (place rounded : ℕ) : Type 0 where
  pub threshold : Contains t rounded
  pub outward : rounded ≤ place
  pub nearest : (k : ℕ) → Contains t k → k ≤ place → k ≤ rounded

-- the least threshold at or above a place
pub record IsRoundedUp (t : List ℕ) (place rounded : ℕ) : Type 0 where
  pub threshold : Contains t rounded
  pub outward : place ≤ rounded
  pub nearest : (k : ℕ) → Contains t k → place ≤ k → rounded ≤ k

-- the greatest threshold at or below a place; 0 where there is none
abbrev pub round_down : List ℕ → ℕ → ℕ
round_down [] place = 0
round_down (k ∷ ks) place = if nat_le k place then max k (round_down ks place) else round_down ks place

-- the least threshold at or above a place; the last place where there is none
abbrev pub round_up : List ℕ → ℕ → ℕ
round_up [] place = 4294967295
round_up (k ∷ ks) place = if nat_le place k then min k (round_up ks place) else round_up ks place
