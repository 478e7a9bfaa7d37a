-- Graphs whose nodes stand in the order of their edges, but for edges back to the first.
use Rattle.std.specs.Prelude.{◌≡◌, ◌⊎◌, ℕ, ◌<◌, Bool, true}

-- each edge from a node leads to the first or to one behind it
abbrev pub LeadsOn : (ℕ → ℕ → Bool) → ℕ → Type 0
LeadsOn edge n = (m : ℕ) → edge n m ≡ true → (m ≡ 0) ⊎ (n < m)

-- each edge does
abbrev pub LeadOn : (ℕ → ℕ → Bool) → Type 0
LeadOn edge = (n : ℕ) → LeadsOn edge n
