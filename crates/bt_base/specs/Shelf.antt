-- What a shelf tells and how its counts of faults move, over its two meanings: `told`, the bytes under a
-- name, and `faults`, a count for each name.
use Rattle.std.specs.Prelude.{◌≡◌, ℕ, ◌+◌, ◌-◌, ◌^◌, ◌≤◌, ◌⊎◌, ◌↔◌, List, length, take, drop, Option, IfSome, min}

-- the bytes under each name are told as before
abbrev pub TellsTheSame : (List ℕ → Option (List ℕ)) → (List ℕ → Option (List ℕ)) → Type 0
TellsTheSame old new = (name : List ℕ) → new name ≡ old name

-- no count has fallen
abbrev pub NoneFalls : (List ℕ → ℕ) → (List ℕ → ℕ) → Type 0
NoneFalls old new = (name : List ℕ) → old name ≤ new name

-- a count after one more fault: it stays at its greatest value
abbrev pub risen : ℕ → ℕ
risen count = min (count + 1) (2 ^ 64 - 1)

-- a count has risen, or stands at its greatest value
abbrev pub Rose : ℕ → ℕ → Type 0
Rose old new = risen old ≤ new

-- what holds of the bytes under a name, where they are told
abbrev pub Told : (List ℕ → Option (List ℕ)) → List ℕ → (List ℕ → Type 0) → Type 0
Told told name P = IfSome (told name) P

-- the n bytes from a place on stand at the front of a buffer, and n is 0 only where nothing is to be given
pub record Gives (bytes : List ℕ) (at : ℕ) (into : List ℕ) (n : ℕ) : Type 0 where
  pub front : take n into ≡ take n (drop at bytes)
  pub end : (n ≡ 0) ↔ ((length bytes ≤ at) ⊎ (length into ≡ 0))
