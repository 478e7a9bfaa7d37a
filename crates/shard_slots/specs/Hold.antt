-- What a seat holds: parts, by their numbers, and a weight.
use Rattle.std.specs.Prelude.{◌≡◌, ℕ, ◌+◌, ◌≤◌, List, [], ◌∷◌, cond, ◌==◌}
use Rattle.shard_slots.specs.declared.hold.Hold.{Hold}

-- one where two numbers are the same, else nothing
abbrev pub same : ℕ → ℕ → ℕ
same k n = cond (k == n) 1 0

-- how often a number stands in a list
abbrev pub times : ℕ → List ℕ → ℕ
times n [] = 0
times n (k ∷ ks) = same k n + times n ks

-- a number stands in a list, or it doesn't
abbrev pub Holds : List ℕ → ℕ → Type 0
Holds held n = 1 ≤ times n held

abbrev pub Lacks : List ℕ → ℕ → Type 0
Lacks held n = times n held ≡ 0

-- a list without the first place at which a number stands
abbrev pub without : ℕ → List ℕ → List ℕ
without n [] = []
without n (k ∷ ks) = cond (k == n) ks (k ∷ without n ks)

-- a seat with a weight that holds the parts of a list
abbrev pub hold : ℕ → List ℕ → Hold
hold weight held = record { weight = weight; held = held }
