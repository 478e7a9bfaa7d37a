-- What a sink tells, over its meaning `told`, the bytes written so far.
use Rattle.std.specs.Prelude.{◌≡◌, ℕ, List, ◌++◌, Option}
use Rattle.std.specs.Option.{option_map}

-- where the bytes are told, these were added at their end
abbrev pub Appended : Option (List ℕ) → Option (List ℕ) → List ℕ → Type 0
Appended old new bytes = new ≡ option_map (λ before. before ++ bytes) old
