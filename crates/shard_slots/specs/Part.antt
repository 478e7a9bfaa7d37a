-- What slots have at the closing.
use Rattle.std.specs.Prelude.{◌≡◌, ℕ, ◌<◌, List, length, Option, Some}
use mathlib.Core.Option.{some}
use lib.ListN.{get_elem?}

-- each slot has a part
abbrev pub HaveParts : {T : Type 0} → List (Option T) → Type 0
HaveParts {T} slots = (n : ℕ) → n < length slots → (part : T) × (get_elem? slots n ≡ some (Some part))
