-- What a table has for a subprogram, where each entry stands at the place of its subprogram in a list.
use Rattle.std.specs.Prelude.{ℕ, ◌==◌, ◌+◌, List, [], ◌∷◌, Option, Some, None, if◌then◌else◌}
use Rattle.abs_state.specs.declared.key.Next.{Next}
use Rattle.abs_state.specs.declared.key.Next.TheVariants.{At, Into, Back}

-- a table of what is known of the bounds of subprograms: nothing yet, a bound, or that there is none
abbrev pub Known : Type 0
Known = List (Option (Option ℕ))

-- what it has for a subprogram: nothing where that isn't listed
abbrev pub known_in : List ℕ → Known → ℕ → Option (Option ℕ)
known_in [] table sub = None
known_in (listed ∷ subs) [] sub = None
known_in (listed ∷ subs) (entry ∷ table) sub = if sub == listed then entry else known_in subs table sub

-- the cycles of an entry, where it has some
abbrev pub worth : Option (Option ℕ) → ℕ
worth None = 0
worth (Some None) = 0
worth (Some (Some bound)) = bound

-- the cycles that a table has for what is called with a delay instruction
abbrev pub bound_at : List ℕ → Known → Next → ℕ
bound_at subs table (At n) = 0
bound_at subs table (Into t) = worth (known_in subs table t)
bound_at subs table Back = 0

-- how many entries are known
abbrev pub filled : Known → ℕ
filled [] = 0
filled (None ∷ table) = filled table
filled (Some entry ∷ table) = 1 + filled table

-- an entry once no more can be found: what isn't known has no bound
abbrev pub settled : Option (Option ℕ) → Option ℕ
settled None = None
settled (Some bound) = bound
