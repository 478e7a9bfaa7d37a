-- Regions of words.
use Rattle.std.specs.Prelude.{ℕ, ◌⊎◌}
use Rattle.value_lattice.specs.Order.{place_of}
use Rattle.value_refine.specs.Interval.{IsIn}
use Rattle.value_refine.specs.declared.region.Region.{Region}

-- the word's place is in one of the two intervals
abbrev pub IsInRegion : Region → ℕ → Type 0
IsInRegion r w = IsIn r.first (place_of w) ⊎ IsIn r.second (place_of w)
