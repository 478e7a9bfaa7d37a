-- Changes of cells below 48, and not of cell 0.
use Rattle.std.specs.Prelude.{◌<◌, ◌≤◌}
use Rattle.counter_bound.specs.declared.change.Change.{Change}
use Rattle.counter_bound.specs.declared.change.Change.TheVariants.{Add, Other}

-- what is added to is a cell, but not cell 0
abbrev pub IsLow : Change → Type 0
IsLow (Add cell k) = (1 ≤ cell) × (cell < 48)
IsLow (Other mask) = Unit {0}
