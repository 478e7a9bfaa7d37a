use Rattle.std.proofs.Common.{◌≡◌, ◌<◌, ◌≤◌, ℕ, ℤ, Some}
use Rattle.std.specs.List.{slice_get}
use Rattle.counter_bound.specs.declared.change.Change.TheVariants.{Add}
use Rattle.count_rows.proofs.asking.are_added.Given as goal

-- what the changes gone through add to are cells, but not cell 0
abbrev pub invariant-loop-change : goal.invariant-loop-change
invariant-loop-change l = (n cell : ℕ) (k : ℤ) → n < l.change-index → slice_get l.changes n ≡ Some (Add cell k) → (1 ≤ cell) × (cell < 48)
