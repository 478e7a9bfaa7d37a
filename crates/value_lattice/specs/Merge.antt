-- The merge of two rising lists.
use Rattle.std.specs.Prelude.{◌≡◌, ℕ, ◌+◌, ◌<◌, ◌≤◌, ◌⊎◌, List, length, slice_index, Contains}
use Rattle.std.specs.List.Sorted.{IsStrictlyIncreasing}

-- a number is taken from a list where it is the next
pub record IsStep (numbers : List ℕ) (i number next : ℕ) : Type 0 where
  pub within : next ≤ length numbers
  pub forward : i ≤ next
  pub taken : (k : ℕ) → i ≤ k → k < next → slice_index numbers k ≡ number
  pub above : next ≡ i → i < length numbers → number < slice_index numbers i
  pub once : next ≤ i + 1

-- a rising list of the numbers of two
pub record IsMerge (xs ys merged : List ℕ) : Type 0 where
  pub rising : IsStrictlyIncreasing merged
  pub left : (w : ℕ) → Contains xs w → Contains merged w
  pub right : (w : ℕ) → Contains ys w → Contains merged w
  pub only : (w : ℕ) → Contains merged w → Contains xs w ⊎ Contains ys w
