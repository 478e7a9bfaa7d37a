-- Nodes that are put into an order, those that wait, and for which.
use Rattle.std.specs.Prelude.{◌≡◌, ℕ, ◌<◌, ◌≤◌, ◌⊎◌, Bool, true, false, List, [], length, take, slice_get, slice_index, slice_index_or, Option, Some, None, Vec}
use Rattle.std.specs.declared.alloc.Global.{Global}
use Rattle.bt_base.specs.Graph.{has}
use Rattle.graph_laws.specs.Loops.{Loops, is_back}
use Rattle.graph_laws.specs.Forward.{HasForwardNext}
use Rattle.path_bound.specs.declared.ranking.Ranking.{Ranking}

-- whether a node is placed, or isn't to be placed
abbrev pub is_placed : List Bool → ℕ → Bool
is_placed placed n = slice_index_or placed n true

abbrev pub waiters : Option (Vec ℕ Global) → List ℕ
waiters None = []
waiters (Some row) = row.items

-- the nodes that wait for a node
abbrev pub waits_for : List (Vec ℕ Global) → ℕ → List ℕ
waits_for waiting n = waiters (slice_get waiting n)

-- no node is to be placed, and none waits
pub record IsReady (count : ℕ) (ranking : Ranking) : Type 0 where
  pub places : length ranking.placed.items ≡ count
  pub rows : length ranking.waiting.items ≡ count
  pub all : (n : ℕ) → is_placed ranking.placed.items n ≡ true
  pub quiet : (n : ℕ) → waits_for ranking.waiting.items n ≡ []

-- a node waits for one of its successors, for which no node has been woken
pub record IsWaiting (edge : ℕ → ℕ → Bool) (loops : Loops) (inside : ℕ → Bool) (done : List ℕ) (waiting : List (Vec ℕ Global)) (n : ℕ) : Type 0 where
  pub at : ℕ
  pub leads : edge n at ≡ true
  pub forward : is_back loops n at ≡ false
  pub within : inside at ≡ true
  pub listed : has (waits_for waiting at) n ≡ true
  pub asleep : has done at ≡ false

-- Each of some nodes is placed, is to be advanced, or waits. Those that wait for the nodes that are done were woken.
pub record IsRanking (edge : ℕ → ℕ → Bool) (loops : Loops) (count : ℕ) (inside : ℕ → Bool) (done : List ℕ) (pending : ℕ → Bool)
    (order : List ℕ) (placed : List Bool) (waiting : List (Vec ℕ Global)) : Type 0 where
  pub below : (n : ℕ) → inside n ≡ true → n < count
  pub placed_so : (n : ℕ) → inside n ≡ true → is_placed placed n ≡ has order n
  pub others : (n : ℕ) → inside n ≡ false → is_placed placed n ≡ true
  pub within : (n : ℕ) → has order n ≡ true → inside n ≡ true
  pub once : (k : ℕ) → k < length order → has (take k order) (slice_index order k) ≡ false
  pub before : (k m : ℕ) → k < length order → inside m ≡ true → edge (slice_index order k) m ≡ true
      → is_back loops (slice_index order k) m ≡ false → has (take k order) m ≡ true
  pub open_so : (n : ℕ) → inside n ≡ true → (has order n ≡ true) ⊎ ((pending n ≡ true) ⊎ IsWaiting edge loops inside done waiting n)
  pub quiet : (m : ℕ) → (inside m ≡ false) ⊎ (has done m ≡ true) → waits_for waiting m ≡ []
  pub listed : (m n : ℕ) → has (waits_for waiting m) n ≡ true → inside n ≡ true
  pub woken : (n : ℕ) → has done n ≡ true → has order n ≡ true

-- a finite set in which each node has a successor that isn't back is empty
abbrev pub HaveEnds : (ℕ → ℕ → Bool) → Loops → Type 0
HaveEnds edge loops = (nodes : List ℕ) → ((n : ℕ) → has nodes n ≡ true → HasForwardNext edge loops nodes n) → (n : ℕ) → has nodes n ≡ false

-- a list has the beginning of another
pub record HasGrown (old new : List ℕ) : Type 0 where
  pub longer : length old ≤ length new
  pub kept : (k : ℕ) → k ≤ length old → take k new ≡ take k old

-- of a node's successors one isn't placed, and the edge to it doesn't lead back
pub record IsUnplaced (edge : ℕ → ℕ → Bool) (loops : Loops) (placed : List Bool) (n m : ℕ) : Type 0 where
  pub leads : edge n m ≡ true
  pub missing : is_placed placed m ≡ false
  pub forward : is_back loops n m ≡ false

-- there is none
abbrev pub AllArePlaced : (ℕ → ℕ → Bool) → Loops → List Bool → ℕ → Type 0
AllArePlaced edge loops placed n = (m : ℕ) → IsUnplaced edge loops placed n m → ⊥
