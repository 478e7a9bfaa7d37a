-- Sums of walks from a head that don't come back to it, and labels that are the least of them.
use Rattle.std.specs.Prelude.{◌≡◌, ◌==◌, ℕ, ◌+◌, ◌^◌, ◌<◌, ◌≤◌, Bool, true, false, List, [], ◌∷◌, ◌++◌, Option, Some, None, slice_index_or}
use Rattle.graph_laws.specs.Walk.{IsWalk, passes, end_of, total}
use Rattle.graph_laws.specs.Counter.{Changes, IsTurn, turn_up, turn_down}
use Rattle.turn_sums.specs.Label.{label}

-- what the nodes of a graph add and take, one number for each
abbrev pub steps_of : List ℕ → List ℕ → Changes
steps_of ups downs = record { up = λ n. slice_index_or ups n 0; down = λ n. slice_index_or downs n 0 }

-- what sums are counted from
abbrev pub base : ℕ
base = 2 ^ 70

-- the sum of a number for each node of a walk but its last
abbrev pub sum_before : (ℕ → ℕ) → ℕ → List ℕ → ℕ
sum_before number n [] = 0
sum_before number n (m ∷ rest) = number n + sum_before number m rest

-- a walk from the head to a node that doesn't come back to the head, whose nodes but the last sum to a number
pub record HasPath (edge : ℕ → ℕ → Bool) (head : ℕ) (changes : Changes) (n sum : ℕ) : Type 0 where
  pub rest : List ℕ
  pub walk : IsWalk edge head rest
  pub ends : end_of head rest ≡ n
  pub once : passes head rest ≡ 0
  pub is : sum + sum_before changes.down head rest ≡ base + sum_before changes.up head rest

-- each label is the sum of such a walk, and the head's that of the walk without a step
pub record AreFound (edge : ℕ → ℕ → Bool) (head : ℕ) (changes : Changes) (labels : List (Option ℕ)) : Type 0 where
  pub head_label : label labels head ≡ Some base
  pub paths : (n sum : ℕ) → label labels n ≡ Some sum → HasPath edge head changes n sum

-- walks that come back to a node but not to the head add as much as they take
abbrev pub AreBalanced : (ℕ → ℕ → Bool) → ℕ → Changes → Type 0
AreBalanced edge head changes =
    (n : ℕ) (between : List ℕ) → IsWalk edge n (between ++ n ∷ []) → passes head (n ∷ between) ≡ 0
    → total changes.up (n ∷ between) ≡ total changes.down (n ∷ between)

-- a label that is there, and with one number at most another
pub record IsLow (label : Option ℕ) (more most : ℕ) : Type 0 where
  pub value : ℕ
  pub is : label ≡ Some value
  pub low : value + more ≤ most

-- no label has risen
abbrev pub AreLower : List (Option ℕ) → List (Option ℕ) → Type 0
AreLower old new = (n sum : ℕ) → label old n ≡ Some sum → IsLow (label new n) 0 sum

-- what a node's label asks of the labels of its successors but the head
abbrev pub IsAnswered : (ℕ → ℕ → Bool) → ℕ → Changes → List (Option ℕ) → List (Option ℕ) → ℕ → Type 0
IsAnswered edge head changes old new n =
    (m sum : ℕ) → label old n ≡ Some sum → edge n m ≡ true → (m == head) ≡ false → IsLow (label new m) (changes.down n) (sum + changes.up n)

-- all that is asked is met
abbrev pub AreSettled : (ℕ → ℕ → Bool) → ℕ → Changes → List (Option ℕ) → Type 0
AreSettled edge head changes labels = (n : ℕ) → IsAnswered edge head changes labels labels n

-- a turn with a sum
pub record HasTurnSum (edge : ℕ → ℕ → Bool) (body : ℕ → Bool) (head : ℕ) (changes : Changes) (sum : ℕ) : Type 0 where
  pub between : List ℕ
  pub turn : IsTurn edge body head between
  pub is : sum + turn_down changes head between ≡ base + turn_up changes head between

-- the least sum of a turn, if there is a turn
abbrev pub IsLeastTurn : (ℕ → ℕ → Bool) → (ℕ → Bool) → ℕ → Changes → Option ℕ → Type 0
IsLeastTurn edge body head changes None = (between : List ℕ) → IsTurn edge body head between → ⊥
IsLeastTurn edge body head changes (Some sum) =
    HasTurnSum edge body head changes sum
    × ((between : List ℕ) → IsTurn edge body head between → sum + turn_down changes head between ≤ base + turn_up changes head between)

-- the body of a loop whose graph has no other nodes
abbrev pub all_nodes : ℕ → Bool
all_nodes n = true

-- the least sum of the turns that end by an edge from a node below a number, by the labels
abbrev pub IsLeastSoFar : (ℕ → ℕ → Bool) → ℕ → Changes → List (Option ℕ) → ℕ → Option ℕ → Type 0
IsLeastSoFar edge head changes labels count None = (n sum : ℕ) → n < count → edge n head ≡ true → label labels n ≡ Some sum → ⊥
IsLeastSoFar edge head changes labels count (Some best) =
    HasTurnSum edge all_nodes head changes best
    × ((n sum : ℕ) → n < count → edge n head ≡ true → label labels n ≡ Some sum → best + changes.down n ≤ sum + changes.up n)
