-- What the rule of a table of parts means, and that each kind of step keeps it.
use Rattle.std.specs.Prelude.{◌≡◌, ℕ, ◌<◌, ◌≤◌, List, length, slice_index, Contains, Some}
use mathlib.Core.Option.{some, none}
use lib.ListN.{get_elem?}
use Rattle.shard_slots.specs.Hold.{Lacks}
use Rattle.shard_slots.specs.Step.{IsOpening, IsSplit, IsJoin, IsTake, IsMiss, IsPut, IsLoad, IsClosing}
use Rattle.shard_slots.specs.Table.{Table, IsKept}
use Rattle.shard_slots.specs.declared.hold.Hold.{Hold}

-- the opening meets the rule, and each kind of step keeps it
pub record StepsKeepTheRule (T : Type 0) : Type 0 where
  pub opening : (parts : List T) (t : Table T) → IsOpening parts t → IsKept t
  pub split : (id : ℕ) (t u : Table T) → IsKept t → IsSplit id t u → IsKept u
  pub join : (id other : ℕ) (t u : Table T) → IsKept t → IsJoin id other t u → IsKept u
  pub take : (id n : ℕ) (t u : Table T) → IsKept t → IsTake id n t u → IsKept u
  pub miss : (n : ℕ) (t u : Table T) → IsKept t → IsMiss n t u → IsKept u
  pub put : (id n : ℕ) (part : T) (t u : Table T) → IsKept t → IsPut id n part t u → IsKept u
  pub load : (t u : Table T) → IsKept t → IsLoad t u → IsKept u

-- the seat with a number holds a part
pub record IsHolder {T : Type 0} (t : Table T) (n id : ℕ) : Type 0 where
  pub seat : Hold
  pub here : get_elem? t.views id ≡ some seat
  pub held : Contains seat.held n

-- a part is in its slot
pub record IsIn {T : Type 0} (t : Table T) (n : ℕ) : Type 0 where
  pub part : T
  pub slot : get_elem? t.homes n ≡ some (some (Some part))

-- what the rule means for each part of a table
pub record PartsHaveOneHolder (T : Type 0) : Type 0 where
  -- a word is 0 or 1
  pub words : (t : Table T) (n : ℕ) → IsKept t → n < length t.homes → slice_index t.words n ≤ 1
  -- where it is 1 the part is in its slot, and no seat holds it
  pub home : (t : Table T) (n : ℕ) → IsKept t → n < length t.homes → slice_index t.words n ≡ 1 → IsIn t n
  pub unheld : (t : Table T) (n id : ℕ) → IsKept t → n < length t.homes → slice_index t.words n ≡ 1 → ¬ IsHolder t n id
  -- where it is 0 the slot is empty, and some seat holds the part
  pub empty : (t : Table T) (n : ℕ) → IsKept t → n < length t.homes → slice_index t.words n ≡ 0 → get_elem? t.homes n ≡ some none
  pub held : (t : Table T) (n : ℕ) → IsKept t → n < length t.homes → slice_index t.words n ≡ 0 → (id : ℕ) × IsHolder t n id
  -- two seats never hold the same part
  pub one : (t : Table T) (n id other : ℕ) → IsKept t → n < length t.homes → IsHolder t n id → IsHolder t n other → id ≡ other
  -- a seat that holds a part weighs something
  pub heavy : (t : Table T) (n id : ℕ) → IsKept t → (holder : IsHolder t n id) → 1 ≤ holder.seat.weight
  -- a seat that has all the weight finds each part that it doesn't hold
  pub all : (t : Table T) (n id : ℕ) (seat : Hold) → IsKept t → get_elem? t.views id ≡ some seat → seat.weight ≡ 128 → n < length t.homes
      → Lacks seat.held n → slice_index t.words n ≡ 1
  -- at the closing each part is in its slot
  pub closing : (t : Table T) (n id : ℕ) → IsKept t → IsClosing id t → n < length t.homes → IsIn t n
