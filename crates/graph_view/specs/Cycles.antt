-- The calls inside call cycles.
use Rattle.std.specs.Prelude.{◌≡◌, ◌≢◌, ◌<◌, ◌⊎◌, ◌↔◌, ℕ, List, [], length, slice_index_or, Contains}
use Rattle.std.specs.List.Sorted.{IsStrictlyIncreasing}
use Rattle.std.specs.declared.option.Option.{Option}
use Rattle.std.specs.declared.option.Option.TheVariants.{None, Some}
use Rattle.bt_base.specs.Graph.{rows_of}
use Rattle.cyclic_parts.specs.Parts.{name_of}
use Rattle.graph_laws.specs.Nest.{SamePart}
use Rattle.graph_view.specs.CallGraph.{IsAt}
use Rattle.graph_view.specs.Need.{calls_of}
use Rattle.graph_view.specs.Sites.{call_address}
use Rattle.graph_view.specs.declared.cycles.Cycles.{Cycles}
use Rattle.graph_view.specs.declared.lists.Calling.{Calling}

-- A call inside the call cycle of a subprogram: this leads by calls to the caller and to the callee, and both lead back.
pub record IsCycleCall (callings : List Calling) (sub address : ℕ) : Type 0 where
  pub calling : Calling
  pub among : Contains callings calling
  pub caller : SamePart (calls_of callings) sub calling.from.sub
  pub callee : SamePart (calls_of callings) sub calling.callee
  pub is : address ≡ call_address calling

-- the addresses of all calls inside the call cycle of a subprogram, rising; none where it is in no cycle
pub record AreCycleCalls (callings : List Calling) (sub : ℕ) (addresses : List ℕ) : Type 0 where
  pub rising : IsStrictlyIncreasing addresses
  pub has : (address : ℕ) → Contains addresses address → IsCycleCall callings sub address
  pub all : (address : ℕ) → IsCycleCall callings sub address → Contains addresses address

-- the call cycle of a listed subprogram has this name
pub record IsInCycle (subs : List ℕ) (names : List (Option ℕ)) (sub name : ℕ) : Type 0 where
  pub number : ℕ
  pub at : IsAt subs sub number
  pub named : name_of names number ≡ Some name

-- two listed subprograms are in the call cycle of this name
pub record AreInside (subs : List ℕ) (names : List (Option ℕ)) (one other name : ℕ) : Type 0 where
  pub caller : IsInCycle subs names one name
  pub callee : IsInCycle subs names other name

-- they are in one call cycle
pub record AreInOne (subs : List ℕ) (names : List (Option ℕ)) (one other : ℕ) : Type 0 where
  pub name : ℕ
  pub inside : AreInside subs names one other name

-- a call is inside the call cycle of this name
abbrev pub IsInside : List ℕ → List (Option ℕ) → Calling → ℕ → Type 0
IsInside subs names calling name = AreInside subs names calling.from.sub calling.callee name

-- the row of a number
abbrev pub row_of : List (List ℕ) → ℕ → List ℕ
row_of rows n = slice_index_or rows n []

-- the call's address is put into the row of its cycle, and nothing else
pub record PutsCall (subs : List ℕ) (names : List (Option ℕ)) (calling : Calling) (old new : List (List ℕ)) : Type 0 where
  pub has : (name address : ℕ) → Contains (row_of new name) address
      → Contains (row_of old name) address ⊎ (IsInside subs names calling name × (address ≡ call_address calling))
  pub keeps : (name address : ℕ) → Contains (row_of old name) address → Contains (row_of new name) address
  pub adds : (name : ℕ) → IsInside subs names calling name → Contains (row_of new name) (call_address calling)

-- a call inside the call cycle of this name has this address
pub record IsNamedCall (subs : List ℕ) (names : List (Option ℕ)) (callings : List Calling) (name address : ℕ) : Type 0 where
  pub calling : Calling
  pub among : Contains callings calling
  pub inside : IsInside subs names calling name
  pub is : address ≡ call_address calling

-- the rows have the addresses of exactly the calls inside each cycle
pub record AreGathered (subs : List ℕ) (names : List (Option ℕ)) (callings : List Calling) (rows : List (List ℕ)) : Type 0 where
  pub has : (name address : ℕ) → Contains (row_of rows name) address → IsNamedCall subs names callings name address
  pub all : (name address : ℕ) → IsNamedCall subs names callings name address → Contains (row_of rows name) address

-- one row rises and has what it had, and the others are as they were
pub record IsRisenAt (old : List (List ℕ)) (row : ℕ) (new : List (List ℕ)) : Type 0 where
  pub rising : IsStrictlyIncreasing (row_of new row)
  pub keeps : (address : ℕ) → Contains (row_of old row) address → Contains (row_of new row) address
  pub adds_none : (address : ℕ) → Contains (row_of new row) address → Contains (row_of old row) address
  pub others : (n : ℕ) → n ≢ row → row_of new n ≡ row_of old n

-- the first rows rise, and each has what it had
pub record AreRisen (old : List (List ℕ)) (count : ℕ) (new : List (List ℕ)) : Type 0 where
  pub rising : (n : ℕ) → n < count → IsStrictlyIncreasing (row_of new n)
  pub keeps : (n address : ℕ) → Contains (row_of old n) address → Contains (row_of new n) address
  pub adds_none : (n address : ℕ) → Contains (row_of new n) address → Contains (row_of old n) address

-- the addresses of the calls inside the call cycle of the subprogram with this number
abbrev pub cycle_row : List (List ℕ) → Option ℕ → List ℕ
cycle_row rows None = []
cycle_row rows (Some name) = row_of rows name

-- they are, for each subprogram, and exactly those that lead to each other are in one cycle
pub record AreCycles (subs : List ℕ) (callings : List Calling) (cycles : Cycles) : Type 0 where
  pub count : length cycles.names.items ≡ length subs
  pub within : (n name : ℕ) → name_of cycles.names.items n ≡ Some name → name < length cycles.calls.items
  pub each : (n : ℕ) → n < length subs
      → AreCycleCalls callings (slice_index_or subs n 0) (cycle_row (rows_of cycles.calls.items) (name_of cycles.names.items n))
  pub one : (caller callee : ℕ) → AreInOne subs cycles.names.items caller callee ↔ SamePart (calls_of callings) caller callee
