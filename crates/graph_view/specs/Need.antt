-- Which subprograms call which, and how many register windows a subprogram needs with all that it calls.
use Rattle.std.specs.Prelude.{◌≡◌, ◌==◌, ◌<◌, ◌≤◌, ◌+◌, ℕ, Bool, max, ◌^◌, List, [], ◌∷◌, map, length, slice_index_or, if◌then◌else◌, Contains}
use Rattle.std.specs.List.Sorted.{IsNonDecreasingBy, IsStrictlyIncreasing}
use Rattle.std.specs.declared.option.Option.{Option}
use Rattle.std.specs.declared.option.Option.TheVariants.{None, Some}
use Rattle.bt_base.specs.Graph.{has}
use Rattle.abs_state.specs.declared.key.Place.{Place}
use Rattle.call_laws.specs.Calls.{ReachesCycle}
use Rattle.call_laws.specs.Result.{HasResult}
use Rattle.graph_view.specs.Subs.{of_one, place_sub, calling_sub}
use Rattle.graph_view.specs.declared.lists.Calling.{Calling}

abbrev pub callee_of : Calling → ℕ
callee_of calling = calling.callee

-- whether a subprogram calls another
abbrev pub calls_of : List Calling → ℕ → ℕ → Bool
calls_of callings sub callee = has (map callee_of (of_one calling_sub sub callings)) callee

-- the greatest depth of some program points
abbrev pub deepest : List Place → ℕ
deepest [] = 0
deepest (place ∷ places) = max place.depth (deepest places)

-- the greatest sum of the depth of a call and what its callee needs
abbrev pub deepest_call : (ℕ → ℕ) → List Calling → ℕ
deepest_call needs [] = 0
deepest_call needs (calling ∷ callings) = max (calling.from.depth + needs calling.callee) (deepest_call needs callings)

-- what a subprogram needs, where it is known what its callees need
abbrev pub need_rule : List Place → List Calling → ℕ → (ℕ → ℕ) → ℕ
need_rule places callings sub needs = max (deepest (of_one place_sub sub places)) (deepest_call needs (of_one calling_sub sub callings))

-- A subprogram needs so many windows: the greatest depth of its program points, or of a call with what its callee needs.
-- One without program points needs none.
abbrev pub HasNeed : List Place → List Calling → ℕ → ℕ → Type 0
HasNeed places callings sub need = HasResult (calls_of callings) (need_rule places callings) sub need

-- a need, or none exactly where a call cycle is reached
abbrev pub IsNeed : List Place → List Calling → ℕ → Option ℕ → Type 0
IsNeed places callings sub (Some need) = HasNeed places callings sub need
IsNeed places callings sub None = ReachesCycle (calls_of callings) sub

-- what a table has for a subprogram: nothing where it isn't known yet, and no need for one that isn't listed
abbrev pub entry_of : List ℕ → List (Option ℕ) → ℕ → Option ℕ
entry_of [] table sub = Some 0
entry_of (listed ∷ subs) [] sub = Some 0
entry_of (listed ∷ subs) (entry ∷ table) sub = if sub == listed then entry else entry_of subs table sub

-- the greater of a number and what may be known
abbrev pub with_most : ℕ → Option ℕ → Option ℕ
with_most most None = None
with_most most (Some n) = Some (max most n)

-- what a call needs with its callee and some others, where all are known
abbrev pub with_call : ℕ → Option ℕ → Option ℕ → Option ℕ
with_call depth None rest = None
with_call depth (Some need) rest = with_most (depth + need) rest

-- the greatest that some calls need, where all callees' needs are known
abbrev pub call_need : (ℕ → Option ℕ) → List Calling → Option ℕ
call_need known [] = Some 0
call_need known (calling ∷ callings) = with_call calling.from.depth (known calling.callee) (call_need known callings)

-- what a subprogram needs, where all callees' needs are known
abbrev pub known_need : List Place → List Calling → (ℕ → Option ℕ) → ℕ → Option ℕ
known_need places callings known sub = with_most (deepest (of_one place_sub sub places)) (call_need known (of_one calling_sub sub callings))

-- how many entries are known
abbrev pub filled : List (Option ℕ) → ℕ
filled [] = 0
filled (None ∷ table) = filled table
filled (Some n ∷ table) = 1 + filled table

-- Program points and calls by rising subprograms, none more than one window down, and a rising list of subprograms that
-- has each that they are of.
pub record AreCounted (places : List Place) (callings : List Calling) (subs : List ℕ) : Type 0 where
  pub points : IsNonDecreasingBy place_sub places
  pub calls : IsNonDecreasingBy calling_sub callings
  pub rising : IsStrictlyIncreasing subs
  pub counted : length subs < 2 ^ 32
  pub shallow : (place : Place) → Contains places place → place.depth ≤ 1
  pub shallow_calls : (calling : Calling) → Contains callings calling → calling.from.depth ≤ 1
  pub listed : (place : Place) → Contains places place → Contains subs place.sub
  pub listed_calls : (calling : Calling) → Contains callings calling → Contains subs calling.from.sub

-- what the table knows is right, and no greater than the number of known entries
pub record IsRight (places : List Place) (callings : List Calling) (subs : List ℕ) (table : List (Option ℕ)) : Type 0 where
  pub count : length table ≡ length subs
  pub right : (k need : ℕ) → k < length subs → slice_index_or table k None ≡ Some need → HasNeed places callings (slice_index_or subs k 0) need
  pub small : (k need : ℕ) → k < length subs → slice_index_or table k None ≡ Some need → need ≤ filled table

-- an entry that isn't known can't be found from those that are
abbrev pub IsStuck : List Place → List Calling → List ℕ → List (Option ℕ) → ℕ → Type 0
IsStuck places callings subs table k =
    slice_index_or table k None ≡ None → known_need places callings (entry_of subs table) (slice_index_or subs k 0) ≡ None

-- the table has what each of the subprograms needs
pub record AreNeeds (places : List Place) (callings : List Calling) (subs : List ℕ) (table : List (Option ℕ)) : Type 0 where
  pub count : length table ≡ length subs
  pub each : (k : ℕ) → k < length subs → IsNeed places callings (slice_index_or subs k 0) (slice_index_or table k None)

-- each caller is listed, and the list rises
pub record AreCallers (callings : List Calling) (subs : List ℕ) : Type 0 where
  pub rising : IsStrictlyIncreasing subs
  pub listed : (calling : Calling) → Contains callings calling → Contains subs calling.from.sub
