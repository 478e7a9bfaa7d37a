-- What is of one subprogram, and which subprograms have program points.
use Rattle.std.specs.Prelude.{ℕ, ◌==◌, List, Contains, map}
use Rattle.std.specs.List.{filter}
use Rattle.std.specs.List.Sorted.{IsNonDecreasingBy, IsStrictlyIncreasing}
use Rattle.abs_state.specs.declared.key.Place.{Place}
use Rattle.graph_view.specs.declared.lists.Calling.{Calling}
use Rattle.graph_view.specs.declared.lists.KeyLists.{KeyLists}
use Rattle.graph_view.specs.declared.lists.OpenPoint.{OpenPoint}
use Rattle.graph_view.specs.declared.lists.Step.{Step}

-- the subprogram of each
abbrev pub place_sub : Place → ℕ
place_sub place = place.sub

abbrev pub step_sub : Step → ℕ
step_sub step = step.from.sub

abbrev pub calling_sub : Calling → ℕ
calling_sub calling = calling.from.sub

abbrev pub open_sub : OpenPoint → ℕ
open_sub point = point.sub

-- those of a list that are of a subprogram
abbrev pub of_one : {X : Type 0} → (X → ℕ) → ℕ → List X → List X
of_one owner sub list = filter (λ x. owner x == sub) list

-- these are the subprograms of program points, rising
pub record AreSubs (places : List Place) (subs : List ℕ) : Type 0 where
  pub rising : IsStrictlyIncreasing subs
  pub has : (sub : ℕ) → Contains subs sub → Contains (map place_sub places) sub
  pub all : (sub : ℕ) → Contains (map place_sub places) sub → Contains subs sub

-- each list of keys by their kind is by rising subprograms
pub record AreByOwner (lists : KeyLists) : Type 0 where
  pub places : IsNonDecreasingBy place_sub lists.places.items
  pub steps : IsNonDecreasingBy step_sub lists.steps.items
  pub callings : IsNonDecreasingBy calling_sub lists.callings.items
  pub opens : IsNonDecreasingBy open_sub lists.opens.items
