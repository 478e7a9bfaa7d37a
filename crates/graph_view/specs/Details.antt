-- What a view keeps of each subprogram.
use Rattle.std.specs.Prelude.{◌≡◌, ◌<◌, ◌≤◌, ◌^◌, ℕ, List, Contains, length, map, slice_index_or}
use Rattle.std.specs.List.Sorted.{IsNonDecreasingBy, IsStrictlySortedBy}
use Rattle.std.specs.declared.option.Option.{Option}
use Rattle.abs_state.specs.declared.key.Place.{Place}
use Rattle.graph_view.specs.CallGraph.{IsAt}
use Rattle.graph_view.specs.Cycles.{AreCycles}
use Rattle.graph_view.specs.Need.{AreCounted, AreNeeds}
use Rattle.graph_view.specs.Numbers.{IsStepGraph, place_cmp}
use Rattle.graph_view.specs.Sites.{AreSites}
use Rattle.graph_view.specs.Subs.{AreSubs, place_sub, step_sub, calling_sub, open_sub}
use Rattle.graph_view.specs.View.{ByKind, callings_of, gap_of, nodes_of, opens_of, steps_of}
use Rattle.graph_view.specs.declared.cycles.Cycles.{Cycles}
use Rattle.graph_view.specs.declared.details.Details.{Details}
use Rattle.graph_view.specs.declared.lists.Calling.{Calling}
use Rattle.graph_view.specs.declared.lists.KeyLists.{KeyLists}

-- what lists of keys show
abbrev pub shown : KeyLists → ByKind
shown lists = record {
  places = lists.places.items;
  steps = lists.steps.items;
  callings = lists.callings.items;
  opens = lists.opens.items;
}

-- the lists are by rising subprograms, and the program points rise, are few, shallow and those of all calls
pub record AreReady (view : ByKind) : Type 0 where
  pub places : IsNonDecreasingBy place_sub view.places
  pub steps : IsNonDecreasingBy step_sub view.steps
  pub callings : IsNonDecreasingBy calling_sub view.callings
  pub opens : IsNonDecreasingBy open_sub view.opens
  pub rise : IsStrictlySortedBy place_cmp view.places
  pub few : length view.places < 2 ^ 32
  pub shallow : (place : Place) → Contains view.places place → place.depth ≤ 1
  pub among : (calling : Calling) → Contains view.callings calling → Contains view.places calling.from

-- what is kept of a subprogram
pub record AreDetails (view : ByKind) (sub : ℕ) (details : Details) : Type 0 where
  pub graph : IsStepGraph (nodes_of view sub) (steps_of view sub) details.graph
  pub calls : AreSites (nodes_of view sub) (callings_of view sub) details.calls.items
  pub gaps : details.gaps.items ≡ map gap_of (opens_of view sub)

-- these are the details of a listed subprogram
pub record IsFound (subs : List ℕ) (all : List Details) (sub : ℕ) (details : Details) : Type 0 where
  pub number : ℕ
  pub at : IsAt subs sub number
  pub is : (d : Details) → slice_index_or all number d ≡ details

-- all that is kept
pub record IsWhole (view : ByKind) (listed : List ℕ) (all : List Details) (found : Cycles) (table : List (Option ℕ)) : Type 0 where
  pub ready : AreReady view
  pub subs : AreSubs view.places listed
  pub counted : AreCounted view.places view.callings listed
  pub count : length all ≡ length listed
  pub details : (k : ℕ) (d : Details) → k < length listed → AreDetails view (slice_index_or listed k 0) (slice_index_or all k d)
  pub cycles : AreCycles listed view.callings found
  pub needs : AreNeeds view.places view.callings listed table
