-- Keys by subprogram: what a view shows of them, and which keys it can be made of.
use Rattle.std.specs.Prelude.{◌≡◌, ◌<◌, ◌≤◌, ◌^◌, ℕ, List, Contains, length, map}
use Rattle.std.specs.List.{flat_map}
use Rattle.std.specs.List.Sorted.{IsStrictlySortedBy}
use Rattle.abs_state.specs.Key.{compare}
use Rattle.abs_state.specs.declared.key.GapKind.{GapKind}
use Rattle.abs_state.specs.declared.key.Key.{Key}
use Rattle.abs_state.specs.declared.key.Key.TheVariants.{Node, Edge, Call}
use Rattle.abs_state.specs.declared.key.Place.{Place}
use Rattle.graph_view.specs.Lists.{place_in, step_in, calling_in, open_in}
use Rattle.graph_view.specs.Subs.{of_one, place_sub, step_sub, calling_sub, open_sub}
use Rattle.graph_view.specs.declared.lists.Calling.{Calling}
use Rattle.graph_view.specs.declared.lists.OpenPoint.{OpenPoint}
use Rattle.graph_view.specs.declared.lists.Step.{Step}

-- the program points, steps, calls and open points of some keys
pub record ByKind : Type 0 where
  pub places : List Place
  pub steps : List Step
  pub callings : List Calling
  pub opens : List OpenPoint

-- keys by their kind, each in their order
abbrev pub by_kind : List Key → ByKind
by_kind keys = record {
  places = flat_map place_in keys;
  steps = flat_map step_in keys;
  callings = flat_map calling_in keys;
  opens = flat_map open_in keys;
}

-- a step leads from a program point to another of the same subprogram
pub record StepStands (keys : List Key) (begin end : Place) : Type 0 where
  pub from : Contains keys (Node begin)
  pub to : Contains keys (Node end)
  pub one : begin.sub ≡ end.sub

-- Keys that a view can be made of: they rise, name no more than one window down and fewer than 2^32 program points, and
-- have the program points of all steps and calls.
pub record AreViewed (keys : List Key) : Type 0 where
  pub rising : IsStrictlySortedBy compare keys
  pub few : length (flat_map place_in keys) < 2 ^ 32
  pub shallow : (place : Place) → Contains keys (Node place) → place.depth ≤ 1
  pub steps : (from to : Place) → Contains keys (Edge from to) → StepStands keys from to
  pub calls : (from : Place) (callee : ℕ) → Contains keys (Call from callee) → Contains keys (Node from)

-- what is of one subprogram
abbrev pub nodes_of : ByKind → ℕ → List Place
nodes_of view sub = of_one place_sub sub view.places

abbrev pub steps_of : ByKind → ℕ → List Step
steps_of view sub = of_one step_sub sub view.steps

abbrev pub callings_of : ByKind → ℕ → List Calling
callings_of view sub = of_one calling_sub sub view.callings

abbrev pub opens_of : ByKind → ℕ → List OpenPoint
opens_of view sub = of_one open_sub sub view.opens

-- a subprogram has a program point
abbrev pub IsViewed : ByKind → ℕ → Type 0
IsViewed view sub = Contains (map place_sub view.places) sub

-- what isn't known behind an instruction, and its address
abbrev pub gap_of : OpenPoint → GapKind × ℕ
gap_of point = (point.why, point.pc)
