-- Which program points of a subprogram match asserted loops, by a view of the keys of facts.
use Rattle.std.specs.Prelude.{◌≡◌, ◌<◌, ◌↔◌, ◌⊎◌, ℕ, Bool, true, List, Contains, length, slice_get, Option, Some, None, if◌then◌else◌}
use Rattle.abs_state.specs.Key.{compare}
use Rattle.abs_state.specs.declared.key.Place.{Place}
use Rattle.bt_base.specs.Graph.{IsGraph, is_edge}
use Rattle.context_facts.specs.Context.{is_local}
use Rattle.flow_system.specs.Facts.{fact_at}
use Rattle.graph_laws.specs.Nest.{IsReached}
use Rattle.graph_laws.specs.Scope.{AreFirstEntries}
use Rattle.graph_view.specs.Numbers.{IsNumber, IsStepGraph}
use Rattle.graph_view.specs.View.{ByKind, nodes_of, steps_of}
use Rattle.loop_nest.specs.LoopNest.{IsLoopNest, is_head}
use Rattle.loop_nest.specs.declared.natural_loop.Loop.{Loop}
use Rattle.transfer_rules.specs.Fact.{Piece}
use Rattle.transfer_rules.specs.Give.{Facts, entry_of}

-- what facts have of one subprogram: its program points, steps and calls
abbrev pub own_of : List Piece → ℕ → Facts
own_of pieces sub k = if is_local sub k then fact_at compare pieces k else None

abbrev pub head_of : Loop → ℕ
head_of one = one.head

-- a node of a graph is the head of a loop
pub record IsHead (edge : ℕ → ℕ → Bool) (entry node : ℕ) : Type 0 where
  pub loops : List Loop
  pub nest : IsLoopNest edge entry loops
  pub head : is_head loops node ≡ true

-- some part of a graph is entered at two nodes
pub record HasTwo (edge : ℕ → ℕ → Bool) (entry : ℕ) : Type 0 where
  pub one : ℕ
  pub two : ℕ
  pub are : AreFirstEntries edge entry one two

-- a node matches an asserted loop: it is the head of one, or the graph has no nest
abbrev pub Matches : (ℕ → ℕ → Bool) → ℕ → ℕ → Type 0
Matches edge entry node = IsHead edge entry node ⊎ HasTwo edge entry

-- these are the nodes of a graph that do
pub record AreMatching (graph : List (List ℕ)) (entry : ℕ) (nodes : List ℕ) : Type 0 where
  pub within : (n : ℕ) → Contains nodes n → n < length graph
  pub each : (n : ℕ) → n < length graph → Contains nodes n ↔ Matches (is_edge graph) entry n

-- these are the numbers below one
abbrev pub AreBelow : ℕ → List ℕ → Type 0
AreBelow count nodes = (n : ℕ) → Contains nodes n ↔ (n < count)

-- the address of a program point, where there is one
abbrev pub pc_of : Option Place → ℕ
pc_of None = 0
pc_of (Some place) = place.pc

-- the address of the program point with this number
abbrev pub address_at : List Place → ℕ → ℕ
address_at places n = pc_of (slice_get places n)

-- The entry of a subprogram is a program point of it, and in its graph each is reached from there.
pub record IsRooted (view : ByKind) (sub : ℕ) : Type 0 where
  pub entered : Contains (nodes_of view sub) (entry_of sub)
  pub reached : (graph : List (List ℕ)) (entry n : ℕ) → IsGraph graph → IsStepGraph (nodes_of view sub) (steps_of view sub) graph
      → IsNumber (nodes_of view sub) (entry_of sub) entry → n < length graph → IsReached (is_edge graph) entry n

-- a program point of a subprogram at an address matches an asserted loop
pub record IsMatchedIn (view : ByKind) (sub pc : ℕ) : Type 0 where
  pub graph : List (List ℕ)
  pub is : IsGraph graph
  pub steps : IsStepGraph (nodes_of view sub) (steps_of view sub) graph
  pub entry : ℕ
  pub begins : IsNumber (nodes_of view sub) (entry_of sub) entry
  pub place : Place
  pub node : ℕ
  pub at : IsNumber (nodes_of view sub) place node
  pub address : place.pc ≡ pc
  pub matches : Matches (is_edge graph) entry node

-- the addresses of the program points of a subprogram that match are put beside others, and nothing else
pub record AddsMatched (view : ByKind) (sub : ℕ) (old new : List ℕ) : Type 0 where
  pub has : (pc : ℕ) → Contains new pc → Contains old pc ⊎ IsMatchedIn view sub pc
  pub keeps : (pc : ℕ) → Contains old pc → Contains new pc
  pub adds : (pc : ℕ) → IsMatchedIn view sub pc → Contains new pc

-- these are the addresses of those of some subprograms
pub record AreOf (view : ByKind) (subs addresses : List ℕ) : Type 0 where
  pub has : (pc : ℕ) → Contains addresses pc → (sub : ℕ) × IsMatchedIn view sub pc
  pub all : (sub pc : ℕ) → Contains subs sub → IsMatchedIn view sub pc → Contains addresses pc

-- and of all
pub record AreAddresses (view : ByKind) (addresses : List ℕ) : Type 0 where
  pub has : (pc : ℕ) → Contains addresses pc → (sub : ℕ) × IsMatchedIn view sub pc
  pub all : (sub pc : ℕ) → IsMatchedIn view sub pc → Contains addresses pc
