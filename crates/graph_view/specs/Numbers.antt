-- The program points of a subprogram by number, and its steps as a graph of these numbers.
use Rattle.std.specs.Prelude.{◌≡◌, ℕ, ◌<◌, ◌⊎◌, true, List, Contains, length, slice_index_or}
use Rattle.std.specs.declared.cmp.Ordering.{Ordering}
use Rattle.bt_base.specs.Graph.{is_edge}
use Rattle.abs_state.specs.contracts.key.PlaceOrd.TheImpl as place_ord
use Rattle.abs_state.specs.declared.key.Place.{Place}
use Rattle.graph_view.specs.declared.lists.Step.{Step}

-- program points by their subprogram, address, what comes next, and depth
abbrev pub place_cmp : Place → Place → Ordering
place_cmp = (place_ord.ghosts).cmp

-- the program point stands at this place of the list
pub record IsNumber (nodes : List Place) (place : Place) (n : ℕ) : Type 0 where
  pub within : n < length nodes
  pub is : (d : Place) → slice_index_or nodes n d ≡ place

-- the step leads from one number to another
pub record Leads (nodes : List Place) (step : Step) (n m : ℕ) : Type 0 where
  pub from : IsNumber nodes step.from n
  pub to : IsNumber nodes step.to m

-- one of the steps does
pub record HasStep (nodes : List Place) (steps : List Step) (n m : ℕ) : Type 0 where
  pub step : Step
  pub among : Contains steps step
  pub leads : Leads nodes step n m

-- the new graph has the edges of the old one and that of the step, and no other
pub record AddsStep (nodes : List Place) (step : Step) (old new : List (List ℕ)) : Type 0 where
  pub count : length new ≡ length old
  pub has : (n m : ℕ) → is_edge new n m ≡ true → (is_edge old n m ≡ true) ⊎ Leads nodes step n m
  pub keeps : (n m : ℕ) → is_edge old n m ≡ true → is_edge new n m ≡ true
  pub adds : (n m : ℕ) → Leads nodes step n m → is_edge new n m ≡ true

-- the edges of the graph are those of the steps
pub record IsStepGraph (nodes : List Place) (steps : List Step) (graph : List (List ℕ)) : Type 0 where
  pub count : length graph ≡ length nodes
  pub has : (n m : ℕ) → is_edge graph n m ≡ true → HasStep nodes steps n m
  pub all : (n m : ℕ) → HasStep nodes steps n m → is_edge graph n m ≡ true
