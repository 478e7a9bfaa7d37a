-- Keys by their kind.
use Rattle.std.specs.Prelude.{◌≡◌, List, [], ◌∷◌}
use Rattle.std.specs.List.{flat_map}
use Rattle.abs_state.specs.declared.key.Key.{Key}
use Rattle.abs_state.specs.declared.key.Key.TheVariants.{Node, Edge, Call, Summary, Gap}
use Rattle.abs_state.specs.declared.key.Place.{Place}
use Rattle.graph_view.specs.declared.lists.Calling.{Calling}
use Rattle.graph_view.specs.declared.lists.KeyLists.{KeyLists}
use Rattle.graph_view.specs.declared.lists.OpenPoint.{OpenPoint}
use Rattle.graph_view.specs.declared.lists.Step.{Step}

-- the program point of a key
abbrev pub place_in : Key → List Place
place_in (Node place) = place ∷ []
place_in (Edge from to) = []
place_in (Call from callee) = []
place_in (Summary sub) = []
place_in (Gap sub pc why) = []

-- the step of a key
abbrev pub step_in : Key → List Step
step_in (Node place) = []
step_in (Edge from to) = record { from = from; to = to } ∷ []
step_in (Call from callee) = []
step_in (Summary sub) = []
step_in (Gap sub pc why) = []

-- the call of a key
abbrev pub calling_in : Key → List Calling
calling_in (Node place) = []
calling_in (Edge from to) = []
calling_in (Call from callee) = record { from = from; callee = callee } ∷ []
calling_in (Summary sub) = []
calling_in (Gap sub pc why) = []

-- the open point of a key
abbrev pub open_in : Key → List OpenPoint
open_in (Node place) = []
open_in (Edge from to) = []
open_in (Call from callee) = []
open_in (Summary sub) = []
open_in (Gap sub pc why) = record { sub = sub; pc = pc; why = why } ∷ []

-- these are the keys by their kind, each in their order
pub record AreOfKeys (keys : List Key) (lists : KeyLists) : Type 0 where
  pub places : lists.places.items ≡ flat_map place_in keys
  pub steps : lists.steps.items ≡ flat_map step_in keys
  pub callings : lists.callings.items ≡ flat_map calling_in keys
  pub opens : lists.opens.items ≡ flat_map open_in keys
