-- The text of the keys of a graph.
use Rattle.std.specs.Prelude.{◌≡◌, ℕ, List, ◌++◌, codes}
use Rattle.std.specs.List.{flat_map}
use Rattle.abs_state.specs.declared.key.Key.{Key}
use Rattle.abs_state.specs.declared.key.Place.{Place}
use Rattle.graph_text.specs.Line.{place_line, step_line, call_line, open_line, sub_line}
use Rattle.graph_view.specs.Lists.{place_in, step_in, calling_in, open_in}
use Rattle.graph_view.specs.Subs.{AreSubs, of_one, place_sub, step_sub, calling_sub, open_sub}
use Rattle.graph_view.specs.declared.lists.Calling.{Calling}
use Rattle.graph_view.specs.declared.lists.KeyLists.{KeyLists}
use Rattle.graph_view.specs.declared.lists.OpenPoint.{OpenPoint}
use Rattle.graph_view.specs.declared.lists.Step.{Step}

-- the lines of what is of a subprogram: its program points, steps, calls and open points
abbrev pub part_text : List Place → List Step → List Calling → List OpenPoint → ℕ → List ℕ
part_text places steps calls points sub =
    flat_map place_line (of_one place_sub sub places)
    ++ (flat_map step_line (of_one step_sub sub steps)
    ++ (flat_map call_line (of_one calling_sub sub calls) ++ flat_map open_line (of_one open_sub sub points)))

-- the lines of a subprogram, by lists of all that there is
abbrev pub whole_text : List ℕ → List ℕ → KeyLists → ℕ → List ℕ
whole_text image returning lists sub =
    sub_line image returning sub ++ part_text lists.places.items lists.steps.items lists.callings.items lists.opens.items sub

-- and by the keys
abbrev pub sub_text : List ℕ → List ℕ → List Key → ℕ → List ℕ
sub_text image returning keys sub =
    sub_line image returning sub
    ++ part_text (flat_map place_in keys) (flat_map step_in keys) (flat_map calling_in keys) (flat_map open_in keys) sub

-- the text is that of the keys: its first line, the subprograms with program points by their entries, its last line
pub record IsGraphText (image : List ℕ) (keys : List Key) (returning text : List ℕ) : Type 0 where
  pub subs : List ℕ
  pub are : AreSubs (flat_map place_in keys) subs
  pub is : text ≡ codes "boundt graph 1\n" ++ (flat_map (sub_text image returning keys) subs ++ codes "end\n")
