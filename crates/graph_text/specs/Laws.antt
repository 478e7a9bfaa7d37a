-- Facts about texts of graphs.
use Rattle.std.specs.Prelude.{◌≡◌, ℕ, List, Contains}
use Rattle.abs_state.specs.declared.key.GapKind.{GapKind}
use Rattle.abs_state.specs.declared.key.Key.{Key}
use Rattle.abs_state.specs.declared.key.Key.TheVariants.{Node, Edge, Call, Gap}
use Rattle.abs_state.specs.declared.key.Place.{Place}
use Rattle.graph_text.specs.Line.{place_line, step_line, call_line, open_line, sub_line}
use Rattle.graph_text.specs.Text.{IsGraphText}
use Rattle.wcet_report.specs.Laws.{HasWithin}

-- keys have at most one text
abbrev pub GraphTextIsOne : Type 0
GraphTextIsOne = (image : List ℕ) (keys : List Key) (returning one other : List ℕ)
    → IsGraphText image keys returning one → IsGraphText image keys returning other → one ≡ other

-- the line of each program point stands in the text, and that of its subprogram
abbrev pub GraphTextHasPlaces : Type 0
GraphTextHasPlaces = (image : List ℕ) (keys : List Key) (returning text : List ℕ) (place : Place)
    → IsGraphText image keys returning text → Contains keys (Node place)
    → HasWithin (sub_line image returning place.sub) text × HasWithin (place_line place) text

-- the line of each step from a program point stands in it
abbrev pub GraphTextHasSteps : Type 0
GraphTextHasSteps = (image : List ℕ) (keys : List Key) (returning text : List ℕ) (from to : Place)
    → IsGraphText image keys returning text → Contains keys (Node from) → Contains keys (Edge from to)
    → HasWithin (step_line (record { from = from; to = to })) text

-- the line of each call at a program point stands in it
abbrev pub GraphTextHasCalls : Type 0
GraphTextHasCalls = (image : List ℕ) (keys : List Key) (returning text : List ℕ) (from : Place) (callee : ℕ)
    → IsGraphText image keys returning text → Contains keys (Node from) → Contains keys (Call from callee)
    → HasWithin (call_line (record { from = from; callee = callee })) text

-- the line of each open point of a subprogram with program points stands in it
abbrev pub GraphTextHasOpens : Type 0
GraphTextHasOpens = (image : List ℕ) (keys : List Key) (returning text : List ℕ) (place : Place) (pc : ℕ) (why : GapKind)
    → IsGraphText image keys returning text → Contains keys (Node place) → Contains keys (Gap place.sub pc why)
    → HasWithin (open_line (record { sub = place.sub; pc = pc; why = why })) text
