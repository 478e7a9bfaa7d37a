-- The lines of a graph.
use Rattle.std.specs.Prelude.{ℕ, Bool, List, [], ◌∷◌, ◌++◌, codes, if◌then◌else◌}
use Rattle.bt_base.specs.Graph.{has}
use Rattle.bt_base.specs.Text.{hex8_of}
use Rattle.abs_state.specs.declared.key.GapKind.{GapKind}
use Rattle.abs_state.specs.declared.key.GapKind.TheVariants.{Jump, Call, Instr}
use Rattle.abs_state.specs.declared.key.Place.{Place}
use Rattle.graph_view.specs.declared.lists.Calling.{Calling}
use Rattle.graph_view.specs.declared.lists.OpenPoint.{OpenPoint}
use Rattle.graph_view.specs.declared.lists.Step.{Step}
use Rattle.wcet_report.specs.Line.{line_of, function_words}
use Rattle.wcet_report.specs.Node.{node_text}

-- the line of a program point
abbrev pub place_line : Place → List ℕ
place_line place = line_of (codes "node") (node_text place ∷ [])

-- the line of a step: where it begins and where it leads
abbrev pub step_line : Step → List ℕ
step_line step = line_of (codes "edge") (node_text step.from ∷ node_text step.to ∷ [])

-- the line of a call: the program point of its delay instruction, and the callee
abbrev pub call_line : Calling → List ℕ
call_line call = line_of (codes "call") (node_text call.from ∷ hex8_of call.callee ∷ [])

-- what isn't known behind a point
abbrev pub kind_word : GapKind → List ℕ
kind_word Jump = codes "jump"
kind_word Call = codes "call"
kind_word Instr = codes "instr"

-- the line of a point behind which not all is known
abbrev pub open_line : OpenPoint → List ℕ
open_line point = line_of (codes "gap") (kind_word point.why ∷ hex8_of point.pc ∷ [])

-- whether a subprogram returns
abbrev pub end_word : Bool → List ℕ
end_word returns = if returns then codes "returns" else codes "stays"

-- the line of a subprogram
abbrev pub sub_line : List ℕ → List ℕ → ℕ → List ℕ
sub_line image returning sub = line_of (codes "sub") (function_words image sub ++ (end_word (has returning sub) ∷ []))
