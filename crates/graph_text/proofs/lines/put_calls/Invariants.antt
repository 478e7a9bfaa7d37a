use Rattle.std.proofs.Common.{◌≡◌, ◌++◌, drop}
use Rattle.std.specs.List.{flat_map}
use Rattle.graph_text.proofs.lines.put_calls.Given as goal
use Rattle.graph_text.specs.Line.{call_line}

-- what is appended so far, and what is still to be appended
abbrev pub invariant-loop-call : goal.invariant-loop-call
invariant-loop-call l =
    l.text.items ++ flat_map call_line (drop l.call-index l.calls) ≡ l.initial.text.items ++ flat_map call_line l.calls
