use Rattle.std.proofs.Common.{◌≡◌, ◌++◌, drop}
use Rattle.std.specs.List.{flat_map}
use Rattle.graph_text.proofs.lines.put_opens.Given as goal
use Rattle.graph_text.specs.Line.{open_line}

-- what is appended so far, and what is still to be appended
abbrev pub invariant-loop-point : goal.invariant-loop-point
invariant-loop-point l =
    l.text.items ++ flat_map open_line (drop l.point-index l.points) ≡ l.initial.text.items ++ flat_map open_line l.points
