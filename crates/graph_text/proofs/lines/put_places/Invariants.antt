use Rattle.std.proofs.Common.{◌≡◌, ◌++◌, drop}
use Rattle.std.specs.List.{flat_map}
use Rattle.graph_text.proofs.lines.put_places.Given as goal
use Rattle.graph_text.specs.Line.{place_line}

-- what is appended so far, and what is still to be appended
abbrev pub invariant-loop-place : goal.invariant-loop-place
invariant-loop-place l =
    l.text.items ++ flat_map place_line (drop l.place-index l.places) ≡ l.initial.text.items ++ flat_map place_line l.places
