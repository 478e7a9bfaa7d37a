use Rattle.std.proofs.Common.{◌≡◌, ◌++◌, drop}
use Rattle.std.specs.List.{flat_map}
use Rattle.graph_text.proofs.lines.put_steps.Given as goal
use Rattle.graph_text.specs.Line.{step_line}

-- what is appended so far, and what is still to be appended
abbrev pub invariant-loop-step : goal.invariant-loop-step
invariant-loop-step l =
    l.text.items ++ flat_map step_line (drop l.step-index l.steps) ≡ l.initial.text.items ++ flat_map step_line l.steps
