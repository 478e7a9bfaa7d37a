use Rattle.std.proofs.Common.{◌≡◌, ◌++◌, drop}
use Rattle.std.specs.List.{flat_map}
use Rattle.abs_state.specs.Key.{compare}
use Rattle.flow_system.specs.Facts.{fact_at}
use Rattle.bound_task.proofs.returns.returning_of.Given as goal
use Rattle.bound_task.specs.Returning.{returning_at}

-- what is listed so far, and what is still to be listed
abbrev pub invariant-loop-key : goal.invariant-loop-key
invariant-loop-key l =
    l.list.items ++ flat_map (returning_at (fact_at compare l.facts)) (drop l.key-index l.keys) ≡ flat_map (returning_at (fact_at compare l.facts)) l.keys
