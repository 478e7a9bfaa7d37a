use Rattle.std.proofs.Common.{◌≡◌, ◌++◌, drop}
use Rattle.std.specs.List.{flat_map}
use Rattle.graph_view.proofs.lists.steps_of.Given as goal
use Rattle.graph_view.specs.Lists.{step_in}

-- what is listed so far, and what is still to be listed
abbrev pub invariant-loop-key : goal.invariant-loop-key
invariant-loop-key l = l.list.items ++ flat_map step_in (drop l.key-index l.keys) ≡ flat_map step_in l.keys
