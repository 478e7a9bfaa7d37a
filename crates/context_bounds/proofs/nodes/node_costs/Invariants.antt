use Rattle.std.proofs.Common.{◌≡◌, ◌++◌, List, drop}
use Rattle.abs_state.specs.Key.{compare}
use Rattle.context_bounds.specs.Nodes.{costs_at}
use Rattle.context_bounds.specs.Setting.{setting_of}
use Rattle.flow_system.specs.Facts.{fact_at}
use Rattle.transfer_rules.specs.Fact.{Piece}
use Rattle.context_bounds.proofs.nodes.node_costs.Given as goal

abbrev pub invariant-loop-i : goal.invariant-loop-i
invariant-loop-i l =
    (pieces : List Piece)
    → l.list.items ++ costs_at (setting_of l.fn.system l.fn.cycles pieces) (fact_at compare l.fn.facts) (drop l.i l.nodes) (drop l.i l.fn.bounds)
    ≡ costs_at (setting_of l.fn.system l.fn.cycles pieces) (fact_at compare l.fn.facts) l.nodes l.fn.bounds
