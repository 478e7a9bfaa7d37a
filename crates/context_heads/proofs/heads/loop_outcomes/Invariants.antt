use Rattle.std.specs.Prelude.{All}
use Rattle.abs_state.specs.Key.{compare}
use Rattle.context_bounds.specs.Heads.{AreHeadOutcomes}
use Rattle.context_bounds.specs.States.{left_at}
use Rattle.context_heads.proofs.heads.loop_outcomes.Given as goal
use Rattle.context_heads.specs.Passes.{AllowsOne}
use Rattle.flow_system.specs.Facts.{fact_at}

-- the loops so far are told, and each allows a pass
abbrev pub invariant-loop-i : goal.invariant-loop-i
invariant-loop-i l =
    AreHeadOutcomes l.fn.graph l.fn.nodes l.fn.nest l.fn.changes (left_at l.fn.t l.fn.binding (fact_at compare l.fn.facts)) l.fn.binding l.i l.list.items
    × All AllowsOne l.list.items
