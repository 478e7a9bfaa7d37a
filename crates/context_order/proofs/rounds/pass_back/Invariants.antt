use Rattle.context_bounds.specs.Setting.{setting_of}
use Rattle.context_order.proofs.rounds.pass_back.Given as goal
use Rattle.context_order.specs.Filled.{AreFilled}

-- the answers are right
abbrev pub invariant-loop-place : goal.invariant-loop-place
invariant-loop-place l = AreFilled (setting_of l.system l.cycles l.whole) l.found l.table.items
