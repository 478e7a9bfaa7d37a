use Rattle.std.proofs.Common.{◌≤◌}
use Rattle.context_bounds.specs.Setting.{setting_of}
use Rattle.context_order.proofs.rounds.filled_table.Given as goal
use Rattle.context_order.specs.Filled.{AreFilled, filled}

-- each round filled an entry
abbrev pub invariant-loop-round : goal.invariant-loop-round
invariant-loop-round l = record {
  right : AreFilled (setting_of l.system l.cycles l.whole) l.found l.table.items;
  grows : l._round ≤ filled l.table.items;
}
