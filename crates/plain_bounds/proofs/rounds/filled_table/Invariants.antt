use Rattle.std.proofs.Common.{◌≤◌}
use Rattle.context_bounds.specs.Setting.{setting_of}
use Rattle.plain_bounds.proofs.rounds.filled_table.Given as goal
use Rattle.plain_bounds.specs.Filled.{AreKnown}
use Rattle.plain_parts.specs.Searched.{filled}

-- each round filled an entry
abbrev pub invariant-loop-round : goal.invariant-loop-round
invariant-loop-round l = record {
  known : AreKnown (setting_of l.system l.cycles l.whole) l.contexts.subs.items l.table.items;
  grows : l._round ≤ filled l.table.items;
}
