use Rattle.std.proofs.Common.{◌≡◌, ◌<◌, ◌≤◌, ℕ, true, false}
use Rattle.context_bounds.specs.Setting.{setting_of}
use Rattle.context_order.proofs.rounds.pass_up.Given as goal
use Rattle.context_order.specs.Filled.{AreFilled, IsStuck, filled}

-- the answers are right, and more are there where something changed; else what was gone through waits, unless it is there
abbrev pub invariant-loop-number : goal.invariant-loop-number
invariant-loop-number l = record {
  right : AreFilled (setting_of l.system l.cycles l.whole) l.found l.table.items;
  grows : filled l.initial.table.items ≤ filled l.table.items;
  more : l.changed ≡ true → filled l.initial.table.items < filled l.table.items;
  stuck : l.changed ≡ false → (n : ℕ) → n < l.number → IsStuck (setting_of l.system l.cycles l.whole) l.found l.table.items n;
}
