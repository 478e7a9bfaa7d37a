use Rattle.std.proofs.Common.{◌≡◌, ◌<◌, ◌≤◌, ℕ, true, false}
use Rattle.context_bounds.specs.Setting.{setting_of}
use Rattle.plain_bounds.proofs.rounds.pass_up.Given as goal
use Rattle.plain_bounds.specs.Filled.{AreKnown, IsStuck}
use Rattle.plain_parts.specs.Searched.{filled}

-- what is known stays so, and more is where something changed; else what was gone through waits, unless it is known
abbrev pub invariant-loop-number : goal.invariant-loop-number
invariant-loop-number l = record {
  known : AreKnown (setting_of l.system l.cycles l.whole) l.contexts.subs.items l.table.items;
  grows : filled l.initial.table.items ≤ filled l.table.items;
  more : l.changed ≡ true → filled l.initial.table.items < filled l.table.items;
  stuck : l.changed ≡ false → (n : ℕ) → n < l.number → IsStuck (setting_of l.system l.cycles l.whole) l.contexts.subs.items l.table.items n;
}
