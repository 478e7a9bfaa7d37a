use Rattle.std.proofs.Common.{◌≡◌, ◌<◌, ◌≤◌, ℕ, true, false}
use Rattle.graph_view.proofs.needs.pass_up.Given as goal
use Rattle.graph_view.specs.Need.{IsRight, IsStuck, filled}

-- the table stays right and grows where something changed; else what was gone through can't be found
abbrev pub invariant-loop-number : goal.invariant-loop-number
invariant-loop-number l = record {
  right : IsRight l.places l.callings l.subs l.table.items;
  grows : filled l.initial.table.items ≤ filled l.table.items;
  more : l.changed ≡ true → filled l.initial.table.items < filled l.table.items;
  stuck : l.changed ≡ false → (k : ℕ) → k < l.number → IsStuck l.places l.callings l.subs l.table.items k;
}
