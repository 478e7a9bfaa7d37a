use Rattle.std.proofs.Common.{◌≤◌}
use Rattle.graph_view.proofs.needs.needs_of.Given as goal
use Rattle.graph_view.specs.Need.{IsRight, filled}

-- each round filled an entry
abbrev pub invariant-loop-round : goal.invariant-loop-round
invariant-loop-round l = record {
  right : IsRight l.places l.callings l.subs l.table.items;
  grows : l._round ≤ filled l.table.items;
}
