use Rattle.std.proofs.Common.{◌≤◌}
use Rattle.graph_view.proofs.needs.pass_down.Given as goal
use Rattle.graph_view.specs.Need.{IsRight, filled}

-- the table stays right
abbrev pub invariant-loop-place : goal.invariant-loop-place
invariant-loop-place l = record {
  right : IsRight l.places l.callings l.subs l.table.items;
  grows : filled l.initial.table.items ≤ filled l.table.items;
}
