use Rattle.graph_view.proofs.needs.pass_back.Given as goal
use Rattle.graph_view.specs.Need.{IsRight}

-- the table stays right
abbrev pub invariant-loop-place : goal.invariant-loop-place
invariant-loop-place l = IsRight l.places l.callings l.subs l.table.items
