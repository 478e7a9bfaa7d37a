use Rattle.std.proofs.Common.{◌≡◌, max, drop}
use Rattle.graph_view.proofs.needs.depth_of.Given as goal
use Rattle.graph_view.specs.Need.{deepest}

-- the greatest so far, and that of what is still to be gone through
abbrev pub invariant-loop-place : goal.invariant-loop-place
invariant-loop-place l = max l.most (deepest (drop l.place-index l.places)) ≡ deepest l.places
