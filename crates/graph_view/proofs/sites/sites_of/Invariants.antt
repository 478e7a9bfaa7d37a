use Rattle.std.proofs.Common.{take}
use Rattle.graph_view.proofs.sites.sites_of.Given as goal
use Rattle.graph_view.specs.Sites.{AreSites}

-- the calls gone through have their call sites
abbrev pub invariant-loop-calling : goal.invariant-loop-calling
invariant-loop-calling l = AreSites l.nodes (take l.calling-index l.callings) l.sites.items
