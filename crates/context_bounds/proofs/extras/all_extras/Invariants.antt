use Rattle.std.proofs.Common.{◌≡◌, ◌++◌, drop}
use Rattle.context_bounds.specs.Extras.{cost_between, extras_from}
use Rattle.context_bounds.proofs.extras.all_extras.Given as goal

abbrev pub invariant-loop-n : goal.invariant-loop-n
invariant-loop-n l =
    l.list.items ++ extras_from (cost_between l.fn.image l.fn.cycles l.fn.nodes) l.n (drop l.n l.fn.graph)
    ≡ extras_from (cost_between l.fn.image l.fn.cycles l.fn.nodes) 0 l.fn.graph
