use Rattle.std.proofs.Common.{◌≡◌, ◌++◌, drop}
use Rattle.context_bounds.specs.Extras.{cost_between, extras_of_row}
use Rattle.context_bounds.proofs.extras.push_row.Given as goal

abbrev pub invariant-loop-m : goal.invariant-loop-m
invariant-loop-m l =
    l.list.items ++ extras_of_row (cost_between l.fn.image l.fn.cycles l.fn.nodes) l.fn.n (drop l.m-index l.row)
    ≡ l.initial.list.items ++ extras_of_row (cost_between l.fn.image l.fn.cycles l.fn.nodes) l.fn.n l.row
