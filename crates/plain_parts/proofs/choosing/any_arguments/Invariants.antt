use Rattle.std.proofs.Common.{◌≡◌, replicate}
use Rattle.plain_parts.proofs.choosing.any_arguments.Given as goal
use Rattle.value_lattice.specs.Least.{top}

-- as many values as the counter says
abbrev pub invariant-loop : goal.invariant-loop
invariant-loop l = l.list.items ≡ replicate l.counter top
