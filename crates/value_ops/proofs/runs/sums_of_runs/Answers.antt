use Rattle.std.proofs.Common.{◌+◌, ◌-◌, ◌^◌, arith, rules}
use Rattle.value_ops.proofs.RunLemmas.{sums_are_run}
use Rattle.value_ops.proofs.runs.sums_of_runs.Goals as goal

pub returns : goal.returns
returns c = sums_are_run c.args.a c.args.b (record { low = c.from.result + c.from-2.result - 2 ^ 31; high = c.from-3.result + c.from-4.result - 2 ^ 31 })
    c.requires.left c.requires.right (search rules) (search rules) (omega (arith, c.from.ensures, c.from-2.ensures))
    (omega (arith, c.from-3.ensures, c.from-4.ensures)) (omega (arith, c.from-3.ensures, c.from-4.ensures))
