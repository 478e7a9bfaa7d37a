use Rattle.std.proofs.Common.{◌+◌, ◌-◌, ◌^◌, arith, rules}
use Rattle.value_ops.proofs.RunLemmas.{differences_are_run}
use Rattle.value_ops.proofs.runs.differences_of_runs.Goals as goal

pub returns : goal.returns
returns c = differences_are_run c.args.a c.args.b
    (record { low = c.from-low.result + 2 ^ 31 - c.from-greatest.result; high = c.from-high.result + 2 ^ 31 - c.from-least.result }) c.requires.left
    c.requires.right (search rules) (search rules) (omega (arith, c.from-low.ensures, c.from-greatest.ensures))
    (omega (arith, c.from-high.ensures, c.from-least.ensures)) (omega (arith, c.from-high.ensures, c.from-least.ensures))
