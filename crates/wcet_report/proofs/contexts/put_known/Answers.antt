use Rattle.std.proofs.Common.{◌++◌, arith}
use Rattle.wcet_report.proofs.Joins.{known_more, known_done}
use Rattle.wcet_report.proofs.contexts.put_known.Goals as goal
use Rattle.wcet_report.specs.Context.{argument_names, known}
use Rattle.wcet_report.specs.Line.{spaced}

pub loop-k-preserved : goal.loop-k-preserved
loop-k-preserved c =
    known_more (c.args.text.now.items ++ spaced (known argument_names c.args.values.now)) c.loop-k.text.items
    c.put_argument.new.text.items c.args.values.now c.loop-k.k c.index-values-k.result
    (omega (arith, c.loop-k-test.true)) (omega (arith, c.loop-k-test.true)) c.index-values-k.is c.loop-k.invariant
    c.in_ok-put_argument.ensures

pub returns : goal.returns
returns c =
    known_done (c.args.text.now.items ++ spaced (known argument_names c.args.values.now)) c.loop-k.text.items c.args.values.now
    c.loop-k.k c.min-k-end.result c.min-k-end.ensures c.loop-k-test.false c.loop-k.invariant
