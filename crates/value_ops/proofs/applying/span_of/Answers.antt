use Rattle.value_ops.proofs.OperationLemmas.{ends_filled}
use Rattle.value_ops.proofs.applying.span_of.Goals as goal

pub returns-clause-filled : goal.returns-clause-filled
returns-clause-filled c = ends_filled c.args.v.now c.ends-low.result.0 c.ends-low.result.1 c.requires c.ends-low.ensures.ends
