use Rattle.std.proofs.Common.{arith}
use Rattle.std.proofs.lemmas.Map.Keys.{sorted_from_strictly_increasing}
use Rattle.core_rows.proofs.relay.rises.Goals as goal

pub returns : goal.returns
returns c = λ t. sorted_from_strictly_increasing c.args.keys.now (λ k h. c.loop-place.invariant k (omega (arith, h)))
