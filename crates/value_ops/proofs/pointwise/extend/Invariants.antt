use Rattle.std.proofs.Common.{◌≡◌, ◌++◌, map, take, false}
use Rattle.value_ops.specs.Operation.{result_of}
use Rattle.value_ops.proofs.pointwise.extend.Given as goal

abbrev pub invariant-loop-y : goal.invariant-loop-y
invariant-loop-y l = l.results.items ≡ l.initial.results.items ++ map (result_of l.op false l.x) (take l.y-index l.ys)
