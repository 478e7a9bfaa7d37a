use Rattle.std.proofs.Common.{◌≡◌, map, take, false}
use Rattle.std.specs.List.{flat_map}
use Rattle.value_ops.specs.Operation.{result_of}
use Rattle.value_ops.proofs.pointwise.results_of.Given as goal

abbrev pub invariant-loop-x : goal.invariant-loop-x
invariant-loop-x l = l.results.items ≡ flat_map (λ x. map (result_of l.op false x) l.ys) (take l.x-index l.xs)
