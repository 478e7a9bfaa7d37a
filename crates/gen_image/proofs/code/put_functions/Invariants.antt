use Rattle.std.proofs.Common.{◌≡◌, ◌++◌}
use Rattle.gen_image.specs.Code.{function_code}
use Rattle.gen_image.specs.Number.{each}
use Rattle.gen_image.proofs.code.put_functions.Given as goal

abbrev pub invariant-loop-k : goal.invariant-loop-k
invariant-loop-k l = l.out.items ≡ l.initial.out.items ++ each (λ k. function_code) l.k
