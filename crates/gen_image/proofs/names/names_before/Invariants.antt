use Rattle.std.proofs.Common.{◌≡◌}
use Rattle.gen_image.specs.Name.{names_before}
use Rattle.gen_image.proofs.names.names_before.Given as goal

abbrev pub invariant-loop-k : goal.invariant-loop-k
invariant-loop-k l = l.names.items ≡ names_before l.k
