use Rattle.std.proofs.Common.{◌≡◌, length}
use Rattle.part_pool.proofs.field.Field.new.Given as goal

abbrev pub invariant-loop-number : goal.invariant-loop-number
invariant-loop-number g l = length l.parts.items ≡ l.number
