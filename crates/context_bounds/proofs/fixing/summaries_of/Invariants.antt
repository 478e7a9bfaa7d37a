use Rattle.std.proofs.Common.{take}
use Rattle.context_bounds.specs.Copies.{AreCopies}
use Rattle.context_bounds.proofs.fixing.summaries_of.Given as goal

abbrev pub invariant-loop-key : goal.invariant-loop-key
invariant-loop-key l = AreCopies l.fn.whole l.fixed (take l.key-index l.keys)
