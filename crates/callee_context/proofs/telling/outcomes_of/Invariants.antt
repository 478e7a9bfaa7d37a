use Rattle.std.proofs.Common.{◌≡◌, ◌+◌, length}
use Rattle.callee_context.proofs.Popped.{AreLeft}
use Rattle.callee_context.specs.Told.{AreSome}
use Rattle.callee_context.proofs.telling.outcomes_of.Given as goal

abbrev pub invariant-loop-answer : goal.invariant-loop-answer
invariant-loop-answer l = record {
  left : AreLeft l.fn.answers.items l.answers.items;
  count : length l.list.items + length l.answers.items ≡ length l.fn.answers.items;
  told : AreSome l.found l.fn.answers.items l.list.items;
}

abbrev pub decreases-loop-answer : goal.decreases-loop-answer
decreases-loop-answer l = length l.answers.items
