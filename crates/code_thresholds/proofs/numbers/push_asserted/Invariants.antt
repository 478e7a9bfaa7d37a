use Rattle.std.proofs.Common.{◌≡◌, ◌++◌, drop}
use Rattle.code_thresholds.specs.Number.{numbers_asserted}
use Rattle.code_thresholds.proofs.numbers.push_asserted.Given as goal

abbrev pub invariant-loop-assertion : goal.invariant-loop-assertion
invariant-loop-assertion l =
    l.list.items ++ numbers_asserted (drop l.assertion-index l.assertions) ≡ l.initial.list.items ++ numbers_asserted l.assertions
