use Rattle.std.proofs.Common.{◌≡◌, drop}
use Rattle.transfer_rules.specs.Give.{with_each}
use Rattle.context_bounds.proofs.entering.written.Given as goal

abbrev pub invariant-loop-i : goal.invariant-loop-i
invariant-loop-i l =
    with_each l.state (drop l.i l.registers) (drop l.i l.fn.args) ≡ with_each l.initial.state l.registers l.fn.args
