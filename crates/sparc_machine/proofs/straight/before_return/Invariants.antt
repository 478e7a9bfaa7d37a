use Rattle.std.proofs.Common.{◌≡◌, ◌≤◌, ◌*◌}
use Rattle.sparc_machine.specs.Straight.{code_cost, loaded_before, ArePassed}
use Rattle.sparc_machine.proofs.straight.before_return.Given as goal

-- the words so far pass, and cost what is spent
abbrev pub invariant-loop-count : goal.invariant-loop-count
invariant-loop-count l = record {
  passed : ArePassed l.image l.entry l.count;
  cost : l.spent ≡ code_cost l.image l.cycles l.entry l.count;
  loaded : l.before ≡ loaded_before l.image l.entry l.count;
  most : l.spent ≤ 3000000 * l.count;
}
