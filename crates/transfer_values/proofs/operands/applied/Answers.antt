use Rattle.std.proofs.Common.{sym, subst}
use Rattle.value_lattice.specs.Value.{IsOver}
use Rattle.transfer_values.proofs.CodeLemmas.{operand_is_over}
use Rattle.transfer_values.proofs.operands.applied.Goals as goal

pub apply-requires-clause-left : goal.apply-requires-clause-left
apply-requires-clause-left c =
    subst (IsOver c.args.t.now) (sym c.in_ok-a.ensures) (operand_is_over c.args.t.now c.args.state.now c.args.left c.are_thresholds.ensures c.requires)

pub apply-requires-clause-right : goal.apply-requires-clause-right
apply-requires-clause-right c =
    subst (IsOver c.args.t.now) (sym c.in_ok-b.ensures) (operand_is_over c.args.t.now c.args.state.now c.args.right c.are_thresholds.ensures c.requires)
