use Rattle.std.proofs.Common.{◌≡◌, false, sym, ap, subst, ◌∙◌}
use Rattle.std.proofs.lemmas.Result.{IfOk-weaker}
use Rattle.value_lattice.specs.Value.{IsOver, is_ret, is_some_ret}
use Rattle.value_refine.proofs.RefineFunctions.{refine_address}
use Rattle.value_refine.specs.Refinement.{refine}
use Rattle.transfer_values.proofs.CodeLemmas.{cell_is_over, operand_is_over}
use Rattle.transfer_values.proofs.TestLemmas.{words_named}
use Rattle.transfer_values.proofs.testing.refined_cell.Goals as goal

pub refine-requires-clause-left : goal.refine-requires-clause-left
refine-requires-clause-left c =
    subst (IsOver c.args.t.now) (sym c.in_ok-left.ensures) (cell_is_over c.args.t.now c.args.state.now c.args.c c.are_thresholds.ensures c.requires.over)

pub refine-requires-clause-right : goal.refine-requires-clause-right
refine-requires-clause-right c =
    subst (IsOver c.args.t.now) (sym c.in_ok-right.ensures)
    (operand_is_over c.args.t.now c.args.state.now c.args.other c.are_thresholds.ensures c.requires.over)

pub returns-clause-words : goal.returns-clause-words
returns-clause-words c =
    let t = c.args.t.now in
    IfOk-weaker c.refine.result (λ r. r ≡ refine t c.args.condition c.args.truth c.in_ok-left.left c.in_ok-right.right) (λ r. is_some_ret r ≡ false)
    (λ r is. ap is_some_ret is ∙ refine_address t c.args.condition c.args.truth c.in_ok-left.left c.in_ok-right.right
    (ap is_ret c.in_ok-left.ensures ∙ words_named c.args.state.now.cells c.args.c c.requires.named)) c.refine.ensures.value
