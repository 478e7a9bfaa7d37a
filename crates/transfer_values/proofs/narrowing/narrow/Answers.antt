use Rattle.std.proofs.Common.{sym, ap, subst, ◌∙◌}
use Rattle.value_lattice.specs.Test.{is_over_or_none}
use Rattle.value_lattice.specs.Value.{IsOver, is_some_ret}
use Rattle.value_refine.proofs.RefineFunctions.{within_over, within_address}
use Rattle.transfer_values.proofs.CodeLemmas.{cell_is_over, keep_over}
use Rattle.transfer_values.proofs.narrowing.narrow.Goals as goal

pub within-requires : goal.within-requires
within-requires c =
    subst (IsOver c.args.t.now) (sym c.in_ok-whole-in-Some.ensures) (cell_is_over c.args.t.now c.args.state.now c.args.c c.are_thresholds.ensures c.requires)

pub keep-requires-clause-words : goal.keep-requires-clause-words
keep-requires-clause-words c =
    ap is_some_ret c.in_ok-part-in-Some.ensures.value
    ∙ within_address c.args.t.now c.in_ok-whole-in-Some.whole _ _

pub returns-in_ok-part-in-Some-clause-over : goal.returns-in_ok-part-in-Some-clause-over
returns-in_ok-part-in-Some-clause-over c =
    keep_over c.args.t.now c.args.state.now c.args.c c.in_ok-part-in-Some.part c.keep.result c.keep.new.state c.keep.ensures c.requires
    (ap (is_over_or_none c.args.t.now) c.in_ok-part-in-Some.ensures.value
    ∙ within_over c.args.t.now c.in_ok-whole-in-Some.whole _ _ c.are_thresholds.ensures)
    (ap is_some_ret c.in_ok-part-in-Some.ensures.value
    ∙ within_address c.args.t.now c.in_ok-whole-in-Some.whole _ _)
