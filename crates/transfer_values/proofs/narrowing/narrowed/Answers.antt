use Rattle.std.proofs.Common.{ap, ◌∙◌}
use Rattle.abs_state.specs.State.{is_state_over}
use Rattle.transfer_values.proofs.CodeLemmas.{narrow_begins, narrow_more, narrow_stops, narrow_ends}
use Rattle.transfer_values.proofs.narrowing.narrowed.Goals as goal

pub loop-r-init : goal.loop-r-init
loop-r-init c = record {
  over = ap (is_state_over c.args.t.now) c.in_ok-next.ensures ∙ c.requires.over;
  rest = narrow_begins c.args.t.now c.args.binding.now c.args.place c.args.state.now c.in_ok-next.next c.in_ok-next.ensures;
}

pub loop-r-preserved : goal.loop-r-preserved
loop-r-preserved c = record {
  over = c.in_ok-narrow.ensures.over c.if-not-branch.false;
  rest =
      narrow_more c.args.t.now c.args.binding.now c.args.place c.loop-r.r c.cell_of.result c.range-range.result c.in_ok-narrow.field-0 c.loop-r.next
      c.narrow.new.state c.args.state.now c.loop-r-test.true c.range-range.ensures c.cell_of.ensures.cell c.in_ok-narrow.ensures.value c.if-not-branch.false
      c.loop-r.invariant.rest;
}

pub returns-then-not-branch-clause-value : goal.returns-then-not-branch-clause-value
returns-then-not-branch-clause-value c =
    narrow_stops c.args.t.now c.args.binding.now c.args.place c.loop-r.r c.cell_of.result c.range-range.result c.in_ok-narrow.field-0 c.loop-r.next
    c.narrow.new.state c.args.state.now c.loop-r-test.true c.range-range.ensures c.cell_of.ensures.cell c.in_ok-narrow.ensures.value c.if-not-branch.true
    c.loop-r.invariant.rest

pub returns-clause-value : goal.returns-clause-value
returns-clause-value c =
    narrow_ends c.args.t.now c.args.binding.now c.args.place c.loop-r.r c.loop-r.next c.args.state.now c.loop-r-test.false c.loop-r.invariant.rest
