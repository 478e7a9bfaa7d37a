use Rattle.std.proofs.Common.{ap, ◌∙◌}
use Rattle.abs_state.proofs.WriteLemmas.{writes_stand}
use Rattle.abs_state.specs.State.{is_state_over}
use Rattle.flow_rows.proofs.systems.entry.Goals as goal

pub returns : goal.returns
returns c = ap (is_state_over c.args.t.now) c.in_ok-entry.ensures.value ∙ writes_stand.entry c.args.t.now c.are_thresholds.ensures
