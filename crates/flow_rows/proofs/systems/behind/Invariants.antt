use Rattle.std.proofs.Common.{◌≡◌, true}
use Rattle.abs_state.specs.State.{is_state_over}
use Rattle.flow_rows.proofs.systems.behind.Given as goal

abbrev pub invariant-loop-one : goal.invariant-loop-one
invariant-loop-one l = is_state_over l.t l.state ≡ true
