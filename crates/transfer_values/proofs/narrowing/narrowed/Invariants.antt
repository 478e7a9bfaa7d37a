use Rattle.std.proofs.Common.{◌≡◌, true}
use Rattle.abs_state.specs.State.{is_state_over}
use Rattle.transfer_values.specs.Narrow.{narrowed_from, narrowed}
use Rattle.transfer_values.proofs.narrowing.narrowed.Given as goal

abbrev pub invariant-loop-r : goal.invariant-loop-r
invariant-loop-r l = record {
  over : is_state_over l.t l.next ≡ true;
  rest : narrowed_from l.t l.binding l.place l.r l.next ≡ narrowed l.t l.binding l.place l.state;
}
