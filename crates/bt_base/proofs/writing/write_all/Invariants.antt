-- What is written so far is a front of the text, and the count has not fallen.
use Rattle.std.proofs.Common.{◌≤◌, ◌-◌, take, length}
use Rattle.bt_base.specs.Sink.{Appended}
use Rattle.bt_base.proofs.writing.write_all.Given as goal

abbrev pub invariant-loop-written : goal.invariant-loop-written
invariant-loop-written g l = record {
  counts : g.K.Sink.faults l.initial.sink ≤ g.K.Sink.faults l.sink;
  appended : Appended (g.K.Sink.told l.initial.sink) (g.K.Sink.told l.sink) (take l.written l.bytes);
  within : l.written ≤ length l.bytes;
}

abbrev pub decreases-loop-written : goal.decreases-loop-written
decreases-loop-written g l = length l.bytes - l.written
