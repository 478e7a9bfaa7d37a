-- What the sink over the standard output shows: a count of faults.
use Rattle.std.specs.Prelude.{ℕ}
use Rattle.bt_base.specs.declared.out_sink.OutSink.{OutSink}

-- how many writes have failed
abbrev pub faults_of : {R : Type 0} → OutSink R → ℕ
faults_of sink = sink.faults
