use Rattle.std.proofs.Common.{◌≡◌, drop}
use Rattle.bt_command.proofs.bounding.root_bound.Given as goal
use Rattle.wcet_report.specs.Report.{root_bound}

-- those gone through aren't of the root
abbrev pub invariant-loop-outcome : goal.invariant-loop-outcome
invariant-loop-outcome l = root_bound (drop l.outcome-index l.list) l.root ≡ root_bound l.list l.root
