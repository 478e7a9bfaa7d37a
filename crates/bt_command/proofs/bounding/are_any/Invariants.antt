use Rattle.std.proofs.Common.{◌≡◌, drop}
use Rattle.bt_command.proofs.bounding.are_any.Given as goal
use Rattle.wcet_report.specs.Context.{are_any}

-- nothing is known of those gone through
abbrev pub invariant-loop-value : goal.invariant-loop-value
invariant-loop-value l = are_any (drop l.value-index l.values) ≡ are_any l.values
