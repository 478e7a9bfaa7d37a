use Rattle.std.proofs.Common.{◌≡◌, ℕ, drop}
use Rattle.std.specs.BTreeMap.{get}
use Rattle.std.specs.Option.{option_or}
use Rattle.std.specs.Ordering.{nat_cmp}
use Rattle.wcet_report.proofs.roots.open_bounds.Given as goal
use Rattle.wcet_report.specs.Report.{open_bound}

-- what is found so far stands, and the rest is still to be looked at
abbrev pub invariant-loop-outcome : goal.invariant-loop-outcome
invariant-loop-outcome l =
    (root : ℕ) → option_or (get nat_cmp l.bounds root) (open_bound root (drop l.outcome-index l.list)) ≡ open_bound root l.list
