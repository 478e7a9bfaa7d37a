use Rattle.std.proofs.Common.{◌≡◌, ◌++◌, drop}
use Rattle.std.specs.BTreeMap.{get}
use Rattle.std.specs.List.{flat_map}
use Rattle.std.specs.Ordering.{nat_cmp}
use Rattle.wcet_report.proofs.roots.put_roots.Given as goal
use Rattle.wcet_report.specs.Report.{flattened, bounded_line}

-- what is appended so far, and what is still to be appended
abbrev pub invariant-loop-root : goal.invariant-loop-root
invariant-loop-root l =
    l.text.items ++ flat_map (λ root. bounded_line l.image root (flattened (get nat_cmp l.bounds root))) (drop l.root-index l.roots)
    ≡ l.initial.text.items ++ flat_map (λ root. bounded_line l.image root (flattened (get nat_cmp l.bounds root))) l.roots
