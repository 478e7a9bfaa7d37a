use Rattle.std.proofs.Common.{◌≡◌, ◌≤◌, take, count_by}
use Rattle.flow_core.specs.Staged.{is_fresh_key}
use Rattle.flow_core.proofs.staging.count_fresh.Given as goal

abbrev pub invariant-loop-k : goal.invariant-loop-k
invariant-loop-k g l =
    (l.count ≡ count_by (is_fresh_key g.S.Key.Ord.cmp (g.S.System.rules l.system) l.facts) (take l.k-index l.keys)) × (l.count ≤ l.k-index)
