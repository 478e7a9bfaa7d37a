use Rattle.std.proofs.Common.{length, ◌-◌, ◌+◌}
use Rattle.value_lattice.proofs.MergeLemmas.{IsMerging}
use Rattle.value_lattice.proofs.merging.merge.Given as goal

abbrev pub invariant-loop-i : goal.invariant-loop-i
invariant-loop-i l = IsMerging l.xs l.ys l.i l.j l.merged.items

abbrev pub decreases-loop-i : goal.decreases-loop-i
decreases-loop-i l = (length l.xs - l.i) + (length l.ys - l.j)
