use Rattle.std.proofs.Common.{take}
use Rattle.flow_core.specs.Staged.{IsCopy}
use Rattle.flow_core.proofs.staging.copy_facts.Given as goal

abbrev pub invariant-loop-k : goal.invariant-loop-k
invariant-loop-k g l = IsCopy g.S.Key.Ord.cmp l.facts (take l.k-index l.keys) l.copies
