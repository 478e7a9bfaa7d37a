use Rattle.std.proofs.Common.{take}
use Rattle.flow_core.specs.Staged.{AgreesAt}
use Rattle.flow_core.proofs.staging.is_fresh.Given as goal

abbrev pub invariant-loop-k : goal.invariant-loop-k
invariant-loop-k g l = AgreesAt g.S.Key.Ord.cmp l.copies l.facts (take l.k-index l.keys)
