use Rattle.std.proofs.Common.{take}
use Rattle.local_facts.specs.Copied.{IsCopyBeside}
use Rattle.local_facts.proofs.keeping.copies_beside.Given as goal

abbrev pub invariant-loop-k : goal.invariant-loop-k
invariant-loop-k g l = IsCopyBeside g.S.Key.Ord.cmp l.keep l.fixed l.facts (take l.k-index l.keys) l.copies
