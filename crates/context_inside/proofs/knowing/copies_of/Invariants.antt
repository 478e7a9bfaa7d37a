use Rattle.std.proofs.Common.{take}
use Rattle.abs_state.specs.Key.{compare}
use Rattle.flow_core.specs.Staged.{IsCopy}
use Rattle.context_inside.proofs.knowing.copies_of.Given as goal

-- the facts at the keys gone through are copied
abbrev pub invariant-loop-key : goal.invariant-loop-key
invariant-loop-key l = IsCopy compare l.fn.facts (take l.key-index l.keys) l.copies
