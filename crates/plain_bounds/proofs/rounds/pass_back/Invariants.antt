use Rattle.context_bounds.specs.Setting.{setting_of}
use Rattle.plain_bounds.proofs.rounds.pass_back.Given as goal
use Rattle.plain_bounds.specs.Filled.{AreKnown}

-- what is known stays so
abbrev pub invariant-loop-place : goal.invariant-loop-place
invariant-loop-place l = AreKnown (setting_of l.system l.cycles l.whole) l.contexts.subs.items l.table.items
