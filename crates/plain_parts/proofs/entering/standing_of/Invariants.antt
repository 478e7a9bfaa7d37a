use Rattle.std.proofs.Common.{All, take}
use Rattle.abs_state.specs.Key.{compare}
use Rattle.flow_system.specs.Facts.{fact_at}
use Rattle.plain_parts.proofs.entering.standing_of.Given as goal
use Rattle.plain_parts.specs.Entered.{IsBoundedAt}

-- all that the first program points enter has a bound
abbrev pub invariant-loop-place : goal.invariant-loop-place
invariant-loop-place l = All (IsBoundedAt l.binding l.view.callings l.subs l.table l.sub (fact_at compare l.facts)) (take l.place-index l.nodes)
