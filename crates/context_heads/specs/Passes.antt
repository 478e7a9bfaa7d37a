-- How often heads are passed.
use Rattle.std.specs.Prelude.{◌≤◌, IfSome}
use Rattle.abs_state.specs.declared.head_bound.HeadBound.{HeadBound}
use Rattle.context_outcomes.specs.Heads.{passes_by}
use Rattle.wcet_report.specs.declared.loops.LoopOutcome.{LoopOutcome}

-- a counter allows one pass at least
abbrev pub CountsOne : HeadBound → Type 0
CountsOne counter = 1 ≤ counter.passes

-- what bounds the passes of a head allows one at least
abbrev pub AllowsOne : LoopOutcome → Type 0
AllowsOne outcome = IfSome (passes_by outcome.by) (λ passes. 1 ≤ passes)
