use Rattle.abs_state.specs.Key.{compare}
use Rattle.context_answers.proofs.calling.push_calls.Given as goal
use Rattle.context_answers.specs.Adding.{Adds, IsOpenAmong}
use Rattle.flow_system.specs.Facts.{fact_at}

-- the reasons of the program points so far are added
abbrev pub invariant-loop-i : goal.invariant-loop-i
invariant-loop-i l =
    Adds (IsOpenAmong l.fn.binding l.fn.view.callings (fact_at compare l.fn.facts) l.fn.sub l.fn.nodes l.fn.bounds l.i) l.initial.reasons.items l.reasons.items
