-- What the whole program has of each context that is needed.
use Rattle.std.specs.Prelude.{ℕ}
use Rattle.context_inside.specs.Laws.{AreDue, IsEnteredWith}
use Rattle.context_inside.specs.Within.{IsContextIn}
use Rattle.context_outcomes.specs.Inside.{Inside}
use Rattle.context_outcomes.specs.Outcomes.{IsNeeded}
use Rattle.context_outcomes.specs.Setting.{Setting}
use Rattle.wcet_report.specs.declared.context.Context.{Context}

-- it has the context's entry, with at least its arguments
abbrev pub NeededAreEntered : Type 0
NeededAreEntered =
    (S : Setting) (sub : ℕ) (context : Context) → AreDue S → IsNeeded S sub context → (within : Inside S sub context) → IsEnteredWith S sub within.args

-- So the context's facts are at most the due ones of the whole program, at keys of its subprogram, and they have what its own
-- program points give to such keys.
abbrev pub NeededAreContexts : Type 0
NeededAreContexts =
    (S : Setting) (sub : ℕ) (context : Context) → AreDue S → IsNeeded S sub context → (within : Inside S sub context)
    → IsContextIn S sub within.args within.facts
