-- What a program comes to is one: the contexts of its calls, their bounds, their outcomes, and the report.
use Rattle.std.specs.Prelude.{◌≡◌, ℕ, List, Option}
use Rattle.std.specs.List.Sorted.{IsPermutation}
use Rattle.abs_state.specs.declared.key.Place.{Place}
use Rattle.transfer_rules.specs.Give.{Facts}
use Rattle.value_lattice.specs.declared.value.Value.{Value}
use Rattle.wcet_report.specs.Report.{AreReportable, IsReport}
use Rattle.wcet_report.specs.declared.context.Context.{Context}
use Rattle.wcet_report.specs.declared.outcome.Outcome.{Outcome}
use Rattle.wcet_report.specs.declared.outcome.Outcomes.{Outcomes}
use Rattle.context_outcomes.specs.Outcomes.{AreOutcomes, HasBound, IsChosen, IsOutcome, LeadsTo}
use Rattle.context_outcomes.specs.Setting.{Setting}

-- a subprogram that is called with certain arguments, or is a root, has one context
abbrev pub ChosenAreOne : Type 0
ChosenAreOne =
    (S : Setting) (sub : ℕ) (args : List Value) (one two : Context) → IsChosen S sub args one → IsChosen S sub args two → one ≡ two

-- a call leads to one context
abbrev pub ContextsAreOne : Type 0
ContextsAreOne =
    (S : Setting) (facts : Facts) (p : Place) (target : ℕ) (one two : Context) → LeadsTo S facts p target one → LeadsTo S facts p target two → one ≡ two

-- a context has one bound, or none
abbrev pub BoundsAreOne : Type 0
BoundsAreOne =
    (S : Setting) (sub : ℕ) (context : Context) (one two : Option ℕ) → HasBound S sub context one → HasBound S sub context two → one ≡ two

-- a context has one outcome: the same loops, reasons and bound
abbrev pub OutcomesOfContextsAreOne : Type 0
OutcomesOfContextsAreOne =
    (S : Setting) (one two : Outcome) → IsOutcome S one → IsOutcome S two → one.sub ≡ two.sub → one.context ≡ two.context → one ≡ two

-- outcomes differ at most in their order
pub record AreSame (one two : Outcomes) : Type 0 where
  pub roots : one.roots ≡ two.roots
  pub list : IsPermutation one.list two.list

-- a program has one list of outcomes, up to their order
abbrev pub OutcomesAreOne : Type 0
OutcomesAreOne = (S : Setting) (one two : Outcomes) → AreOutcomes S one → AreOutcomes S two → AreSame one two

-- the outcomes of a program can be reported: each root has one, no context stands twice, and each head of a loop stands once
abbrev pub OutcomesAreReportable : Type 0
OutcomesAreReportable = (S : Setting) (outcomes : Outcomes) → AreOutcomes S outcomes → AreReportable outcomes

-- a program has one report
abbrev pub ReportsAreOne : Type 0
ReportsAreOne =
    (S : Setting) (image : List ℕ) (one two : Outcomes) (text also : List ℕ) → AreOutcomes S one → AreOutcomes S two → IsReport image one text
    → IsReport image two also → text ≡ also
