-- What followed calls reach, and what a bound says of it.
use Rattle.std.specs.Prelude.{◌≡◌, ◌↔◌, ℕ, true, false, Contains, Some, is_some}
use Rattle.abs_state.specs.declared.key.GapKind.{GapKind}
use Rattle.abs_state.specs.declared.key.Key.TheVariants as key
use Rattle.abs_state.specs.declared.key.Place.{Place}
use Rattle.assert_bind.specs.Binding.{roots}
use Rattle.transfer_acts.specs.Reading.{is_stub}
use Rattle.wcet_report.specs.Report.{root_bound}
use Rattle.wcet_report.specs.declared.context.Context.{Context}
use Rattle.wcet_report.specs.declared.outcome.Outcome.{Outcome}
use Rattle.wcet_report.specs.declared.outcome.Outcomes.{Outcomes}
use Rattle.wcet_report.specs.declared.reason.Reason.{Reason}
use Rattle.wcet_report.specs.declared.reason.Reason.TheVariants as reason
use Rattle.context_outcomes.specs.Arguments.{any_arguments}
use Rattle.context_outcomes.specs.Calls.{IsCall, IsEntering}
use Rattle.context_outcomes.specs.Inside.{Inside}
use Rattle.context_outcomes.specs.Outcomes.{AreOutcomes, HasBound, IsChosen, LeadsTo}
use Rattle.context_outcomes.specs.Setting.{Setting, facts_in}

-- followed calls reach a context from another: it is the same, or one of its calls leads to one from which they reach it
pub data IsReached (S : Setting) : ℕ → Context → ℕ → Context → Type 0 where
  itself : {sub : ℕ} {context : Context} → IsReached S sub context sub context
  onward : {sub t last : ℕ} {context next final : Context} {p : Place} (within : Inside S sub context) → IsEntering S sub within.facts p t
      → LeadsTo S within.facts p t next → IsReached S t next last final → IsReached S sub context last final

-- a context has a bound
pub record IsBounded (S : Setting) (sub : ℕ) (context : Context) : Type 0 where
  pub bound : ℕ
  pub is : HasBound S sub context (Some bound)

-- a context with a bound calls only stubs, and contexts with a bound
abbrev pub BoundedCallBounded : Type 0
BoundedCallBounded =
    (S : Setting) (sub : ℕ) (context : Context) → IsBounded S sub context → (within : Inside S sub context) (p : Place) (target : ℕ) (next : Context)
    → IsCall within.facts p target → is_stub S.binding target ≡ false → LeadsTo S within.facts p target next → IsBounded S target next

-- so all contexts that followed calls reach from one with a bound have one
abbrev pub ReachedAreBounded : Type 0
ReachedAreBounded =
    (S : Setting) (sub last : ℕ) (context final : Context) → IsReached S sub context last final → IsBounded S sub context → IsBounded S last final

-- a subprogram that has a context with a bound has no gap
abbrev pub BoundedHaveNoGap : Type 0
BoundedHaveNoGap =
    (S : Setting) (sub pc : ℕ) (context : Context) (why : GapKind) → IsBounded S sub context → is_some (facts_in S (key.Gap sub pc why)) ≡ false

-- a reason that lies in the context itself, and not in what it calls
abbrev pub IsOwn : Reason → Type 0
IsOwn (reason.Callee call callee) = ⊥
IsOwn _ = Unit {0}

-- an outcome has no such reason
abbrev pub HasNoneOfItsOwn : Outcome → Type 0
HasNoneOfItsOwn outcome = (one : Reason) → Contains outcome.reasons one → IsOwn one → ⊥

-- A root is told with a bound exactly where no context that its followed calls reach has a reason of its own: a gap, a loop
-- that nothing bounds, a part that is entered at two program points, a call inside a call cycle, too many register windows,
-- or too large a cost.
abbrev pub RootsAreBoundedWhere : Type 0
RootsAreBoundedWhere =
    (S : Setting) (outcomes : Outcomes) → AreOutcomes S outcomes → (root : ℕ) (context : Context) → Contains (roots S.binding) root
    → IsChosen S root any_arguments context
    → (is_some (root_bound outcomes.list root) ≡ true)
    ↔ ((one : Outcome) → Contains outcomes.list one → IsReached S root context one.sub one.context → HasNoneOfItsOwn one)
