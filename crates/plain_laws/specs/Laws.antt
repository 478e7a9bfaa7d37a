-- The bounds of plain subprograms are one.
use Rattle.std.specs.Prelude.{◌≡◌, ℕ, Some}
use Rattle.abs_state.specs.declared.key.Place.{Place}
use Rattle.context_inside.specs.Laws.{AreDue}
use Rattle.context_outcomes.specs.Bounding.{HasReason}
use Rattle.context_outcomes.specs.Calls.{IsEntering}
use Rattle.context_outcomes.specs.Inside.{Inside}
use Rattle.context_outcomes.specs.Outcomes.{HasPlainBound, IsPlain}
use Rattle.context_outcomes.specs.Setting.{Setting}
use Rattle.wcet_report.specs.declared.context.Context.TheVariants.{Plain}

-- a subprogram has at most one bound of its plain context
abbrev pub PlainBoundsAreOne : Type 0
PlainBoundsAreOne = (S : Setting) → AreDue S → (sub one two : ℕ) → HasPlainBound S sub one → HasPlainBound S sub two → one ≡ two

-- a subprogram that calls what isn't plain isn't plain
abbrev pub OpenCallsAreAgainst : Type 0
OpenCallsAreAgainst =
    (S : Setting) → AreDue S → (sub : ℕ) (within : Inside S sub Plain) (p : Place) (t : ℕ) → IsEntering S sub within.facts p t → (IsPlain S t → ⊥)
    → IsPlain S sub → ⊥

-- a subprogram whose plain context has a reason against a bound, though all that this calls is plain, isn't plain
abbrev pub ReasonsAreAgainst : Type 0
ReasonsAreAgainst =
    (S : Setting) → AreDue S → (sub : ℕ) (within : Inside S sub Plain) (bounds : Place → ℕ)
    → ((p : Place) (t : ℕ) → IsEntering S sub within.facts p t → HasPlainBound S t (bounds p))
    → HasReason S within (λ p. Some (bounds p)) → IsPlain S sub → ⊥
