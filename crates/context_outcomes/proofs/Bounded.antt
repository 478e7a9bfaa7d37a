-- Bounds and lists of reasons.
use Rattle.std.proofs.Common.{◌≡◌, ◌↔◌, ℕ, true, List, [], ◌∷◌, Option, Some, None, Contains, refl, arith}
use Rattle.std.specs.Prelude.{is_some}
use Rattle.std.proofs.lemmas.Bool.{false≢true}
use Rattle.wcet_report.specs.declared.context.Context.{Context}
use Rattle.wcet_report.specs.declared.reason.Reason.{Reason}
use Rattle.context_outcomes.specs.Bounding.{IsBoundWith, IsReason}
use Rattle.context_outcomes.specs.Inside.{Inside}
use Rattle.context_outcomes.specs.Laws.{BoundedHaveNoReasons}
use Rattle.context_outcomes.specs.Setting.{Setting}
use Rattle.context_outcomes.specs.Spending.{Callees}

by_list : (S : Setting) (sub : ℕ) (context : Context) (within : Inside S sub context) (callees : Callees) (bound : Option ℕ) (reasons : List Reason)
    → IsBoundWith S within callees bound → ((one : Reason) → Contains reasons one ↔ IsReason S within callees one)
    → (is_some bound ≡ true) ↔ (reasons ≡ [])
by_list S sub context within callees None [] is members =
    (λ some. absurd (false≢true some), λ none. absurd (let h = (members is.one).1 is.is in let low = h.1 in omega (arith, low)))
by_list S sub context within callees None (one ∷ rest) is members = (λ some. absurd (false≢true some), λ none. absurd (cc))
by_list S sub context within callees (Some most) [] is members = (λ some. refl, λ none. refl)
by_list S sub context within callees (Some most) (one ∷ rest) is members =
    (λ some. absurd (is.free one ((members one).0 (0, omega arith, refl))), λ none. refl)

pub bounded_have_no_reasons : BoundedHaveNoReasons
bounded_have_no_reasons S outcome is =
    by_list S outcome.sub outcome.context is.within is.callees outcome.bound outcome.reasons is.bound is.reasons
