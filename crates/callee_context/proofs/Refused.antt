-- What is answered, where all asserted loops are matched.
use Rattle.std.proofs.Common.{◌≤◌, length, Ok, Err}
use Rattle.std.specs.Prelude.{IfErr, IfOk, MatchResult}
use Rattle.std.specs.declared.result.Result.{Result}
use Rattle.callee_context.specs.Answered.{AreAnswered, IsRefusal}
use Rattle.callee_context.specs.Worklist.{IsOverfull}
use Rattle.callee_context.specs.declared.refusal.ContextRefusal.{ContextRefusal}
use Rattle.callee_context.specs.declared.refusal.ContextRefusal.TheVariants as refusal
use Rattle.context_outcomes.specs.Outcomes.{AreOutcomes}
use Rattle.context_outcomes.specs.Refusals.{AreMatched, most_contexts}
use Rattle.context_outcomes.specs.Setting.{Setting}
use Rattle.wcet_report.specs.declared.outcome.Outcomes.{Outcomes}

refused : (S : Setting) → AreMatched S → (why : ContextRefusal) → IsOverfull S why → IsRefusal S why
refused S matched (refusal.Unmatched line) is = absurd is
refused S matched (refusal.TooMany number) is = record { matched = matched; is = is.0; needed = is.1 }
refused S matched refusal.Want is = tt

pub answered : (S : Setting) → AreMatched S → (r : Result Outcomes ContextRefusal) → IfOk r (AreOutcomes S) → IfOk r (λ o. length o.list ≤ most_contexts)
    → IfErr r (IsOverfull S) → MatchResult r (AreAnswered S) (IsRefusal S)
answered S matched (Ok outcomes) are few over = record { matched = matched; are = are; few = few }
answered S matched (Err why) are few over = refused S matched why over
