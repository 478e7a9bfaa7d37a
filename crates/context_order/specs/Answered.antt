-- What the contexts of a list come to.
use Rattle.std.specs.Prelude.{◌≡◌, ℕ, List, length, slice_get, Option, Some}
use Rattle.abs_state.specs.declared.key.Place.{Place}
use Rattle.context_answers.specs.Answered.{IsAnswer}
use Rattle.context_answers.specs.declared.answer.Answer.{Answer}
use Rattle.context_list.specs.Numbered.{One}
use Rattle.context_outcomes.specs.Calls.{IsEntering}
use Rattle.context_outcomes.specs.Inside.{Inside}
use Rattle.context_outcomes.specs.Outcomes.{HasBound, LeadsTo}
use Rattle.context_outcomes.specs.Setting.{Setting}
use Rattle.context_outcomes.specs.Spending.{Callees}
use Rattle.wcet_report.specs.declared.context.Context.{Context}

-- which answer stands at which number
abbrev pub Standing : Type 1
Standing = ℕ → Answer → Type 0

-- the answer at the number of a context has this bound
pub record IsToldBy (list : List One) (stands : Standing) (target : ℕ) (context : Context) (bound : Option ℕ) : Type 0 where
  pub number : ℕ
  pub at : slice_get list number ≡ Some (target, context)
  pub answer : Answer
  pub there : stands number answer
  pub is : answer.bound ≡ bound

-- What a context of a list comes to, by the answers of the contexts of the list to which its calls lead.
pub record IsAnsweredBy (S : Setting) (list : List One) (stands : Standing) (one : One) (answer : Answer) : Type 0 where
  pub within : Inside S one.0 one.1
  pub callees : Callees
  pub next : Place → Context
  pub leads : (p : Place) (t : ℕ) → IsEntering S one.0 within.facts p t → LeadsTo S within.facts p t (next p)
  pub bounds : (p : Place) (t : ℕ) → IsEntering S one.0 within.facts p t → HasBound S t (next p) (callees p)
  pub told : (p : Place) (t : ℕ) → IsEntering S one.0 within.facts p t → IsToldBy list stands t (next p) (callees p)
  pub is : IsAnswer S within callees answer

-- an answer stands in a list
abbrev pub stands_in : List Answer → Standing
stands_in answers number answer = slice_get answers number ≡ Some answer

-- The answers of the contexts of a list, in their order.
pub record AreAnswers (S : Setting) (list : List One) (answers : List Answer) : Type 0 where
  pub count : length answers ≡ length list
  pub each : (n : ℕ) (one : One) (answer : Answer) → slice_get list n ≡ Some one → slice_get answers n ≡ Some answer
      → IsAnsweredBy S list (stands_in answers) one answer
