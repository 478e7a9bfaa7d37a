-- Outcomes as answers with the contexts whose they are.
use Rattle.std.specs.Prelude.{◌≡◌, ◌+◌, ℕ, suc, List, length, slice_get, Some}
use Rattle.context_answers.specs.declared.answer.Answer.{Answer}
use Rattle.context_list.specs.Numbered.{One}
use Rattle.wcet_report.specs.declared.outcome.Outcome.{Outcome}

-- what a context comes to, with what it is
abbrev pub outcome_with : One → Answer → Outcome
outcome_with one answer = record {
  sub = one.0;
  context = one.1;
  loops = answer.loops;
  reasons = answer.reasons;
  bound = answer.bound;
}

-- an outcome is that of the context so many places before the last
pub record IsToldOf (list : List One) (answers : List Answer) (place : ℕ) (outcome : Outcome) : Type 0 where
  pub number : ℕ
  pub before : number + suc place ≡ length answers
  pub one : One
  pub at : slice_get list number ≡ Some one
  pub answer : Answer
  pub answered : slice_get answers number ≡ Some answer
  pub is : outcome ≡ outcome_with one answer

-- outcomes are those of the last contexts of a list, the last first
abbrev pub AreSome : List One → List Answer → List Outcome → Type 0
AreSome list answers outcomes = (place : ℕ) (outcome : Outcome) → slice_get outcomes place ≡ Some outcome → IsToldOf list answers place outcome

-- they are those of all
pub record AreToldOf (list : List One) (answers : List Answer) (outcomes : List Outcome) : Type 0 where
  pub count : length outcomes ≡ length answers
  pub each : AreSome list answers outcomes
