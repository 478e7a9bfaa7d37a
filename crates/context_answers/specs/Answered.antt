-- What one context comes to, by the bounds of the contexts to which its calls lead.
use Rattle.std.specs.Prelude.{ℕ, ◌↔◌, List, Contains}
use Rattle.std.specs.List.Sorted.{IsStrictlySortedBy}
use Rattle.context_inside.specs.Within.{IsWithin}
use Rattle.context_inside.specs.declared.within.Within.{Within}
use Rattle.context_outcomes.specs.Bounding.{IsBoundWith, IsReason}
use Rattle.context_outcomes.specs.Inside.{Inside}
use Rattle.context_outcomes.specs.Outcomes.{AreTold, reason_cmp}
use Rattle.context_outcomes.specs.Setting.{Setting}
use Rattle.context_outcomes.specs.Spending.{Callees}
use Rattle.value_lattice.specs.declared.value.Value.{Value}
use Rattle.wcet_report.specs.declared.context.Context.{Context}
use Rattle.wcet_report.specs.declared.reason.Reason.{Reason}
use Rattle.context_answers.specs.declared.answer.Answer.{Answer}

-- facts and a graph are those of a subprogram's context with some arguments
pub record IsOpened (S : Setting) (sub : ℕ) (w : Within) : Type 0 where
  pub args : List Value
  pub is : IsWithin S sub args w

-- What a context comes to: its loops, all reasons against a bound, each once in their order, and its bound.
pub record IsAnswer (S : Setting) {sub : ℕ} {context : Context} (within : Inside S sub context) (callees : Callees) (answer : Answer) : Type 0 where
  pub loops : AreTold S within answer.loops
  pub rising : IsStrictlySortedBy reason_cmp answer.reasons
  pub reasons : (one : Reason) → Contains answer.reasons one ↔ IsReason S within callees one
  pub bound : IsBoundWith S within callees answer.bound
