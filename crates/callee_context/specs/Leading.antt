-- A needed context whose calls are looked at.
use Rattle.std.specs.Prelude.{ℕ}
use Rattle.abs_state.specs.declared.key.Key.TheVariants as key
use Rattle.abs_state.specs.declared.key.Place.{Place}
use Rattle.context_order.specs.Opened.{IsOpenedIn}
use Rattle.context_inside.specs.declared.within.Within.{Within}
use Rattle.context_outcomes.specs.Outcomes.{IsNeeded}
use Rattle.context_outcomes.specs.Setting.{Setting}
use Rattle.plain_parts.specs.Joined.{HasArguments}
use Rattle.transfer_rules.specs.Give.{Facts}
use Rattle.wcet_report.specs.declared.context.Context.{Context}

-- facts and a graph are those of a needed context
pub record IsCaller (S : Setting) (sub : ℕ) (w : Within) : Type 0 where
  pub context : Context
  pub needed : IsNeeded S sub context
  pub inside : IsOpenedIn S sub context w

-- facts have a call at a program point, with arguments
abbrev pub IsGivenTo : Facts → Place → ℕ → Type 0
IsGivenTo facts p target = HasArguments (facts (key.Call p target))
