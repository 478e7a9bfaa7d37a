-- Contexts from within, and to which contexts their calls lead.
use Rattle.std.specs.Prelude.{◌≡◌, ℕ, ◌≤◌, List, length, slice_get, Option, Some, None}
use Rattle.abs_state.specs.Key.{compare}
use Rattle.abs_state.specs.declared.key.Place.{Place}
use Rattle.context_order.specs.declared.opened.Opened.{Opened}
use Rattle.context_inside.specs.Within.{IsWithin}
use Rattle.context_inside.specs.declared.within.Within.{Within}
use Rattle.context_list.specs.Numbered.{One}
use Rattle.context_outcomes.specs.Arguments.{AreArgumentsOf}
use Rattle.context_outcomes.specs.Calls.{IsEntering}
use Rattle.context_outcomes.specs.Outcomes.{LeadsTo}
use Rattle.context_outcomes.specs.Setting.{Setting}
use Rattle.flow_system.specs.Facts.{fact_at}
use Rattle.transfer_rules.specs.Give.{Facts}
use Rattle.value_lattice.specs.declared.value.Value.{Value}
use Rattle.wcet_report.specs.declared.context.Context.{Context}

-- facts and a graph are those of a context
pub record IsOpenedIn (S : Setting) (sub : ℕ) (context : Context) (w : Within) : Type 0 where
  pub args : List Value
  pub arguments : AreArgumentsOf S sub context args
  pub is : IsWithin S sub args w

-- the call of a program point leads to the context with this number in a list
pub record IsLinked (S : Setting) (list : List One) (sub : ℕ) (facts : Facts) (p : Place) (number : ℕ) : Type 0 where
  pub target : ℕ
  pub enters : IsEntering S sub facts p target
  pub context : Context
  pub leads : LeadsTo S facts p target context
  pub at : slice_get list number ≡ Some (target, context)

-- it does, or there is no call that is followed into a context
abbrev pub IsLink : Setting → List One → ℕ → Facts → Place → Option ℕ → Type 0
IsLink S list sub facts p None = (t : ℕ) → IsEntering S sub facts p t → ⊥
IsLink S list sub facts p (Some number) = IsLinked S list sub facts p number

-- so it is for the first program points of some
pub record AreLinks (S : Setting) (list : List One) (sub : ℕ) (facts : Facts) (nodes : List Place) (many : ℕ) (links : List (Option ℕ)) : Type 0 where
  pub count : length links ≡ many
  pub each : (n : ℕ) (p : Place) (link : Option ℕ) → slice_get nodes n ≡ Some p → slice_get links n ≡ Some link → IsLink S list sub facts p link

-- a context from within, and where in a list its calls lead
pub record IsOpened (S : Setting) (list : List One) (one : One) (o : Opened) : Type 0 where
  pub inside : IsOpenedIn S one.0 one.1 o.within
  pub links : AreLinks S list one.0 (fact_at compare o.within.facts) o.within.nodes.items (length o.within.nodes.items) o.links.items

-- so it is for the first contexts of the list
pub record AreOpened (S : Setting) (list : List One) (opened : List Opened) : Type 0 where
  pub low : length opened ≤ length list
  pub each : (n : ℕ) (one : One) (o : Opened) → slice_get list n ≡ Some one → slice_get opened n ≡ Some o → IsOpened S list one o
