-- Needed contexts as they are found.
use Rattle.std.specs.Prelude.{◌≡◌, ℕ, suc, ◌<◌, ◌≤◌, List, Contains, length, slice_get, Some}
use Rattle.abs_state.specs.declared.key.Place.{Place}
use Rattle.assert_bind.specs.Binding.{roots}
use Rattle.context_order.specs.Opened.{AreOpened}
use Rattle.context_order.specs.declared.opened.Opened.{Opened}
use Rattle.callee_context.specs.declared.refusal.ContextRefusal.{ContextRefusal}
use Rattle.callee_context.specs.declared.refusal.ContextRefusal.TheVariants as refusal
use Rattle.context_list.specs.Numbered.{One}
use Rattle.context_outcomes.specs.Arguments.{any_arguments}
use Rattle.context_outcomes.specs.Calls.{IsEntering}
use Rattle.context_outcomes.specs.Inside.{Inside}
use Rattle.context_outcomes.specs.Outcomes.{IsChosen, IsNeeded, LeadsTo}
use Rattle.context_outcomes.specs.Refusals.{AreNeeded, most_contexts}
use Rattle.context_outcomes.specs.Setting.{Setting}
use Rattle.wcet_report.specs.declared.context.Context.{Context}

-- A list of different needed contexts, by subprogram: it has those of the roots, and those to which the followed calls of its
-- first contexts lead.
pub record IsWorklist (S : Setting) (list : List One) (done : ℕ) : Type 0 where
  pub low : done ≤ length list
  pub needed : (one : One) → Contains list one → IsNeeded S one.0 one.1
  pub different : (j k : ℕ) (one : One) → slice_get list j ≡ Some one → slice_get list k ≡ Some one → j ≡ k
  pub begun : (root : ℕ) (context : Context) → Contains (roots S.binding) root → IsChosen S root any_arguments context → Contains list (root, context)
  pub called : (k sub t : ℕ) (context next : Context) (p : Place) → k < done → slice_get list k ≡ Some (sub, context) → (within : Inside S sub context)
      → IsEntering S sub within.facts p t → LeadsTo S within.facts p t next → Contains list (t, next)

-- where all of its contexts are gone through it has all that are needed
abbrev pub NeededAreListed : Type 0
NeededAreListed = (S : Setting) (list : List One) → IsWorklist S list (length list) → (sub : ℕ) (context : Context) → IsNeeded S sub context
    → Contains list (sub, context)

-- a list of different needed contexts, no more than can be told
pub record AreFound (S : Setting) (list : List One) : Type 0 where
  pub needed : (one : One) → Contains list one → IsNeeded S one.0 one.1
  pub different : (j k : ℕ) (one : One) → slice_get list j ≡ Some one → slice_get list k ≡ Some one → j ≡ k
  pub few : length list ≤ most_contexts

-- a list grows to another by such contexts, and each keeps its number
pub record GrowsTo (S : Setting) (old new : List One) : Type 0 where
  pub found : AreFound S new
  pub kept : (n : ℕ) (one : One) → slice_get old n ≡ Some one → slice_get new n ≡ Some one
  pub longer : length old ≤ length new

-- the context of a root stands in a list
pub record IsBegun (S : Setting) (list : List One) (root : ℕ) : Type 0 where
  pub context : Context
  pub chosen : IsChosen S root any_arguments context
  pub number : ℕ
  pub at : slice_get list number ≡ Some (root, context)

-- a list of different needed contexts has those of all roots, all are gone through, and it has all to which their calls lead
pub record AreAll (S : Setting) (list : List One) (all : List Opened) : Type 0 where
  pub found : AreFound S list
  pub begun : (root : ℕ) → Contains (roots S.binding) root → IsBegun S list root
  pub opened : AreOpened S list all
  pub count : length all ≡ length list

-- why a list doesn't grow: all that can be told stand there, and one more is needed
abbrev pub IsOverfull : Setting → ContextRefusal → Type 0
IsOverfull S (refusal.Unmatched line) = ⊥
IsOverfull S (refusal.TooMany number) = (number ≡ suc most_contexts) × AreNeeded S number
IsOverfull S refusal.Want = Unit {0}
