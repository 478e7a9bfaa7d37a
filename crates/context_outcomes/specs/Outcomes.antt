-- Which contexts are needed, and what each of them comes to.
use Rattle.std.specs.Prelude.{◌≡◌, ℕ, ◌⊎◌, ◌↔◌, List, [], Contains, slice_get, Option, Some}
use Rattle.std.specs.List.Sorted.{IsStrictlySortedBy}
use Rattle.std.specs.declared.cmp.Ordering.{Ordering}
use Rattle.abs_state.specs.declared.key.Key.TheVariants as key
use Rattle.abs_state.specs.declared.key.Place.{Place}
use Rattle.assert_bind.specs.Binding.{roots}
use Rattle.loop_nest.specs.declared.natural_loop.Loop.{Loop}
use Rattle.transfer_rules.specs.Give.{Facts}
use Rattle.transfer_rules.specs.declared.fact.Fact.TheVariants as fact
use Rattle.value_lattice.specs.declared.value.Value.{Value}
use Rattle.wcet_report.specs.contracts.reason.ReasonOrd.TheImpl as reason_ord
use Rattle.wcet_report.specs.declared.context.Context.{Context}
use Rattle.wcet_report.specs.declared.context.Context.TheVariants.{Plain, With}
use Rattle.wcet_report.specs.declared.loops.LoopOutcome.{LoopOutcome}
use Rattle.wcet_report.specs.declared.outcome.Outcome.{Outcome}
use Rattle.wcet_report.specs.declared.outcome.Outcomes.{Outcomes}
use Rattle.wcet_report.specs.declared.reason.Reason.{Reason}
use Rattle.context_outcomes.specs.Arguments.{any_arguments}
use Rattle.context_outcomes.specs.Bounding.{IsBoundWith, IsReason}
use Rattle.context_outcomes.specs.Calls.{IsEntering}
use Rattle.context_outcomes.specs.Heads.{AreLoopOutcomes, AreLoops}
use Rattle.context_outcomes.specs.Inside.{Inside}
use Rattle.context_outcomes.specs.Setting.{Setting}
use Rattle.context_outcomes.specs.Spending.{Callees}

-- A subprogram is plain, with a bound: there is no reason against a bound of its plain context, and all that this calls but
-- stubs is plain.
pub data HasPlainBound (S : Setting) : ℕ → ℕ → Type 0 where
  plain : {sub bound : ℕ} (within : Inside S sub Plain) (bounds : Place → ℕ)
      → ((p : Place) (t : ℕ) → IsEntering S sub within.facts p t → HasPlainBound S t (bounds p))
      → IsBoundWith S within (λ p. Some (bounds p)) (Some bound) → HasPlainBound S sub bound

pub record IsPlain (S : Setting) (sub : ℕ) : Type 0 where
  pub bound : ℕ
  pub is : HasPlainBound S sub bound

-- the context of a subprogram that is called with these arguments, or is a root: plain where the subprogram is, else with them
abbrev pub IsChosen : Setting → ℕ → List Value → Context → Type 0
IsChosen S sub args Plain = IsPlain S sub
IsChosen S sub args (With list) = (IsPlain S sub → ⊥) × (list ≡ args)

-- the context to which a call leads, by the arguments that the facts give it
pub record LeadsTo (S : Setting) (facts : Facts) (p : Place) (target : ℕ) (context : Context) : Type 0 where
  pub given : List Value
  pub there : facts (key.Call p target) ≡ Some (fact.Args given)
  pub chosen : IsChosen S target given context

-- A context has a bound, or none: each followed call leads to a context that has one, or none, and by these it is so.
pub data HasBound (S : Setting) : ℕ → Context → Option ℕ → Type 0 where
  bounded : {sub : ℕ} {context : Context} {most : Option ℕ} (within : Inside S sub context) (callees : Callees) (next : Place → Context)
      → ((p : Place) (t : ℕ) → IsEntering S sub within.facts p t → LeadsTo S within.facts p t (next p))
      → ((p : Place) (t : ℕ) → IsEntering S sub within.facts p t → HasBound S t (next p) (callees p))
      → IsBoundWith S within callees most → HasBound S sub context most

-- The contexts that are needed: those of the roots, and those of the followed calls of needed ones.
pub data IsNeeded (S : Setting) : ℕ → Context → Type 0 where
  root : {sub : ℕ} {context : Context} → Contains (roots S.binding) sub → IsChosen S sub any_arguments context → IsNeeded S sub context
  called : {sub t : ℕ} {context next : Context} {p : Place} → IsNeeded S sub context → (within : Inside S sub context)
      → IsEntering S sub within.facts p t → LeadsTo S within.facts p t next → IsNeeded S t next

-- the loops of a context are told with what bounds them; none where a part of its graph is entered at two program points
abbrev pub AreTold : {sub : ℕ} {context : Context} (S : Setting) → Inside S sub context → List LoopOutcome → Type 0
AreTold S within outcomes =
    ((loops : List Loop) × AreLoops within.shape loops × AreLoopOutcomes S within loops outcomes)
    ⊎ (((loops : List Loop) → AreLoops within.shape loops → ⊥) × (outcomes ≡ []))

-- how two reasons compare
abbrev pub reason_cmp : Reason → Reason → Ordering
reason_cmp = (reason_ord.ghosts).cmp

-- What a context comes to: its loops, all reasons against a bound, each once in their order, and its bound.
pub record IsOutcome (S : Setting) (outcome : Outcome) : Type 0 where
  pub within : Inside S outcome.sub outcome.context
  pub callees : Callees
  pub next : Place → Context
  pub leads : (p : Place) (t : ℕ) → IsEntering S outcome.sub within.facts p t → LeadsTo S within.facts p t (next p)
  pub bounds : (p : Place) (t : ℕ) → IsEntering S outcome.sub within.facts p t → HasBound S t (next p) (callees p)
  pub loops : AreTold S within outcome.loops
  pub rising : IsStrictlySortedBy reason_cmp outcome.reasons
  pub reasons : (one : Reason) → Contains outcome.reasons one ↔ IsReason S within callees one
  pub bound : IsBoundWith S within callees outcome.bound

-- an outcome is that of a context
pub record IsOf (sub : ℕ) (context : Context) (outcome : Outcome) : Type 0 where
  pub of : outcome.sub ≡ sub
  pub in_context : outcome.context ≡ context

-- a list has an outcome of a context
pub record HasOutcome (list : List Outcome) (sub : ℕ) (context : Context) : Type 0 where
  pub outcome : Outcome
  pub among : Contains list outcome
  pub is : IsOf sub context outcome

-- An outcome by those of a list: the bounds by which it is are those that the list has for the contexts to which its calls lead.
pub record IsOutcomeIn (S : Setting) (list : List Outcome) (outcome : Outcome) : Type 0 where
  pub is : IsOutcome S outcome
  pub agree : (p : Place) (t : ℕ) (callee : Outcome) → IsEntering S outcome.sub is.within.facts p t → Contains list callee → IsOf t (is.next p) callee
      → is.callees p ≡ callee.bound

-- What the contexts of a program come to: the roots in the order of the assertions, each with its context, and one outcome of
-- each context that is needed, and of no other.
pub record AreOutcomes (S : Setting) (outcomes : Outcomes) : Type 0 where
  pub entries : outcomes.roots ≡ roots S.binding
  pub begun : (root : ℕ) → Contains (roots S.binding) root → (context : Context) × IsChosen S root any_arguments context
  pub each : (one : Outcome) → Contains outcomes.list one → IsNeeded S one.sub one.context × IsOutcomeIn S outcomes.list one
  pub all : (sub : ℕ) (context : Context) → IsNeeded S sub context → HasOutcome outcomes.list sub context
  pub once : (j k : ℕ) (one two : Outcome) → slice_get outcomes.list j ≡ Some one → slice_get outcomes.list k ≡ Some two
      → one.sub ≡ two.sub → one.context ≡ two.context → j ≡ k
