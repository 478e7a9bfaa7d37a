-- Outcomes with all that shows that they are those of a program's contexts.
use Rattle.std.specs.Prelude.{◌≡◌, ◌↔◌, ℕ, Bool, true, false, List, Contains, map, slice_get, Option, Some, is_some}
use Rattle.abs_state.specs.declared.key.Place.{Place}
use Rattle.assert_bind.specs.Binding.{roots}
use Rattle.closed_steps.specs.Graph.{IsBound}
use Rattle.flow_system.specs.State.{IsDueGraph}
use Rattle.value_lattice.specs.Thresholds.{IsThresholds}
use Rattle.wcet_report.specs.declared.outcome.Outcome.{Outcome}
use Rattle.context_outcomes.specs.Arguments.{any_arguments}
use Rattle.context_outcomes.specs.Calls.{AreCyclic, IsEntering}
use Rattle.context_outcomes.specs.Outcomes.{IsChosen, IsNeeded, IsOutcome}
use Rattle.context_outcomes.specs.Setting.{Setting, facts_in, rules_with}

-- the assertions are bound to the image, the thresholds are some, and the facts are the due ones
pub record IsKnown (S : Setting) : Type 0 where
  pub bound : IsBound S.image S.binding
  pub thresholds : IsThresholds S.thresholds
  pub due : IsDueGraph (rules_with S S.thresholds) (facts_in S)

-- an outcome with what shows that it is one of a context that is needed
pub record Entry (S : Setting) : Type 0 where
  pub outcome : Outcome
  pub needed : IsNeeded S outcome.sub outcome.context
  pub is : IsOutcome S outcome

abbrev pub outcome_of : {S : Setting} → Entry S → Outcome
outcome_of entry = entry.outcome

-- a call leads to the context at a place of the list, whose bound is the one that the caller's outcome counts with
pub record LeadsToEntry {S : Setting} (entries : List (Entry S)) (one : Entry S) (p : Place) (t d : ℕ) : Type 0 where
  pub entry : Entry S
  pub at : slice_get entries d ≡ Some entry
  pub sub : entry.outcome.sub ≡ t
  pub context : entry.outcome.context ≡ one.is.next p
  pub bound : one.is.callees p ≡ entry.outcome.bound

-- a root's context is at a place of the list
pub record IsRootAt {S : Setting} (entries : List (Entry S)) (root c : ℕ) : Type 0 where
  pub rooted : Contains (roots S.binding) root
  pub entry : Entry S
  pub at : slice_get entries c ≡ Some entry
  pub sub : entry.outcome.sub ≡ root
  pub chosen : IsChosen S root any_arguments entry.outcome.context

-- Outcomes with what shows them: which calls are inside call cycles, at which place of the list the context stands to which a
-- call leads, and at which that of each root.
pub record Told (S : Setting) (list : List Outcome) : Type 0 where
  pub cyclic : ℕ → ℕ → Bool
  pub decides : (sub target : ℕ) → (cyclic sub target ≡ true) ↔ AreCyclic S sub target
  pub entries : List (Entry S)
  pub are : map outcome_of entries ≡ list
  pub place : ℕ → Place → ℕ
  pub leads : (c : ℕ) (one : Entry S) (p : Place) (t : ℕ) → slice_get entries c ≡ Some one → IsEntering S one.outcome.sub one.is.within.facts p t
      → LeadsToEntry entries one p t (place c p)
  pub root : ℕ → Option ℕ
  pub begins : (r c : ℕ) → root r ≡ Some c → IsRootAt entries r c
  pub all : (r : ℕ) → Contains (roots S.binding) r → is_some (root r) ≡ true
