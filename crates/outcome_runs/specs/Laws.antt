-- What outcomes say of runs.
use Rattle.std.specs.Prelude.{◌≡◌, ℕ, suc, ◌<◌, ◌≤◌, List, length, Some, is_some, true}
use Rattle.context_runs.specs.Contexts.{AreFilled}
use Rattle.context_runs.specs.Joined.{KeepsContexts, PoppedSpent}
use Rattle.context_steps.specs.Followed.{AreContexts}
use Rattle.closed_steps.specs.Runs.{IsRun}
use Rattle.counted_runs.specs.Asserted.{AreAsserted, heads_of}
use Rattle.counting_steps.specs.Changes.{AreChanges}
use Rattle.frame_laws.specs.Context.{IsSound}
use Rattle.sparc_machine.specs.declared.machine.Machine.{Machine}
use Rattle.stack_laws.specs.Followed.{IsBeforeGaps}
use Rattle.wcet_report.specs.declared.outcome.Outcome.{Outcome}
use Rattle.wcet_report.specs.declared.outcome.Outcomes.{Outcomes}
use Rattle.context_outcomes.specs.Outcomes.{AreOutcomes}
use Rattle.context_outcomes.specs.Setting.{Setting, facts_in}
use Rattle.outcome_runs.specs.Family.{address_of, contexts_of}
use Rattle.outcome_runs.specs.Told.{IsKnown, IsRootAt, Told}

-- outcomes of a program's contexts are told
abbrev pub OutcomesAreTold : Type 0
OutcomesAreTold = (S : Setting) (outcomes : Outcomes) → AreOutcomes S outcomes → Told S outcomes.list

-- the contexts of outcomes have their graphs filled in
abbrev pub OutcomesAreFilled : Type 0
OutcomesAreFilled = (S : Setting) (list : List Outcome) (told : Told S list) → IsKnown S → AreFilled S.image S.costs S.binding (contexts_of told)

-- their counters bound their heads, and their numbers of cycles are bounds
abbrev pub OutcomesAreSound : Type 0
OutcomesAreSound = (S : Setting) (list : List Outcome) (told : Told S list) → IsKnown S → IsSound (contexts_of told).family

-- their facts are those of contexts
abbrev pub OutcomesAreContexts : Type 0
OutcomesAreContexts =
    (S : Setting) (list : List Outcome) (told : Told S list) → IsKnown S
    → AreContexts S.image S.binding S.eight S.thresholds (facts_in S) (contexts_of told)

-- their counters count
pub record AreCounting (S : Setting) {list : List Outcome} (told : Told S list) : Type 0 where
  pub contexts : AreContexts S.image S.binding S.eight S.thresholds (facts_in S) (contexts_of told)
  pub changes : AreChanges S.image S.binding S.eight S.thresholds (facts_in S) (contexts_of told) contexts

abbrev pub OutcomesCount : Type 0
OutcomesCount = (S : Setting) (list : List Outcome) (told : Told S list) → IsKnown S → AreCounting S told

-- and the other bounds of their heads are asserted
abbrev pub OutcomesAreAsserted : Type 0
OutcomesAreAsserted = (S : Setting) (list : List Outcome) (told : Told S list) → AreAsserted S.binding (contexts_of told) (address_of told)

-- So each frame of a run from a root that meets the assertions walks the graph of its context keeping the bounds of its heads,
-- and has spent at most the bound that is told of it, at each place and at its pop, up to the first gap.
abbrev pub RunsSpendOutcomes : Type 0
RunsSpendOutcomes =
    (S : Setting) (list : List Outcome) (told : Told S list) → IsKnown S → (root : ℕ) (first : Machine) (rest : List Machine) (last : ℕ)
    → IsRun S.image S.costs S.binding (heads_of (contexts_of told) (address_of told)) root first rest
    → last ≤ length rest → IsBeforeGaps S.image S.binding (facts_in S) first rest last → (place : ℕ) → place ≤ last
    → KeepsContexts (contexts_of told) S.image S.costs S.binding first rest place
    × (place < last → PoppedSpent (contexts_of told) S.image first rest place)

-- a root's context has a bound
pub record HasBoundAt {S : Setting} {list : List Outcome} (told : Told S list) (root : ℕ) : Type 0 where
  pub place : ℕ
  pub at : told.root root ≡ Some place
  pub is : IsRootAt told.entries root place
  pub bounded : is_some is.entry.outcome.bound ≡ true

-- No machine of a run from a root whose context has a bound stands at a gap, the last one neither, so all of it is bounded.
abbrev pub BoundedRootsMeetNoGap : Type 0
BoundedRootsMeetNoGap =
    (S : Setting) (list : List Outcome) (told : Told S list) → IsKnown S → (root : ℕ) (first : Machine) (rest : List Machine)
    → IsRun S.image S.costs S.binding (heads_of (contexts_of told) (address_of told)) root first rest → HasBoundAt told root
    → IsBeforeGaps S.image S.binding (facts_in S) first rest (suc (length rest))

-- So each frame of the whole run has spent at most the bound that is told of its context, and so has the root's when it is popped.
abbrev pub BoundedRunsSpend : Type 0
BoundedRunsSpend =
    (S : Setting) (list : List Outcome) (told : Told S list) → IsKnown S → (root : ℕ) (first : Machine) (rest : List Machine)
    → IsRun S.image S.costs S.binding (heads_of (contexts_of told) (address_of told)) root first rest → HasBoundAt told root
    → (place : ℕ) → place ≤ length rest
    → KeepsContexts (contexts_of told) S.image S.costs S.binding first rest place
    × (place < length rest → PoppedSpent (contexts_of told) S.image first rest place)
