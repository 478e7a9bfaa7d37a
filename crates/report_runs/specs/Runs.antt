-- What the outcomes of a program say of its runs.
use Rattle.std.specs.Prelude.{◌≡◌, ◌≢◌, ℕ, suc, ◌+◌, ◌<◌, ◌≤◌, List, [], ◌∷◌, length, Some, Contains}
use Rattle.closed_steps.specs.Runs.{IsRun}
use Rattle.context_outcomes.specs.Setting.{Setting, facts_in}
use Rattle.context_runs.specs.Contexts.{facts_of}
use Rattle.context_runs.specs.Joined.{KeepsContexts, PoppedSpent}
use Rattle.counted_runs.specs.Asserted.{heads_of}
use Rattle.outcome_runs.specs.Family.{address_of, contexts_of}
use Rattle.outcome_runs.specs.Told.{Told}
use Rattle.sparc_machine.specs.Frame.{Returns, due_at, frames_at, machine_at, root_frame}
use Rattle.sparc_machine.specs.declared.machine.Machine.{Machine}
use Rattle.stack_laws.specs.Followed.{IsBeforeGaps, IsFollowedAt}
use Rattle.stack_laws.specs.StepFacts.{ArePlain}
use Rattle.wcet_report.specs.Report.{root_bound}
use Rattle.wcet_report.specs.declared.outcome.Outcome.{Outcome}
use Rattle.wcet_report.specs.declared.outcome.Outcomes.{Outcomes}

-- A run of the machine from a root, without traps, that meets all assertions. What a `loop` line says is said of the loops of
-- the contexts in which the run's frames stand.
abbrev pub IsRunIn : {S : Setting} {list : List Outcome} → Told S list → ℕ → Machine → List Machine → Type 0
IsRunIn {S} told root first rest = IsRun S.image S.costs S.binding (heads_of (contexts_of told) (address_of told)) root first rest

-- no machine of a run before a place stands at a gap
abbrev pub MeetsNoGap : Setting → Machine → List Machine → ℕ → Type 0
MeetsNoGap S first rest place = IsBeforeGaps S.image S.binding (facts_in S) first rest place

-- Up to a place a run is followed: by the due graph, and by the graph of each frame's context, whose heads are passed at most
-- as often as their bounds say; and no frame spends more than the bound of its context, at no machine and at no pop.
pub record AreFollowed {S : Setting} {list : List Outcome} (told : Told S list) (first : Machine) (rest : List Machine) (last : ℕ) : Type 0 where
  pub window : ℕ
  pub graph : (place : ℕ) → place ≤ last → IsFollowedAt S.image S.binding (λ stack. facts_in S) (facts_in S) window first rest place
  pub invalid : ℕ
  pub contexts : (place : ℕ) → place ≤ last
      → IsFollowedAt S.image S.binding (facts_of (contexts_of told) (facts_in S)) (facts_in S) invalid first rest place
  pub keeps : (place : ℕ) → place ≤ last → KeepsContexts (contexts_of told) S.image S.costs S.binding first rest place
  pub pops : (place : ℕ) → place < last → PoppedSpent (contexts_of told) S.image first rest place

-- A run spends at most so many cycles from its first machine on: none of its machines stands at a gap, the last one neither;
-- at each machine without a stub's frame, as long as the root's frame is there, and at the pop of the root's frame, no more
-- cycles have passed.
pub record SpendsAtMost (S : Setting) (first : Machine) (rest : List Machine) (bound : ℕ) : Type 0 where
  pub no_gap : MeetsNoGap S first rest (suc (length rest))
  pub spends : (place : ℕ) → place ≤ length rest → frames_at S.image first rest place ≢ [] → ArePlain S.binding (frames_at S.image first rest place)
      → (machine_at S.image first rest place).cycles ≤ first.cycles + bound
  pub pops : (place : ℕ) → place < length rest → due_at S.image first rest place ≡ Returns
      → frames_at S.image first rest place ≡ root_frame first ∷ []
      → (machine_at S.image first rest (suc place)).cycles ≤ first.cycles + bound

-- What outcomes say of runs. Each run that meets the assertions is followed up to its first gap. From a root that the report
-- shows with a bound each such run meets no gap and spends at most the bound.
pub record HoldOfRuns (S : Setting) (outcomes : Outcomes) : Type 0 where
  pub told : Told S outcomes.list
  pub followed : (t : Told S outcomes.list) (root : ℕ) (first : Machine) (rest : List Machine) (last : ℕ) → IsRunIn t root first rest
      → last ≤ length rest → MeetsNoGap S first rest last → AreFollowed t first rest last
  pub bounded : (t : Told S outcomes.list) (root bound : ℕ) (first : Machine) (rest : List Machine) → Contains outcomes.roots root
      → root_bound outcomes.list root ≡ Some bound → IsRunIn t root first rest → SpendsAtMost S first rest bound
