-- A program, that is an image, the costs of a table of cycles and assertions: when it is refused though each of its files is
-- accepted, and what is written of it.
use Rattle.std.specs.Prelude.{◌≡◌, ℕ, ◌≤◌, ◌&&◌, Bool, true, List, [], ◌∷◌, length, is_some}
use Rattle.std.specs.Map.{keys_of}
use Rattle.abs_state.specs.Key.{compare}
use Rattle.abs_state.specs.declared.key.Key.{Key}
use Rattle.assert_bind.specs.declared.body.BoundAssertion.{BoundAssertion}
use Rattle.bound_task.specs.Graph.{IsGraphOf, IsTooBigFor}
use Rattle.bound_task.specs.Outcomes.{AreOutcomesOf, AreTooManyFor, HoldOfRunsOf, IsFirstUnmatchedOf}
use Rattle.bound_task.specs.Returning.{returning_in}
use Rattle.bound_task.specs.declared.refusal.TaskRefusal.{TaskRefusal}
use Rattle.bound_task.specs.declared.refusal.TaskRefusal.TheVariants as refusal
use Rattle.closed_steps.specs.Runs.{IsRun}
use Rattle.flow_system.specs.Facts.{fact_at}
use Rattle.graph_text.specs.Text.{IsGraphText}
use Rattle.sparc_machine.specs.declared.machine.Machine.{Machine}
use Rattle.sparc_runs.specs.Meets.{Heads}
use Rattle.stack_laws.specs.Followed.{IsBeforeGaps, IsFollowedAt}
use Rattle.transfer_rules.specs.declared.fact.Fact.{Fact}
use Rattle.wcet_report.specs.Report.{IsReport, root_bound}
use Rattle.wcet_report.specs.declared.outcome.Outcome.{Outcome}
use Rattle.wcet_report.specs.declared.outcome.Outcomes.{Outcomes}
use Rattle.bt_command.specs.declared.status.AssertFault.TheVariants.{Unmatched}
use Rattle.bt_command.specs.declared.status.LimitFault.TheVariants.{Nodes, Contexts}
use Rattle.bt_command.specs.declared.status.Status.{Status}
use Rattle.bt_command.specs.declared.status.Status.TheVariants.{Assertions, Limit, Want}

-- Why a program is refused: its due graph has too many program points, an asserted loop is matched by none of that graph, or too
-- many contexts are needed. Want of memory is free.
abbrev pub RefusesProgram : List ℕ → List ℕ → List BoundAssertion → Status → Type 0
RefusesProgram image costs those (Limit (Nodes count)) = (count ≡ 131073) × IsTooBigFor image costs those
RefusesProgram image costs those (Assertions (Unmatched line)) = IsFirstUnmatchedOf image costs those line
RefusesProgram image costs those (Limit (Contexts count)) = (count ≡ 4097) × AreTooManyFor image costs those count
RefusesProgram image costs those Want = Unit {0}
RefusesProgram image costs those _ = ⊥

-- the status of what an analysis refuses
abbrev pub status_of : TaskRefusal → Status
status_of (refusal.Nodes count) = Limit (Nodes count)
status_of (refusal.Unmatched line) = Assertions (Unmatched line)
status_of (refusal.Contexts count) = Limit (Contexts count)
status_of refusal.Want = Want

-- none of these causes is there
pub record IsWithinLimits (image costs : List ℕ) (those : List BoundAssertion) : Type 0 where
  pub nodes : IsTooBigFor image costs those → ⊥
  pub loops : (line : ℕ) → IsFirstUnmatchedOf image costs those line → ⊥
  pub contexts : (count : ℕ) → AreTooManyFor image costs those count → ⊥

-- whether each of these roots has a bound by the outcomes of a list
abbrev pub have_bounds : List Outcome → List ℕ → Bool
have_bounds list [] = true
have_bounds list (root ∷ rest) = is_some (root_bound list root) && have_bounds list rest

-- whether each root has a bound
abbrev pub all_bounded : Outcomes → Bool
all_bounded outcomes = have_bounds outcomes.list outcomes.roots

-- The text is the report of the outcomes of a program: of each context that its due graph shows to be needed, what it comes to.
-- Each root has a bound in it, or some root has none.
pub record IsReportOf (image costs : List ℕ) (those : List BoundAssertion) (bounded : Bool) (text : List ℕ) : Type 0 where
  pub outcomes : Outcomes
  pub are : AreOutcomesOf image costs those outcomes
  pub shown : IsReport image outcomes text
  pub roots : all_bounded outcomes ≡ bounded

-- The text is the report of the outcomes of a program, and what these say holds of all runs that meet the assertions.
pub record IsReportThatHolds (image costs : List ℕ) (those : List BoundAssertion) (text : List ℕ) : Type 0 where
  pub outcomes : Outcomes
  pub are : AreOutcomesOf image costs those outcomes
  pub shown : IsReport image outcomes text
  pub hold : HoldOfRunsOf image costs those outcomes

-- up to its first gap a run is followed by facts
pub record IsFollowedBy (image : List ℕ) (those : List BoundAssertion) (facts : List (Key × Fact)) (first : Machine) (rest : List Machine) : Type 0 where
  pub window : ℕ
  pub each : (place : ℕ) → place ≤ length rest → IsBeforeGaps image those (fact_at compare facts) first rest place
      → IsFollowedAt image those (λ stack. fact_at compare facts) (fact_at compare facts) window first rest place

-- The text is that of the due graph of a program, by which each run that meets the assertions is followed up to its first gap.
pub record IsGraphThatHolds (image costs : List ℕ) (those : List BoundAssertion) (text : List ℕ) : Type 0 where
  pub facts : List (Key × Fact)
  pub graph : IsGraphOf image costs those facts
  pub shown : IsGraphText image (keys_of facts) (returning_in facts) text
  pub follow : (heads : Heads) (root : ℕ) (first : Machine) (rest : List Machine) → IsRun image costs those heads root first rest
      → IsFollowedBy image those facts first rest
