-- What is answered for the contexts of a problem's due graph is what its image, costs and assertions come to.
use Rattle.std.proofs.Common.{◌≡◌, ℕ, List, subst}
use Rattle.abs_state.specs.declared.key.Key.{Key}
use Rattle.assert_bind.specs.declared.body.BoundAssertion.{BoundAssertion}
use Rattle.callee_context.specs.Answered.{AreAnswered, AreTooMany}
use Rattle.closed_steps.specs.Graph.{IsBound}
use Rattle.context_bounds.specs.Setting.{setting_of}
use Rattle.context_outcomes.specs.Refusals.{IsFirstUnmatched}
use Rattle.context_outcomes.specs.Setting.{Setting}
use Rattle.outcome_runs.specs.Told.{IsKnown}
use Rattle.report_runs.proofs.Held.{outcomes_hold_of_runs}
use Rattle.transfer_rules.specs.declared.fact.Fact.{Fact}
use Rattle.wcet_report.specs.declared.outcome.Outcomes.{Outcomes}
use Rattle.bound_task.proofs.OneGraph.{one_threshold_list}
use Rattle.bound_task.specs.Graph.{IsGraphOf}
use Rattle.bound_task.specs.Laws.{OutcomesHoldOfRuns}
use Rattle.bound_task.specs.Outcomes.{AreOutcomesOf, AreTooManyFor, HoldOfRunsOf, IsFirstUnmatchedOf, setting_by}
use Rattle.bound_task.specs.Problem.{IsProblemOf}
use Rattle.bound_task.specs.declared.problem.Problem.{Problem}

-- the facts of a due graph are the due ones of a program whose assertions are bound to it
pub known_by : (image costs : List ℕ) (those : List BoundAssertion) (facts : List (Key × Fact)) → IsBound image those
    → (graph : IsGraphOf image costs those facts) → IsKnown (setting_by graph)
known_by image costs those facts bound graph = record { bound = bound; thresholds = graph.lawful; due = graph.due }

-- the outcomes of a program hold of its runs
pub outcomes_hold : OutcomesHoldOfRuns
outcomes_hold image costs those outcomes bound o = record {
  facts = o.facts;
  graph = o.graph;
  hold = outcomes_hold_of_runs (setting_by o.graph) outcomes (known_by image costs those o.facts bound o.graph) o.are;
}

module _ (p : Problem) (image costs : List ℕ) (those : List BoundAssertion) (facts : List (Key × Fact)) (is : IsProblemOf image costs those p)
    (graph : IsGraphOf image costs those facts) where
  -- a problem's contexts are judged by its program and due graph
  one_setting : setting_of p.system p.cycles facts ≡ setting_by graph
  one_setting =
      let t : p.system.thresholds ≡ graph.thresholds =
      one_threshold_list image those p.system.thresholds graph.thresholds is.thresholds graph.are_thresholds in
      λ i. record {
        image = is.image_is i;
        binding = is.those_are i;
        costs = is.costs_are i;
        eight = is.eight_is i;
        thresholds = t i;
        pieces = facts;
      }

  pub outcomes_are : (outcomes : Outcomes) → AreAnswered (setting_of p.system p.cycles facts) outcomes → AreOutcomesOf image costs those outcomes
  outcomes_are outcomes answered =
      let a = subst (λ (S : Setting). AreAnswered S outcomes) one_setting answered in
      record { facts = facts; graph = graph; matched = a.matched; are = a.are; few = a.few }

  pub runs_are : (outcomes : Outcomes) → AreAnswered (setting_of p.system p.cycles facts) outcomes → HoldOfRunsOf image costs those outcomes
  runs_are outcomes answered = outcomes_hold image costs those outcomes is.bound (outcomes_are outcomes answered)

  pub unmatched_is : (line : ℕ) → IsFirstUnmatched (setting_of p.system p.cycles facts) line → IsFirstUnmatchedOf image costs those line
  unmatched_is line first =
      record { facts = facts; graph = graph; first = subst (λ (S : Setting). IsFirstUnmatched S line) one_setting first }

  pub too_many_are : (count : ℕ) → AreTooMany (setting_of p.system p.cycles facts) count → AreTooManyFor image costs those count
  too_many_are count many =
      let m = subst (λ (S : Setting). AreTooMany S count) one_setting many in
      record { facts = facts; graph = graph; matched = m.matched; count_is = m.is; needed = m.needed }
