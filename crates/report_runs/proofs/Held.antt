-- The outcomes of a program hold of its runs.
use Rattle.std.proofs.Common.{ℕ, ◌≤◌, List, length, arith}
use Rattle.closed_steps.proofs.Following.{runs_follow_closed_states}
use Rattle.context_outcomes.specs.Setting.{Setting, facts_in}
use Rattle.context_runs.specs.Contexts.{facts_of}
use Rattle.context_steps.proofs.Contexts.{contexts_follow_runs}
use Rattle.counted_runs.specs.Asserted.{heads_of}
use Rattle.outcome_runs.proofs.Contextual.{outcomes_are_contexts}
use Rattle.outcome_runs.proofs.Spending.{runs_spend_outcomes}
use Rattle.outcome_runs.proofs.Telling.{outcomes_are_told}
use Rattle.outcome_runs.specs.Family.{address_of, contexts_of}
use Rattle.outcome_runs.specs.Told.{IsKnown, Told}
use Rattle.report_runs.proofs.Bounded.{spends_at_most}
use Rattle.report_runs.specs.Laws.{OutcomesHoldOfRuns}
use Rattle.report_runs.specs.Runs.{AreFollowed, IsRunIn, MeetsNoGap}
use Rattle.sparc_machine.specs.declared.machine.Machine.{Machine}
use Rattle.stack_laws.proofs.Runs.{runs_followed}
use Rattle.wcet_report.specs.declared.outcome.Outcome.{Outcome}

-- what meets no gap before a place meets none before an earlier one
earlier : (S : Setting) (first : Machine) (rest : List Machine) (last place : ℕ) → place ≤ last → MeetsNoGap S first rest last → MeetsNoGap S first rest place
earlier S first rest last place low before i less top below are plain = before i (omega (arith, low, less)) top below are plain

module _ (S : Setting) (list : List Outcome) (told : Told S list) (is : IsKnown S) where
  are_followed : (root : ℕ) (first : Machine) (rest : List Machine) (last : ℕ) → IsRunIn told root first rest → last ≤ length rest
      → MeetsNoGap S first rest last → AreFollowed told first rest last
  are_followed root first rest last run within before =
      let by_graph =
      runs_follow_closed_states S.thresholds S.image S.costs S.binding S.eight (facts_in S) (heads_of (contexts_of told) (address_of told)) root first rest is.bound is.thresholds
      is.due.closed run in
      let asked =
      contexts_follow_runs S.thresholds S.image S.costs S.binding S.eight (facts_in S) (contexts_of told) (heads_of (contexts_of told) (address_of told)) root first rest
      is.bound is.thresholds is.due.closed (outcomes_are_contexts S list told is) run in
      let by_contexts = runs_followed S.image S.costs S.binding (facts_of (contexts_of told) (facts_in S)) (facts_in S) root first rest asked in
      record {
        window = by_graph.0;
        graph = λ place low. by_graph.1 place (omega (arith, low, within)) (earlier S first rest last place low before);
        invalid = by_contexts.0;
        contexts = λ place low. by_contexts.1 place (omega (arith, low, within)) (earlier S first rest last place low before);
        keeps = λ place low. (runs_spend_outcomes S list told is root first rest last run within before place low).0;
        pops = λ place less. (runs_spend_outcomes S list told is root first rest last run within before place (omega (arith, less))).1 less;
      }

pub outcomes_hold_of_runs : OutcomesHoldOfRuns
outcomes_hold_of_runs S outcomes is are = record {
  told = outcomes_are_told S outcomes are;
  followed = λ t root first rest last run within before. are_followed S outcomes.list t is root first rest last run within before;
  bounded = λ t root bound first rest among shown run. spends_at_most S outcomes are t is root bound first rest among shown run;
}
