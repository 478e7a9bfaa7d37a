-- What is shown of a problem, and that it holds of the runs of its program.
use Rattle.std.proofs.Common.{◌≡◌, ℕ, Bool, List, subst, sym}
use Rattle.std.specs.Map.{keys_of}
use Rattle.abs_state.specs.declared.key.Key.{Key}
use Rattle.assert_bind.specs.declared.body.BoundAssertion.{BoundAssertion}
use Rattle.bound_task.specs.Graph.{IsGraphOf}
use Rattle.bound_task.specs.Outcomes.{AreOutcomesOf, HoldOfRunsOf}
use Rattle.bound_task.specs.Problem.{IsProblemOf}
use Rattle.bound_task.specs.Returning.{returning_in}
use Rattle.bound_task.specs.declared.problem.Problem.{Problem}
use Rattle.bt_base.specs.Sink.{Appended}
use Rattle.bt_command.specs.Bound.{BoundHolds, IsBoundText}
use Rattle.bt_command.specs.Call.{Call, Reading}
use Rattle.bt_command.specs.Files.{Names, IsProblemOfFiles}
use Rattle.bt_command.specs.Graph.{GraphHolds, IsGraph}
use Rattle.bt_command.specs.Program.{IsGraphThatHolds, IsReportOf, IsReportThatHolds, all_bounded}
use Rattle.closed_steps.specs.Graph.{IsBound}
use Rattle.graph_runs.specs.Law.{RunsFollowDueGraphs}
use Rattle.graph_text.specs.Text.{IsGraphText}
use Rattle.transfer_rules.specs.declared.fact.Fact.{Fact}
use Rattle.wcet_report.specs.Report.{IsReport}
use Rattle.wcet_report.specs.declared.outcome.Outcomes.{Outcomes}

-- the text of a due graph, written over the image that the problem has, is of a graph that holds of runs
pub graph_that_holds : (image costs : List ℕ) (those : List BoundAssertion) (facts : List (Key × Fact)) (text over : List ℕ) → RunsFollowDueGraphs
    → IsBound image those → IsGraphOf image costs those facts → IsGraphText over (keys_of facts) (returning_in facts) text → over ≡ image
    → IsGraphThatHolds image costs those text
graph_that_holds image costs those facts text over law bound graph is same = record {
  facts = facts;
  graph = graph;
  shown = subst (λ (i : List ℕ). IsGraphText i (keys_of facts) (returning_in facts) text) same is;
  follow = λ heads root first rest run.
      let followed = law image costs those facts heads root first rest bound graph run in
      record { window = followed.0; each = followed.1 };
}

module _ (image costs : List ℕ) (those : List BoundAssertion) (outcomes : Outcomes) (text over : List ℕ) (are : AreOutcomesOf image costs those outcomes)
    (is : IsReport over outcomes text) (same : over ≡ image) where
  -- the report of outcomes, written over the image that the problem has, is that of the program
  pub report_of_outcomes : (bounded : Bool) → bounded ≡ all_bounded outcomes → IsReportOf image costs those bounded text
  report_of_outcomes bounded all = record {
    outcomes = outcomes;
    are = are;
    shown = subst (λ (i : List ℕ). IsReport i outcomes text) same is;
    roots = sym all;
  }

  -- and it holds of runs where they do
  pub report_that_holds : HoldOfRunsOf image costs those outcomes → IsReportThatHolds image costs those text
  report_that_holds hold = record {
    outcomes = outcomes;
    are = are;
    shown = subst (λ (i : List ℕ). IsReport i outcomes text) same is;
    hold = hold;
  }

module _ (read : Reading) (names : Names) (p : Problem) (is : IsProblemOfFiles read names p) where
  -- the graph of the problem of the files is that of the command
  pub graph_shown : (text : List ℕ)
      → ((image costs : List ℕ) (those : List BoundAssertion) → IsProblemOf image costs those p → IsGraphThatHolds image costs those text)
      → IsGraph read names text
  graph_shown text h =
      let held = h is.image is.costs is.those is.problem in
      record {
        image = is.image;
        costs = is.costs;
        those = is.those;
        files = is.files;
        graph = record { facts = held.facts; graph = held.graph; is = held.shown };
      }

  -- and its report too
  pub report_shown : (bounded : Bool) (text : List ℕ)
      → ((image costs : List ℕ) (those : List BoundAssertion) → IsProblemOf image costs those p → IsReportOf image costs those bounded text)
      → IsBoundText read names bounded text
  report_shown bounded text h = record {
    image = is.image;
    costs = is.costs;
    those = is.those;
    files = is.files;
    report = h is.image is.costs is.those is.problem;
  }

-- a graph that holds and is written
pub graph_held : (names : Names) (call : Call) (p : Problem) (text : List ℕ) → IsProblemOfFiles call.read names p
    → ((image costs : List ℕ) (those : List BoundAssertion) → IsProblemOf image costs those p → IsGraphThatHolds image costs those text)
    → Appended call.written call.written_after text → GraphHolds names call
graph_held names call p text is h written = record {
  image = is.image;
  costs = is.costs;
  those = is.those;
  files = is.files;
  graph = record { text = text; is = h is.image is.costs is.those is.problem; written = written };
}

-- a report that holds and is written
pub report_held : (names : Names) (call : Call) (p : Problem) (text : List ℕ) → IsProblemOfFiles call.read names p
    → ((image costs : List ℕ) (those : List BoundAssertion) → IsProblemOf image costs those p → IsReportThatHolds image costs those text)
    → Appended call.written call.written_after text → BoundHolds names call
report_held names call p text is h written = record {
  image = is.image;
  costs = is.costs;
  those = is.those;
  files = is.files;
  report = record { text = text; is = h is.image is.costs is.those is.problem; written = written };
}
