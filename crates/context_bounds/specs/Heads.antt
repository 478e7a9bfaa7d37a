-- The loops of a context with what bounds them, by the parts from which they are worked out.
use Rattle.std.specs.Prelude.{◌≡◌, ℕ, List, length, slice_get, Option, Some}
use Rattle.abs_state.specs.State.{State}
use Rattle.abs_state.specs.declared.head_bound.HeadBound.{HeadBound}
use Rattle.abs_state.specs.declared.key.Place.{Place}
use Rattle.assert_bind.specs.Binding.{repeats}
use Rattle.assert_bind.specs.declared.body.BoundAssertion.{BoundAssertion}
use Rattle.bt_base.specs.Graph.{is_edge}
use Rattle.context_outcomes.specs.Counting.{IsCounterOf, changes_in}
use Rattle.context_outcomes.specs.Heads.{AreLoopOutcomes, by_of}
use Rattle.context_outcomes.specs.Inside.{Inside, state_at}
use Rattle.context_outcomes.specs.Setting.{Setting}
use Rattle.counter_bound.specs.declared.change.Change.{Change}
use Rattle.loop_nest.specs.declared.natural_loop.Loop.{Loop}
use Rattle.path_bound.specs.Places.{loops_in}
use Rattle.wcet_report.specs.declared.context.Context.{Context}
use Rattle.wcet_report.specs.declared.loops.LoopOutcome.{LoopOutcome}

-- a loop with what bounds it: the less of what counts at its head, by what is left of the state there, and what is asserted
pub record IsHeadOutcome (graph : List (List ℕ)) (nodes : List Place) (loops : List Loop) (changes : List Change) (left : Place → Option State)
    (binding : List BoundAssertion) (one : Loop) (outcome : LoopOutcome) : Type 0 where
  pub head : slice_get nodes one.head ≡ Some outcome.head
  pub counter : Option HeadBound
  pub counts : IsCounterOf (is_edge graph) (loops_in loops) one.head changes (left outcome.head) counter
  pub by : outcome.by ≡ by_of counter (repeats binding outcome.head.pc)

-- so are the first loops of a list
pub record AreHeadOutcomes (graph : List (List ℕ)) (nodes : List Place) (loops : List Loop) (changes : List Change) (left : Place → Option State)
    (binding : List BoundAssertion) (many : ℕ) (outcomes : List LoopOutcome) : Type 0 where
  pub count : length outcomes ≡ many
  pub each : (k : ℕ) (one : Loop) (outcome : LoopOutcome) → slice_get loops k ≡ Some one → slice_get outcomes k ≡ Some outcome
      → IsHeadOutcome graph nodes loops changes left binding one outcome

-- so they are the loops of the context with what bounds each
abbrev pub HeadsAreOutcomes : Type 0
HeadsAreOutcomes =
    (sub : ℕ) (context : Context) (S : Setting) (within : Inside S sub context) (loops : List Loop) (outcomes : List LoopOutcome)
    → AreHeadOutcomes within.shape.graph within.shape.nodes loops (changes_in S within) (state_at S within.args within.facts) S.binding (length loops) outcomes
    → AreLoopOutcomes S within loops outcomes
