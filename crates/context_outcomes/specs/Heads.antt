-- The loops of a context, and what bounds the passes of their heads.
use Rattle.std.specs.Prelude.{◌≡◌, ℕ, List, Option, Some, None, nat_le, slice_get, length, if◌then◌else◌}
use Rattle.abs_state.specs.declared.head_bound.HeadBound.{HeadBound}
use Rattle.assert_bind.specs.Binding.{repeats}
use Rattle.bt_base.specs.Graph.{is_edge}
use Rattle.graph_view.specs.Numbers.{IsNumber}
use Rattle.loop_nest.specs.LoopNest.{IsLoopNest}
use Rattle.loop_nest.specs.declared.natural_loop.Loop.{Loop}
use Rattle.transfer_rules.specs.Give.{Facts}
use Rattle.wcet_report.specs.declared.context.Context.{Context}
use Rattle.wcet_report.specs.declared.loops.By.{By}
use Rattle.wcet_report.specs.declared.loops.By.TheVariants.{Counter, Asserted, Nothing}
use Rattle.wcet_report.specs.declared.loops.LoopOutcome.{LoopOutcome}
use Rattle.context_outcomes.specs.Counting.{IsCounterAt}
use Rattle.context_outcomes.specs.Inside.{Inside, Shape}
use Rattle.context_outcomes.specs.Setting.{Setting}

-- the loops of facts, where each is entered at one program point
abbrev pub AreLoops : {facts : Facts} {sub : ℕ} → Shape facts sub → List Loop → Type 0
AreLoops shape loops = IsLoopNest (is_edge shape.graph) shape.entry loops

-- the less of what counts and what is asserted; the counter where both are the same
abbrev pub by_less : HeadBound → ℕ → By
by_less counter count = if nat_le counter.passes count then Counter counter else Asserted count

abbrev pub by_of : Option HeadBound → Option ℕ → By
by_of None None = Nothing
by_of None (Some count) = Asserted count
by_of (Some counter) None = Counter counter
by_of (Some counter) (Some count) = by_less counter count

-- how often a head is passed at most, where that is known
abbrev pub passes_by : By → Option ℕ
passes_by (Counter counter) = Some counter.passes
passes_by (Asserted count) = Some count
passes_by Nothing = None

-- a loop of a context with what bounds it: the counter with the fewest passes, or what is asserted at its head's address
pub record IsLoopOutcome (S : Setting) {sub : ℕ} {context : Context} (within : Inside S sub context) (loops : List Loop) (one : Loop) (outcome : LoopOutcome) : Type 0 where
  pub head : IsNumber within.shape.nodes outcome.head one.head
  pub counter : Option HeadBound
  pub counts : IsCounterAt S within loops one.head counter
  pub by : outcome.by ≡ by_of counter (repeats S.binding outcome.head.pc)

-- the loops of a context with what bounds each, in their order
pub record AreLoopOutcomes (S : Setting) {sub : ℕ} {context : Context} (within : Inside S sub context) (loops : List Loop) (outcomes : List LoopOutcome) : Type 0 where
  pub count : length outcomes ≡ length loops
  pub each : (k : ℕ) (one : Loop) (outcome : LoopOutcome) → slice_get loops k ≡ Some one → slice_get outcomes k ≡ Some outcome
      → IsLoopOutcome S within loops one outcome

-- the bounds of heads, one for each loop in their order
pub record AreHeadBounds (outcomes : List LoopOutcome) (bounds : List ℕ) : Type 0 where
  pub count : length bounds ≡ length outcomes
  pub each : (k bound : ℕ) (outcome : LoopOutcome) → slice_get outcomes k ≡ Some outcome → slice_get bounds k ≡ Some bound → passes_by outcome.by ≡ Some bound
