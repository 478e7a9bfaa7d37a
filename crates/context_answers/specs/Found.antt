-- What is found of one context, by the parts from which it is worked out.
use Rattle.std.specs.Prelude.{◌≡◌, ◌⊎◌, ◌++◌, ◌<◌, ℕ, true, List, [], ◌∷◌, All, Contains, Option, Some, None, is_some, length, map, slice_get, unwrap_or, if◌then◌else◌}
use Rattle.std.specs.List.{flat_map}
use Rattle.abs_state.specs.Key.{compare}
use Rattle.abs_state.specs.State.{State}
use Rattle.abs_state.specs.declared.key.Place.{Place}
use Rattle.bt_base.specs.Graph.{is_edge}
use Rattle.context_answers.specs.Adding.{IsPutInOrder, loop_reasons}
use Rattle.context_answers.specs.declared.answer.Answer.{Answer}
use Rattle.context_bounds.specs.Extras.{cost_between}
use Rattle.context_bounds.specs.Heads.{AreHeadOutcomes}
use Rattle.context_bounds.specs.Nodes.{costs_at}
use Rattle.context_bounds.specs.States.{HasStateOver, left_at}
use Rattle.context_inside.specs.declared.within.Within.{Within}
use Rattle.context_outcomes.specs.Counting.{change_at}
use Rattle.context_outcomes.specs.Heads.{AreHeadBounds, passes_by}
use Rattle.context_outcomes.specs.Setting.{Setting}
use Rattle.context_outcomes.specs.Spending.{start_cost}
use Rattle.counter_bound.specs.declared.change.Change.{Change}
use Rattle.flow_system.specs.Facts.{fact_at}
use Rattle.graph_laws.specs.Nest.{IsReached}
use Rattle.loop_nest.specs.declared.natural_loop.Loop.{Loop}
use Rattle.path_bound.specs.LongWalk.{IsLongest, IsTooLarge}
use Rattle.path_bound.specs.Places.{extra_of}
use Rattle.path_bound.specs.declared.long_walk.LongWalk.{LongWalk}
use Rattle.path_bound.specs.declared.weights.Costs.{Costs as Weights}
use Rattle.wcet_report.specs.declared.loops.LoopOutcome.{LoopOutcome}
use Rattle.wcet_report.specs.declared.reason.Reason.{Reason}
use Rattle.wcet_report.specs.declared.reason.Reason.TheVariants as reason

-- a context's graph is that of its program points, all reached from its entry, and its states are over its thresholds
pub record IsReady (w : Within) : Type 0 where
  pub same : length w.nodes.items ≡ length w.graph
  pub begins : w.entry < length w.graph
  pub reached : (n : ℕ) → n < length w.graph → IsReached (is_edge w.graph) w.entry n
  pub depths : All (λ p. p.depth < 2) w.nodes.items
  pub over : All (HasStateOver w.thresholds (fact_at compare w.facts)) w.nodes.items

-- what is left of its states
abbrev pub left_in : Setting → Within → Place → Option State
left_in S w = left_at w.thresholds S.binding (fact_at compare w.facts)

-- what its program points change
abbrev pub changed_in : Setting → Within → List Change
changed_in S w = map (λ p. change_at S p (left_in S w p)) w.nodes.items

-- loops are its loops with what bounds each
abbrev pub AreHeads : Setting → Within → List Loop → List LoopOutcome → Type 0
AreHeads S w loops outcomes = AreHeadOutcomes w.graph w.nodes.items loops (changed_in S w) (left_in S w) S.binding (length loops) outcomes

-- a loop's passes are bounded
abbrev pub IsLimited : LoopOutcome → Type 0
IsLimited outcome = is_some (passes_by outcome.by) ≡ true

-- how often a head is passed at most; 0 where nothing bounds it
abbrev pub passes_in : LoopOutcome → ℕ
passes_in outcome = unwrap_or (passes_by outcome.by) 0

-- costs as lists are those of its walks, by the bounds of the contexts to which its calls lead
pub record AreWeights (S : Setting) (sub : ℕ) (w : Within) (bounds : List (Option ℕ)) (costs : Weights) : Type 0 where
  pub start : costs.start ≡ start_cost S sub
  pub node : costs.node.items ≡ costs_at S (fact_at compare w.facts) w.nodes.items bounds
  pub extra : (n m : ℕ) → extra_of costs.extra.items n m ≡ (if is_edge w.graph n m then cost_between S.image S.costs w.nodes.items n m else 0)

-- its greatest cost is told
pub record IsToldAs (w : Within) (loops : List Loop) (passes : List ℕ) (costs : Weights) (reasons : List Reason) (cost : ℕ) : Type 0 where
  pub none : reasons ≡ []
  pub long : LongWalk
  pub longest : IsLongest (is_edge w.graph) w.entry loops passes costs long
  pub is : cost ≡ long.cost

-- or it is too large, and that is the one reason
pub record IsLargeAs (w : Within) (loops : List Loop) (passes : List ℕ) (costs : Weights) (reasons : List Reason) : Type 0 where
  pub node : ℕ
  pub place : Place
  pub at : slice_get w.nodes.items node ≡ Some place
  pub large : IsTooLarge (is_edge w.graph) w.entry loops passes costs node
  pub one : reasons ≡ reason.TooLarge place ∷ []

abbrev pub IsToldOrLarge : Within → List Loop → List ℕ → Weights → List Reason → Option ℕ → Type 0
IsToldOrLarge w loops passes costs reasons None = IsLargeAs w loops passes costs reasons
IsToldOrLarge w loops passes costs reasons (Some cost) = IsToldAs w loops passes costs reasons cost

-- what a context comes to against whose bound there is no reason but its cost
pub record IsCosted (S : Setting) (sub : ℕ) (w : Within) (bounds : List (Option ℕ)) (loops : List Loop) (outcomes : List LoopOutcome) (answer : Answer) : Type 0 where
  pub loops_are : answer.loops ≡ outcomes
  pub passes : List ℕ
  pub limits : AreHeadBounds outcomes passes
  pub costs : Weights
  pub weights : AreWeights S sub w bounds costs
  pub told : IsToldOrLarge w loops passes costs answer.reasons answer.bound

-- what a context comes to against whose bound there are reasons
pub record IsRefused (outcomes : List LoopOutcome) (reasons : List Reason) (answer : Answer) : Type 0 where
  pub loops_are : answer.loops ≡ outcomes
  pub first : Reason
  pub some : Contains reasons first
  pub put : IsPutInOrder reasons answer.reasons
  pub unbounded : answer.bound ≡ None

-- there are no reasons but the cost, or some
pub record IsFree (S : Setting) (sub : ℕ) (w : Within) (bounds : List (Option ℕ)) (loops : List Loop) (outcomes : List LoopOutcome) (reasons : List Reason) (answer : Answer) : Type 0 where
  pub none : reasons ≡ []
  pub costed : IsCosted S sub w bounds loops outcomes answer

-- what a context with a nest comes to, by the reasons that aren't of its loops nor of its cost
pub record IsNested (S : Setting) (sub : ℕ) (w : Within) (bounds : List (Option ℕ)) (loops : List Loop) (common : List Reason) (answer : Answer) : Type 0 where
  pub outcomes : List LoopOutcome
  pub heads : AreHeads S w loops outcomes
  pub comes : IsFree S sub w bounds loops outcomes (common ++ flat_map loop_reasons outcomes) answer
      ⊎ IsRefused outcomes (common ++ flat_map loop_reasons outcomes) answer

-- and one with a part that is entered at two program points
pub record IsSplit (w : Within) (x y : ℕ) (common : List Reason) (answer : Answer) : Type 0 where
  pub one : Place
  pub two : Place
  pub at_one : slice_get w.nodes.items x ≡ Some one
  pub at_two : slice_get w.nodes.items y ≡ Some two
  pub none : answer.loops ≡ []
  pub put : IsPutInOrder (common ++ reason.Irreducible one two ∷ []) answer.reasons
  pub unbounded : answer.bound ≡ None
