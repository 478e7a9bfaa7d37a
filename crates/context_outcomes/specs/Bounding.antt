-- The greatest cost of a context, and why it has none, by the bounds of the contexts that it calls.
use Rattle.std.specs.Prelude.{◌≡◌, ℕ, ◌+◌, ◌<◌, ◌≤◌, true, List, Option, Some, None, is_some, Contains}
use Rattle.abs_state.specs.declared.key.GapKind.TheVariants as why
use Rattle.abs_state.specs.declared.key.Key.TheVariants as key
use Rattle.abs_state.specs.declared.key.Place.{Place}
use Rattle.bt_base.specs.Graph.{is_edge}
use Rattle.graph_laws.specs.Loops.{IsGreatestCost, edges_inside}
use Rattle.graph_laws.specs.Scope.{AreFirstEntries}
use Rattle.graph_view.specs.Cycles.{IsCycleCall}
use Rattle.graph_view.specs.Need.{HasNeed}
use Rattle.graph_view.specs.Numbers.{IsNumber}
use Rattle.graph_view.specs.Sites.{call_address}
use Rattle.loop_nest.specs.declared.natural_loop.Loop.{Loop}
use Rattle.path_bound.specs.Capped.{limit}
use Rattle.path_bound.specs.LongWalk.{IsNamed}
use Rattle.path_bound.specs.Places.{bound_in, loops_in}
use Rattle.wcet_report.specs.declared.context.Context.{Context}
use Rattle.wcet_report.specs.declared.loops.By.TheVariants.{Nothing}
use Rattle.wcet_report.specs.declared.loops.LoopOutcome.{LoopOutcome}
use Rattle.wcet_report.specs.declared.reason.Reason.{Reason}
use Rattle.wcet_report.specs.declared.reason.Reason.TheVariants as reason
use Rattle.context_outcomes.specs.Calls.{IsEntering}
use Rattle.context_outcomes.specs.Heads.{AreHeadBounds, AreLoopOutcomes, AreLoops}
use Rattle.context_outcomes.specs.Inside.{Inside}
use Rattle.context_outcomes.specs.Setting.{Setting, facts_in, view_in}
use Rattle.context_outcomes.specs.Spending.{Callees, costs_of, start_cost}

-- The loops of a context, each with a bound of its head; so the graph has a nest.
pub record AreBounded (S : Setting) {sub : ℕ} {context : Context} (within : Inside S sub context) (loops : List Loop) (bounds : List ℕ) : Type 0 where
  pub nest : AreLoops within.shape loops
  pub outcomes : List LoopOutcome
  pub each : AreLoopOutcomes S within loops outcomes
  pub passes : AreHeadBounds outcomes bounds

-- The greatest cost of the walks through a context that keep the bounds of its heads, with what each costs at its start.
pub record IsGreatest (S : Setting) {sub : ℕ} {context : Context} (within : Inside S sub context) (callees : Callees) (cost : ℕ) : Type 0 where
  pub loops : List Loop
  pub bounds : List ℕ
  pub bounded : AreBounded S within loops bounds
  pub walks : ℕ
  pub greatest : IsGreatestCost (is_edge within.shape.graph) within.shape.entry (loops_in loops) (bound_in loops bounds) (costs_of S within.shape callees) walks
  pub is : cost ≡ start_cost S sub + walks

-- It is 2^63 or more, and a program point is named: the least head of a loop inside whose body walks cost so much and in no
-- loop inside, or the entry.
pub record IsTooLarge (S : Setting) {sub : ℕ} {context : Context} (within : Inside S sub context) (callees : Callees) (node : ℕ) : Type 0 where
  pub loops : List Loop
  pub bounds : List ℕ
  pub bounded : AreBounded S within loops bounds
  pub walks : ℕ
  pub greatest : IsGreatestCost (is_edge within.shape.graph) within.shape.entry (loops_in loops) (bound_in loops bounds) (costs_of S within.shape callees) walks
  pub large : limit ≤ start_cost S sub + walks
  pub own : ℕ → ℕ
  pub owns : (h : ℕ) → (loops_in loops).has h ≡ true
      → IsGreatestCost (edges_inside (is_edge within.shape.graph) ((loops_in loops).body h)) h (loops_in loops) (bound_in loops bounds)
      (costs_of S within.shape callees) (own h)
  pub named : IsNamed (loops_in loops) own within.shape.entry node

-- a loop of a context that nothing bounds
pub record IsUnbounded (S : Setting) {sub : ℕ} {context : Context} (within : Inside S sub context) (head : Place) : Type 0 where
  pub loops : List Loop
  pub nest : AreLoops within.shape loops
  pub outcomes : List LoopOutcome
  pub each : AreLoopOutcomes S within loops outcomes
  pub there : Contains outcomes (record { head = head; by = Nothing })

-- the two least entered program points of the first part of a context's graph that is entered at two
pub record IsIrreducible {S : Setting} {sub : ℕ} {context : Context} (within : Inside S sub context) (one two : Place) : Type 0 where
  pub first : ℕ
  pub second : ℕ
  pub at_first : IsNumber within.shape.nodes one first
  pub at_second : IsNumber within.shape.nodes two second
  pub are : AreFirstEntries (is_edge within.shape.graph) within.shape.entry first second

-- a call into a context without a bound
pub record IsOpenCall (S : Setting) {sub : ℕ} {context : Context} (within : Inside S sub context) (callees : Callees) (call target : ℕ) : Type 0 where
  pub place : Place
  pub enters : IsEntering S sub within.facts place target
  pub address : call ≡ call_address (record { from = place; callee = target })
  pub unbounded : callees place ≡ None

-- more register windows are needed than there are below the entry's
pub record IsShort (S : Setting) (sub need : ℕ) : Type 0 where
  pub needs : HasNeed (view_in S).places (view_in S).callings sub need
  pub more : 6 < need

-- the program point is one whose number is named
pub record IsTooLargeAt (S : Setting) {sub : ℕ} {context : Context} (within : Inside S sub context) (callees : Callees) (place : Place) : Type 0 where
  pub node : ℕ
  pub is : IsNumber within.shape.nodes place node
  pub large : IsTooLarge S within callees node

-- why a context has no bound, but for its cost
abbrev pub IsOther : {sub : ℕ} {context : Context} (S : Setting) → Inside S sub context → Callees → Reason → Type 0
IsOther {sub} S within callees (reason.Jump pc) = is_some (facts_in S (key.Gap sub pc why.Jump)) ≡ true
IsOther {sub} S within callees (reason.Call pc) = is_some (facts_in S (key.Gap sub pc why.Call)) ≡ true
IsOther {sub} S within callees (reason.Instr pc) = is_some (facts_in S (key.Gap sub pc why.Instr)) ≡ true
IsOther S within callees (reason.Loop head) = IsUnbounded S within head
IsOther S within callees (reason.Irreducible one two) = IsIrreducible within one two
IsOther S within callees (reason.Callee call target) = IsOpenCall S within callees call target
IsOther {sub} S within callees (reason.Recursion pc) = IsCycleCall (view_in S).callings sub pc
IsOther {sub} S within callees (reason.Windows need) = IsShort S sub need
IsOther S within callees (reason.TooLarge place) = ⊥

-- The reasons why a context has no bound. That its cost is too large is one only where there is no other.
abbrev pub IsReason : {sub : ℕ} {context : Context} (S : Setting) → Inside S sub context → Callees → Reason → Type 0
IsReason S within callees (reason.TooLarge place) = ((other : Reason) → IsOther S within callees other → ⊥) × IsTooLargeAt S within callees place
IsReason S within callees (reason.Jump pc) = IsOther S within callees (reason.Jump pc)
IsReason S within callees (reason.Call pc) = IsOther S within callees (reason.Call pc)
IsReason S within callees (reason.Instr pc) = IsOther S within callees (reason.Instr pc)
IsReason S within callees (reason.Loop head) = IsOther S within callees (reason.Loop head)
IsReason S within callees (reason.Irreducible one two) = IsOther S within callees (reason.Irreducible one two)
IsReason S within callees (reason.Callee call target) = IsOther S within callees (reason.Callee call target)
IsReason S within callees (reason.Recursion pc) = IsOther S within callees (reason.Recursion pc)
IsReason S within callees (reason.Windows need) = IsOther S within callees (reason.Windows need)

-- a reason
pub record HasReason (S : Setting) {sub : ℕ} {context : Context} (within : Inside S sub context) (callees : Callees) : Type 0 where
  pub one : Reason
  pub is : IsReason S within callees one

-- a context has no reason, and this is its greatest cost
pub record IsCost (S : Setting) {sub : ℕ} {context : Context} (within : Inside S sub context) (callees : Callees) (cost : ℕ) : Type 0 where
  pub free : (one : Reason) → IsReason S within callees one → ⊥
  pub greatest : IsGreatest S within callees cost
  pub told : cost < limit

-- the bound of a context: its greatest cost where there is no reason against it, and none where there is one
abbrev pub IsBoundWith : {sub : ℕ} {context : Context} (S : Setting) → Inside S sub context → Callees → Option ℕ → Type 0
IsBoundWith S within callees None = HasReason S within callees
IsBoundWith S within callees (Some cost) = IsCost S within callees cost
