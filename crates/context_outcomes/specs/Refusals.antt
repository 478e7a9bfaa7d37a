-- Lines of asserted loops that no loop matches, and more contexts than a number.
use Rattle.std.specs.Prelude.{◌≡◌, ℕ, ◌≤◌, ◌⊎◌, true, List, Contains, length, slice_get, Some, None, if◌then◌else◌}
use Rattle.abs_state.specs.declared.key.Place.{Place}
use Rattle.assert_bind.specs.Binding.{loops as loop_lines}
use Rattle.assert_bind.specs.declared.body.LoopLine.{LoopLine}
use Rattle.bt_base.specs.Graph.{is_edge}
use Rattle.context_facts.specs.Context.{is_local}
use Rattle.graph_laws.specs.Scope.{AreFirstEntries}
use Rattle.graph_view.specs.Numbers.{IsNumber}
use Rattle.loop_nest.specs.LoopNest.{is_head}
use Rattle.loop_nest.specs.declared.natural_loop.Loop.{Loop}
use Rattle.transfer_rules.specs.Give.{Facts}
use Rattle.wcet_report.specs.declared.context.Context.{Context}
use Rattle.context_outcomes.specs.Heads.{AreLoops}
use Rattle.context_outcomes.specs.Inside.{Shape}
use Rattle.context_outcomes.specs.Outcomes.{IsNeeded}
use Rattle.context_outcomes.specs.Setting.{Setting, facts_in}

-- what the whole program has of one subprogram: its program points, steps and calls
abbrev pub own_facts : Setting → ℕ → Facts
own_facts S sub k = if is_local sub k then facts_in S k else None

-- a node is the head of a loop
pub record IsHeadOf {facts : Facts} {sub : ℕ} (shape : Shape facts sub) (node : ℕ) : Type 0 where
  pub loops : List Loop
  pub nest : AreLoops shape loops
  pub head : is_head loops node ≡ true

-- some part of a graph is entered at two nodes
pub record HasTwoEntries {facts : Facts} {sub : ℕ} (shape : Shape facts sub) : Type 0 where
  pub one : ℕ
  pub two : ℕ
  pub are : AreFirstEntries (is_edge shape.graph) shape.entry one two

-- An address is that of a loop's head in some subprogram, or of a program point in one whose graph has no nest. The graph is
-- that of all its program points and steps.
pub record IsMatched (S : Setting) (pc : ℕ) : Type 0 where
  pub sub : ℕ
  pub shape : Shape (own_facts S sub) sub
  pub place : Place
  pub node : ℕ
  pub is : IsNumber shape.nodes place node
  pub address : place.pc ≡ pc
  pub why : IsHeadOf shape node ⊎ HasTwoEntries shape

-- all asserted loops are matched
abbrev pub AreMatched : Setting → Type 0
AreMatched S = (one : LoopLine) → Contains (loop_lines S.binding) one → IsMatched S one.pc

-- the line of an asserted loop that isn't
pub record IsUnmatched (S : Setting) (line : ℕ) : Type 0 where
  pub one : LoopLine
  pub among : Contains (loop_lines S.binding) one
  pub at : one.line ≡ line
  pub unmatched : IsMatched S one.pc → ⊥

-- the least such line
pub record IsFirstUnmatched (S : Setting) (line : ℕ) : Type 0 where
  pub is : IsUnmatched S line
  pub least : (other : ℕ) → IsUnmatched S other → line ≤ other

-- so many different contexts are needed
pub record AreNeeded (S : Setting) (count : ℕ) : Type 0 where
  pub list : List (ℕ × Context)
  pub many : length list ≡ count
  pub each : (one : ℕ × Context) → Contains list one → IsNeeded S one.0 one.1
  pub different : (j k : ℕ) (one : ℕ × Context) → slice_get list j ≡ Some one → slice_get list k ≡ Some one → j ≡ k

-- the most contexts that are told
abbrev pub most_contexts : ℕ
most_contexts = 4096
