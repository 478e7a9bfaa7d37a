-- What is said of one context is said of another that is the same, where the bounds of what both enter are the same.
use Rattle.std.proofs.Common.{◌≡◌, ℕ, ◌+◌, Bool, Option, Some, None, refl, sym, ap, subst, ◌∙◌}
use Rattle.abs_state.specs.declared.key.Place.{Place}
use Rattle.bt_base.specs.Graph.{is_edge}
use Rattle.graph_laws.specs.Loops.{IsGreatestCost, Loops, edges_inside}
use Rattle.graph_laws.specs.Walk.{Costs}
use Rattle.graph_view.specs.Cycles.{IsCycleCall}
use Rattle.graph_view.specs.Numbers.{IsNumber}
use Rattle.path_bound.specs.LongWalk.{IsNamed}
use Rattle.path_bound.specs.Places.{bound_in, loops_in}
use Rattle.wcet_report.specs.declared.context.Context.{Context}
use Rattle.wcet_report.specs.declared.reason.Reason.{Reason}
use Rattle.wcet_report.specs.declared.reason.Reason.TheVariants as reason
use Rattle.context_answers.proofs.CostsOnce.{walks_once}
use Rattle.context_outcomes.specs.Bounding.{IsBoundWith, IsGreatest, IsOpenCall, IsOther, IsReason, IsTooLarge, IsTooLargeAt}
use Rattle.context_outcomes.specs.Calls.{IsEntering}
use Rattle.context_outcomes.specs.Inside.{Inside}
use Rattle.context_outcomes.specs.Setting.{Setting, view_in}
use Rattle.context_outcomes.specs.Spending.{Callees, costs_of, start_cost}
use Rattle.plain_laws.proofs.OneBound.{costs_same, enters_there}
use Rattle.plain_laws.proofs.OneInside.{Data, bounded_there, costs_at, data_of, data_same, irreducible_there, unbounded_there}

-- the bounds of what both enter are the same
abbrev pub Agree : {S : Setting} {sub : ℕ} {context : Context} → Inside S sub context → Callees → Callees → Type 0
Agree {S} {sub} within callees others = (p : Place) (t : ℕ) → IsEntering S sub within.facts p t → callees p ≡ others p

-- no call is inside the call cycle of a subprogram
abbrev IsAcyclic : Setting → ℕ → Type 0
IsAcyclic S sub = (pc : ℕ) → IsCycleCall (view_in S).callings sub pc → ⊥

module _ (S : Setting) {sub : ℕ} {context : Context} (one two : Inside S sub context) (callees others : Callees) (agree : Agree two callees others) where
  -- the two are the same
  same : data_of one ≡ data_of two
  same = data_same S sub context one two

  -- a call into a context without a bound
  open_there : (call target : ℕ) → IsOpenCall S one callees call target → IsOpenCall S two others call target
  open_there call target is =
      let enters = enters_there S sub one two is.place target is.enters in
      record { place = is.place; enters = enters; address = is.address; unbounded = sym (agree is.place target enters) ∙ is.unbounded }

  -- reasons but that of the cost
  other_there : (r : Reason) → IsOther S one callees r → IsOther S two others r
  other_there (reason.Jump pc) is = is
  other_there (reason.Call pc) is = is
  other_there (reason.Instr pc) is = is
  other_there (reason.Loop head) is = unbounded_there S one two same head is
  other_there (reason.Irreducible p q) is = irreducible_there S one two same p q is
  other_there (reason.Callee call target) is = open_there call target is
  other_there (reason.Recursion pc) is = is
  other_there (reason.Windows need) is = is
  other_there (reason.TooLarge place) is = is

  module _ (acyclic : IsAcyclic S sub) where
    -- the greatest cost of the walks, and of those inside a body
    walks_there : (loops : Loops) (bound : ℕ → ℕ) (cost : ℕ)
        → IsGreatestCost (is_edge one.shape.graph) one.shape.entry loops bound (costs_of S one.shape callees) cost
        → IsGreatestCost (is_edge two.shape.graph) two.shape.entry loops bound (costs_of S two.shape others) cost
    walks_there loops bound cost is =
        subst (λ (costs : Costs). IsGreatestCost (is_edge two.shape.graph) two.shape.entry loops bound costs cost)
        (costs_same S two callees others acyclic agree)
        (subst (λ (d : Data). IsGreatestCost d.edge d.entry loops bound (costs_at S d callees) cost) same is)

    -- the greatest cost of the walks inside a body
    inside_there : (loops : Loops) (bound : ℕ → ℕ) (body : ℕ → Bool) (h cost : ℕ)
        → IsGreatestCost (edges_inside (is_edge one.shape.graph) body) h loops bound (costs_of S one.shape callees) cost
        → IsGreatestCost (edges_inside (is_edge two.shape.graph) body) h loops bound (costs_of S two.shape others) cost
    inside_there loops bound body h cost is =
        subst (λ (costs : Costs). IsGreatestCost (edges_inside (is_edge two.shape.graph) body) h loops bound costs cost)
        (costs_same S two callees others acyclic agree)
        (subst (λ (d : Data). IsGreatestCost (edges_inside d.edge body) h loops bound (costs_at S d callees) cost) same is)

    -- the greatest cost
    greatest_there : (cost : ℕ) → IsGreatest S one callees cost → IsGreatest S two others cost
    greatest_there cost is = record {
      loops = is.loops;
      bounds = is.bounds;
      bounded = bounded_there S one two same is.loops is.bounds is.bounded;
      walks = is.walks;
      greatest = walks_there (loops_in is.loops) (bound_in is.loops is.bounds) is.walks is.greatest;
      is = is.is;
    }

    -- that it is too large
    large_there : (node : ℕ) → IsTooLarge S one callees node → IsTooLarge S two others node
    large_there node is = record {
      loops = is.loops;
      bounds = is.bounds;
      bounded = bounded_there S one two same is.loops is.bounds is.bounded;
      walks = is.walks;
      greatest = walks_there (loops_in is.loops) (bound_in is.loops is.bounds) is.walks is.greatest;
      large = is.large;
      own = is.own;
      owns = λ h has. inside_there (loops_in is.loops) (bound_in is.loops is.bounds) ((loops_in is.loops).body h) h (is.own h) (is.owns h has);
      named = subst (λ (d : Data). IsNamed (loops_in is.loops) is.own d.entry node) same is.named;
    }

    -- and the program point that is named then
    large_at_there : (place : Place) → IsTooLargeAt S one callees place → IsTooLargeAt S two others place
    large_at_there place is = record {
      node = is.node;
      is = subst (λ (d : Data). IsNumber d.nodes place is.node) same is.is;
      large = large_there is.node is.large;
    }

-- The reasons of two contexts that are the same are one, and so are their bounds.
module _ (S : Setting) {sub : ℕ} {context : Context} (one two : Inside S sub context) (callees others : Callees) (agree : Agree two callees others) where
  -- it is so the other way round
  pub agree_back : Agree one others callees
  agree_back p t enters = sym (agree p t (enters_there S sub one two p t enters))

  -- a reason against the one is one against the other
  pub reason_there : (r : Reason) → IsReason S one callees r → IsReason S two others r
  reason_there (reason.Jump pc) is = is
  reason_there (reason.Call pc) is = is
  reason_there (reason.Instr pc) is = is
  reason_there (reason.Loop head) is = other_there S one two callees others agree (reason.Loop head) is
  reason_there (reason.Irreducible p q) is = other_there S one two callees others agree (reason.Irreducible p q) is
  reason_there (reason.Callee call target) is = other_there S one two callees others agree (reason.Callee call target) is
  reason_there (reason.Recursion pc) is = is
  reason_there (reason.Windows need) is = is
  reason_there (reason.TooLarge place) is = (
    λ r also. is.0 r (other_there S two one others callees agree_back r also),
    large_at_there S one two callees others agree (λ pc cyclic. is.0 (reason.Recursion pc) cyclic) place is.1,
  )

module _ (S : Setting) {sub : ℕ} {context : Context} (one two : Inside S sub context) (callees others : Callees) (agree : Agree two callees others) where
  -- a bound of the one is one of the other
  bound_there : (bound : Option ℕ) → IsBoundWith S one callees bound → IsBoundWith S two others bound
  bound_there None is = record { one = is.one; is = reason_there S one two callees others agree is.one is.is }
  bound_there (Some cost) is = record {
    free = λ r also. is.free r (reason_there S two one others callees (agree_back S one two callees others agree) r also);
    greatest = greatest_there S one two callees others agree (λ pc cyclic. is.free (reason.Recursion pc) cyclic) cost is.greatest;
    told = is.told;
  }

-- a context has one greatest cost
cost_one : (S : Setting) {sub : ℕ} {context : Context} (within : Inside S sub context) (callees : Callees) (a b : ℕ) → IsGreatest S within callees a
    → IsGreatest S within callees b → a ≡ b
cost_one S {sub} within callees a b is too =
    let walks : is.walks ≡ too.walks =
    walks_once S within callees is.loops too.loops is.bounds too.bounds is.bounded too.bounded is.walks too.walks is.greatest too.greatest in
    is.is ∙ (ap (λ (n : ℕ). start_cost S sub + n) walks ∙ sym too.is)

-- and one bound, or none
bound_one : (S : Setting) {sub : ℕ} {context : Context} (within : Inside S sub context) (callees : Callees) (a b : Option ℕ) → IsBoundWith S within callees a
    → IsBoundWith S within callees b → a ≡ b
bound_one S within callees None None is too = refl
bound_one S within callees None (Some b) is too = absurd (too.free is.one is.is)
bound_one S within callees (Some a) None is too = absurd (is.free too.one too.is)
bound_one S within callees (Some a) (Some b) is too = ap Some (cost_one S within callees a b is.greatest too.greatest)

-- so contexts that are the same have one bound, or none
pub bound_same : (S : Setting) {sub : ℕ} {context : Context} (one two : Inside S sub context) (callees others : Callees) → Agree two callees others
    → (a b : Option ℕ) → IsBoundWith S one callees a → IsBoundWith S two others b → a ≡ b
bound_same S one two callees others agree a b is too =
    bound_one S two others a b (bound_there S one two callees others agree a is) too
