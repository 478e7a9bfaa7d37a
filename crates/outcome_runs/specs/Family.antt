-- The contexts of outcomes: each by its place in the list.
use Rattle.std.specs.Prelude.{◌≡◌, ◌==◌, ◌&&◌, ℕ, zero, suc, ◌+◌, ℤ, pos, negsuc, Bool, true, false, List, [], ◌∷◌, Option, Some, None, is_some, slice_get, unwrap_or, if◌then◌else◌, ◌⊎◌}
use Rattle.std.proofs.Common.{inl, inr}
use Rattle.std.specs.Option.{option_and_then, option_map}
use Rattle.std.specs.Ordering.{is_eq}
use Rattle.abs_state.specs.State.{State, cell_at}
use Rattle.abs_state.specs.declared.head_bound.HeadBound.{HeadBound}
use Rattle.abs_state.specs.declared.key.Key.TheVariants as key
use Rattle.abs_state.specs.declared.key.Next.{Next}
use Rattle.abs_state.specs.declared.key.Next.TheVariants.{At, Into, Back}
use Rattle.abs_state.specs.declared.key.Place.{Place}
use Rattle.assert_bind.specs.Binding.{stub}
use Rattle.bt_base.specs.Graph.{is_edge}
use Rattle.context_runs.specs.Contexts.{Contexts}
use Rattle.counter_bound.specs.Change.{changes_of}
use Rattle.counter_bound.specs.declared.change.Change.{Change}
use Rattle.frame_laws.specs.Context.{Context, Counter, Standing, Free, Stub, In}
use Rattle.graph_laws.specs.Loops.{Loops}
use Rattle.graph_laws.specs.Walk.{Costs}
use Rattle.graph_view.specs.Numbers.{place_cmp}
use Rattle.loop_nest.specs.LoopNest.{is_head}
use Rattle.loop_nest.specs.declared.natural_loop.Loop.{Loop}
use Rattle.path_bound.specs.Places.{loops_in, place_of}
use Rattle.sparc_machine.specs.Straight.{code_instruction}
use Rattle.sparc_runs.specs.Cost.{own_cost}
use Rattle.transfer_rules.specs.Give.{Facts}
use Rattle.value_lattice.specs.Ends.{low_end, high_end}
use Rattle.wcet_report.specs.declared.context.Context.{Context as Arguments}
use Rattle.wcet_report.specs.declared.loops.By.{By}
use Rattle.wcet_report.specs.declared.loops.By.TheVariants as by
use Rattle.wcet_report.specs.declared.loops.LoopOutcome.{LoopOutcome}
use Rattle.wcet_report.specs.declared.outcome.Outcome.{Outcome}
use Rattle.context_outcomes.specs.Bounding.{IsBoundWith}
use Rattle.context_outcomes.specs.Counting.{changes_in}
use Rattle.context_outcomes.specs.Heads.{AreLoopOutcomes, AreLoops, passes_by}
use Rattle.context_outcomes.specs.Inside.{Inside, Shape, state_at}
use Rattle.context_outcomes.specs.Outcomes.{AreTold}
use Rattle.context_outcomes.specs.Setting.{Setting}
use Rattle.context_outcomes.specs.Spending.{Callees, cost_if, costs_of, start_cost}
use Rattle.outcome_runs.specs.Told.{Entry, Told}

-- the place of a program point in a list; the length of the list where it isn't there
abbrev pub place_in : List Place → Place → ℕ
place_in [] p = 0
place_in (q ∷ rest) p = if is_eq (place_cmp q p) then 0 else suc (place_in rest p)

-- the loops of a context with what bounds each
pub record Looped (S : Setting) {sub : ℕ} {context : Arguments} (within : Inside S sub context) : Type 0 where
  pub loops : List Loop
  pub nest : AreLoops within.shape loops
  pub outcomes : List LoopOutcome
  pub each : AreLoopOutcomes S within loops outcomes

-- those with which its bound is found, or those that are told where it has none
abbrev pub looped_by : {sub : ℕ} {context : Arguments} (S : Setting) (within : Inside S sub context) (callees : Callees) (most : Option ℕ) (told : List LoopOutcome)
    → IsBoundWith S within callees most → AreTold S within told → Option (Looped S within)
looped_by S within callees (Some cost) told is are =
    Some (record {
      loops = is.greatest.loops;
      nest = is.greatest.bounded.nest;
      outcomes = is.greatest.bounded.outcomes;
      each = is.greatest.bounded.each;
    })
looped_by S within callees None told is (inl (loops, nest, each)) = Some (record { loops = loops; nest = nest; outcomes = told; each = each })
looped_by S within callees None told is (inr none) = None

abbrev pub looped : {S : Setting} (one : Entry S) → Option (Looped S one.is.within)
looped {S} one = looped_by S one.is.within one.is.callees one.outcome.bound one.outcome.loops one.is.bound one.is.loops

abbrev pub by_in : LoopOutcome → By
by_in outcome = outcome.by

-- what bounds a head, if it is one
abbrev pub by_at : List Loop → List LoopOutcome → ℕ → Option By
by_at loops outcomes h = if is_head loops h then option_map by_in (slice_get outcomes (place_of loops h)) else None

abbrev pub passes_at : List Loop → List LoopOutcome → ℕ → Option ℕ
passes_at loops outcomes h = option_and_then passes_by (by_at loops outcomes h)

-- there are no loops
abbrev pub no_loops : Loops
no_loops = record { has = λ h. false; body = λ h n. false }

-- the loops whose heads have a bound
abbrev pub loops_with : List Loop → List LoopOutcome → Loops
loops_with loops outcomes = record { has = λ h. is_some (passes_at loops outcomes h); body = (loops_in loops).body }

-- how large a number is without its sign
abbrev pub size_in : ℤ → ℕ
size_in (pos n) = n
size_in (negsuc n) = suc n

-- the counter of a bound that a cell gives, whose state at the head is this
abbrev pub counter_with : List Change → HeadBound → State → Counter
counter_with changes bound s = record {
  cell = bound.cell;
  changes = changes_of changes bound.cell;
  lo = low_end (cell_at s bound.cell);
  hi = high_end (cell_at s bound.cell);
  step = size_in bound.step;
}

abbrev pub counter_if : List Change → Option State → By → Option Counter
counter_if changes s (by.Counter bound) = option_map (counter_with changes bound) s
counter_if changes s (by.Asserted count) = None
counter_if changes s by.Nothing = None

module _ (S : Setting) {sub : ℕ} {context : Arguments} (within : Inside S sub context) where
  -- what is left of the state at a node
  abbrev pub state_of_node : ℕ → Option State
  state_of_node n = option_and_then (state_at S within.args within.facts) (slice_get within.shape.nodes n)

  abbrev pub loops_of : Option (Looped S within) → Loops
  loops_of None = no_loops
  loops_of (Some l) = loops_with l.loops l.outcomes

  abbrev pub bounds_of : Option (Looped S within) → ℕ → ℕ
  bounds_of None h = 0
  bounds_of (Some l) h = unwrap_or (passes_at l.loops l.outcomes h) 0

  abbrev pub counters_of : Option (Looped S within) → ℕ → Option Counter
  counters_of None h = None
  counters_of (Some l) h = option_and_then (counter_if (changes_in S within) (state_of_node h)) (by_at l.loops l.outcomes h)

  -- what nodes and edges cost without the calls
  abbrev pub own_costs : Callees → Costs
  own_costs callees = record {
    node = λ n. cost_if (slice_get within.shape.nodes n) (λ p. own_cost S.costs (code_instruction S.image p.pc));
    edge = (costs_of S within.shape callees).edge;
  }

-- a context without program points
abbrev pub empty : Setting → Context
empty S = record {
  entry = 0;
  edge = λ n m. false;
  loops = no_loops;
  bound = λ h. 0;
  counter = λ h. None;
  start = start_cost S 0;
  own = record { node = λ n. 0; edge = λ n m. 0 };
  leads = λ n. None;
  most = None;
}

module _ {S : Setting} {list : List Outcome} (told : Told S list) where
  -- what a call leads to that is among the facts: a stub's time, nothing inside a call cycle, and else a context
  abbrev pub follows_into : ℕ → Place → Option ℕ → Bool → Bool → Standing
  follows_into c p (Some time) cyclic there = Stub time
  follows_into c p None true there = Free
  follows_into c p None false false = Free
  follows_into c p None false true = In (told.place c p)

  abbrev pub follows_to : ℕ → Entry S → Place → Next → Standing
  follows_to c one p (At n) = Free
  follows_to c one p (Into t) =
      follows_into c p (stub S.binding t) (told.cyclic one.outcome.sub t) (is_some (one.is.within.facts (key.Call p t)))
  follows_to c one p Back = Free

  abbrev pub follows_of : ℕ → Option (Entry S) → Place → Standing
  follows_of c None p = Free
  follows_of c (Some one) p = follows_to c one p p.next

  -- what a program point leads to, where the facts have a call there
  abbrev pub leads_if : ℕ → Entry S → Place → Next → Option Standing
  leads_if c one p (At n) = None
  leads_if c one p (Into t) = if is_some (one.is.within.facts (key.Call p t)) then Some (follows_to c one p p.next) else None
  leads_if c one p Back = None

  abbrev pub leads_of : ℕ → Entry S → Place → Option Standing
  leads_of c one p = leads_if c one p p.next

  abbrev pub context_of : ℕ → Option (Entry S) → Context
  context_of c None = empty S
  context_of c (Some one) = record {
    entry = one.is.within.shape.entry;
    edge = is_edge one.is.within.shape.graph;
    loops = loops_of S one.is.within (looped one);
    bound = bounds_of S one.is.within (looped one);
    counter = counters_of S one.is.within (looped one);
    start = start_cost S one.outcome.sub;
    own = own_costs S one.is.within one.is.callees;
    leads = λ n. option_and_then (leads_of c one) (slice_get one.is.within.shape.nodes n);
    most = one.outcome.bound;
  }

  abbrev pub sub_of : Option (Entry S) → ℕ
  sub_of None = 0
  sub_of (Some one) = one.outcome.sub

  abbrev pub facts_of : Option (Entry S) → Facts
  facts_of None k = None
  facts_of (Some one) k = one.is.within.facts k

  abbrev pub number_of : Option (Entry S) → Place → ℕ
  number_of None p = 0
  number_of (Some one) p = place_in one.is.within.shape.nodes p

  abbrev pub root_of : Option ℕ → Standing
  root_of None = Free
  root_of (Some c) = In c

  -- the contexts, each by its place in the list
  abbrev pub contexts_of : Contexts
  contexts_of = record {
    roots = λ root. root_of (told.root root);
    sub = λ c. sub_of (slice_get told.entries c);
    facts = λ c. facts_of (slice_get told.entries c);
    follows = λ c. follows_of c (slice_get told.entries c);
    number = λ c. number_of (slice_get told.entries c);
    family = λ c. context_of c (slice_get told.entries c);
  }

  abbrev pub pc_of : Option Place → ℕ
  pc_of None = 0
  pc_of (Some p) = p.pc

  abbrev pub address_in : Option (Entry S) → ℕ → ℕ
  address_in None n = 0
  address_in (Some one) n = pc_of (slice_get one.is.within.shape.nodes n)

  -- the address of each node of a context
  abbrev pub address_of : ℕ → ℕ → ℕ
  address_of c = address_in (slice_get told.entries c)
