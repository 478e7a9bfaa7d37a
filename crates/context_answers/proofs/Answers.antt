-- What is found of a context is what it comes to.
use Rattle.std.proofs.Common.{◌≡◌, ◌↔◌, ◌⊎◌, ℕ, ◌+◌, ◌<◌, List, [], ◌∷◌, ◌++◌, length, map, Option, Some, None, Contains, inl, inr, refl, sym, ap, subst, ◌∙◌, arith}
use Rattle.std.specs.Prelude.{slice_get, if◌then◌else◌}
use Rattle.std.specs.List.{flat_map}
use Rattle.std.specs.List.Sorted.{IsStrictlySortedBy}
use Rattle.abs_state.specs.Key.{compare}
use Rattle.abs_state.specs.declared.key.Place.{Place}
use Rattle.bt_base.specs.Graph.{is_edge}
use Rattle.context_answers.proofs.Commons.{common_is, is_common}
use Rattle.context_answers.proofs.CostsOnce.{large_once, told_not_large}
use Rattle.context_answers.proofs.Lists.{has_flat, flat_has, number_at, one_place}
use Rattle.context_answers.proofs.OutcomesOnce.{outcomes_once}
use Rattle.context_answers.specs.Adding.{IsCommon, IsPutInOrder, head_reasons, loop_reasons}
use Rattle.context_answers.specs.Answered.{IsAnswer}
use Rattle.context_answers.specs.Found.{AreHeads, AreWeights, IsCosted, IsFree, IsLargeAs, IsNested, IsReady, IsRefused, IsSplit, IsToldAs, IsToldOrLarge}
use Rattle.context_answers.specs.declared.answer.Answer.{Answer}
use Rattle.context_bounds.proofs.Costs.{lists_are_costs}
use Rattle.context_bounds.proofs.Heads.{heads_are_outcomes}
use Rattle.context_bounds.specs.Extras.{cost_between}
use Rattle.context_bounds.specs.Heads.{AreHeadOutcomes}
use Rattle.context_bounds.specs.Nodes.{costs_at}
use Rattle.context_bounds.specs.States.{left_at}
use Rattle.context_inside.specs.Within.{IsWithin, inside_of}
use Rattle.context_inside.specs.declared.within.Within.{Within}
use Rattle.context_outcomes.specs.Arguments.{AreArgumentsOf, thresholds_with}
use Rattle.context_outcomes.specs.Bounding.{AreBounded, IsBoundWith, IsGreatest, IsIrreducible, IsOther, IsReason, IsTooLargeAt, IsUnbounded}
use Rattle.context_outcomes.specs.Counting.{change_at}
use Rattle.context_outcomes.specs.Heads.{AreLoopOutcomes, AreLoops}
use Rattle.context_outcomes.specs.Inside.{Inside}
use Rattle.context_outcomes.specs.Outcomes.{AreTold, reason_cmp}
use Rattle.context_outcomes.specs.Setting.{Setting, view_in}
use Rattle.context_outcomes.specs.Spending.{Callees, costs_of}
use Rattle.flow_system.specs.Facts.{fact_at}
use Rattle.graph_laws.proofs.Scopes.{entries_no_nest, entries_one}
use Rattle.graph_laws.specs.Loops.{IsGreatestCost, edges_inside}
use Rattle.graph_laws.specs.Scope.{AreFirstEntries}
use Rattle.graph_laws.specs.Walk.{Costs}
use Rattle.graph_view.proofs.Stands.{Has, has_back, has_either, has_from, has_front, has_to}
use Rattle.graph_view.specs.Numbers.{IsNumber}
use Rattle.loop_nest.specs.LoopNest.{IsLoopNest}
use Rattle.loop_nest.specs.declared.natural_loop.Loop.{Loop}
use Rattle.path_bound.specs.LongWalk.{IsNamed}
use Rattle.path_bound.specs.Places.{bound_in, costs_in, loops_in}
use Rattle.path_bound.specs.declared.weights.Costs.{Costs as Weights}
use Rattle.value_lattice.specs.declared.value.Value.{Value}
use Rattle.wcet_report.specs.declared.context.Context.{Context}
use Rattle.wcet_report.specs.declared.loops.By.{By}
use Rattle.wcet_report.specs.declared.loops.By.TheVariants.{Asserted, Counter, Nothing}
use Rattle.wcet_report.specs.declared.loops.LoopOutcome.{LoopOutcome}
use Rattle.wcet_report.specs.declared.reason.Reason.{Reason}
use Rattle.wcet_report.specs.declared.reason.Reason.TheVariants as reason

-- a context from within is ready
pub ready_of : (S : Setting) (sub : ℕ) (args : List Value) (w : Within) → IsWithin S sub args w → IsReady w
ready_of S sub args w is =
    let count : length is.shape.graph ≡ length is.shape.nodes = is.shape.steps.count in
    let nodes : length is.shape.nodes ≡ length w.nodes.items = ap length is.nodes in
    let graph : length is.shape.graph ≡ length w.graph = ap length is.graph in
    let low : is.shape.entry < length is.shape.nodes = is.shape.begins.within in
    let entry : is.shape.entry ≡ w.entry = is.entry in
    record {
      same = omega (arith, count, nodes, graph);
      begins = omega (arith, count, graph, low, entry);
      reached = is.reached;
      depths = is.depths;
      over = is.over;
    }

-- the reasons of a loop are that nothing bounds it
unbounded_reason : (head : Place) (by : By) (one : Reason) → Has (head_reasons head by) one → (by ≡ Nothing) × (reason.Loop head ≡ one)
unbounded_reason head (Counter counter) one has = absurd has
unbounded_reason head (Asserted count) one has = absurd has
unbounded_reason head Nothing one (inl is) = (refl, is)
unbounded_reason head Nothing one (inr has) = absurd has

one_of : {X : Type 0} (x y : X) → Has (x ∷ []) y → x ≡ y
one_of x y (inl is) = is
one_of x y (inr has) = absurd has

nothing_in : (one : Reason) → Contains {X = Reason} [] one → ⊥
nothing_in one has = let low = has.1 in omega (arith, low)

none_rises : IsStrictlySortedBy reason_cmp []
unfolding IsStrictlySortedBy
none_rises = tt

one_rises : (one : Reason) → IsStrictlySortedBy reason_cmp (one ∷ [])
unfolding IsStrictlySortedBy
one_rises one = (tt, tt)

-- every reason but the cost is another
module _ (S : Setting) {sub : ℕ} {context : Context} (within : Inside S sub context) (callees : Callees) where
  other_is : (one : Reason) → IsOther S within callees one → IsReason S within callees one
  other_is (reason.Jump pc) o = o
  other_is (reason.Call pc) o = o
  other_is (reason.Instr pc) o = o
  other_is (reason.Loop head) o = o
  other_is (reason.Irreducible p q) o = o
  other_is (reason.Callee call target) o = o
  other_is (reason.Recursion pc) o = o
  other_is (reason.Windows need) o = o
  other_is (reason.TooLarge place) o = absurd o

  -- a reason is another, or the cost
  cost_or : (one : Reason) → IsReason S within callees one → IsOther S within callees one ⊎ ((place : Place) × (one ≡ reason.TooLarge place) × IsTooLargeAt S within callees place)
  cost_or (reason.Jump pc) r = inl r
  cost_or (reason.Call pc) r = inl r
  cost_or (reason.Instr pc) r = inl r
  cost_or (reason.Loop head) r = inl r
  cost_or (reason.Irreducible p q) r = inl r
  cost_or (reason.Callee call target) r = inl r
  cost_or (reason.Recursion pc) r = inl r
  cost_or (reason.Windows need) r = inl r
  cost_or (reason.TooLarge place) r = inr (place, refl, r.1)

  -- the cost is no reason beside another
  is_other : (first : Reason) → IsOther S within callees first → (one : Reason) → IsReason S within callees one → IsOther S within callees one
  is_other first some (reason.Jump pc) r = r
  is_other first some (reason.Call pc) r = r
  is_other first some (reason.Instr pc) r = r
  is_other first some (reason.Loop head) r = r
  is_other first some (reason.Irreducible p q) r = r
  is_other first some (reason.Callee call target) r = r
  is_other first some (reason.Recursion pc) r = r
  is_other first some (reason.Windows need) r = r
  is_other first some (reason.TooLarge place) r = absurd (r.0 first some)

  -- where there are other reasons they are all, and there is no bound
  refused_is : (all : List Reason) (answer : Answer) → AreTold S within answer.loops → ((one : Reason) → Contains all one ↔ IsOther S within callees one)
      → (first : Reason) → Contains all first → IsPutInOrder all answer.reasons → answer.bound ≡ None → IsAnswer S within callees answer
  refused_is all answer loops others first some put unbounded = record {
    loops = loops;
    rising = put.rising;
    reasons = λ one. (
      λ has. other_is one ((others one).0 (put.adds_none one has)),
      λ r. put.keeps one ((others one).1 (is_other first ((others first).0 some) one r)),
    );
    bound = subst (IsBoundWith S within callees) (sym unbounded) (record { one = first; is = other_is first ((others first).0 some) });
  }

module _ (S : Setting) {sub : ℕ} {args : List Value} {w : Within} (context : Context) (arguments : AreArgumentsOf S sub context args) (is : IsWithin S sub args w)
    (callees : Callees) (bounds : List (Option ℕ)) (leads : map callees w.nodes.items ≡ bounds) (common : List Reason)
    (members : (one : Reason) → Contains common one ↔ IsCommon S.binding (view_in S) (fact_at compare w.facts) sub w.nodes.items bounds one) where
  abbrev within : Inside S sub context
  within = inside_of context arguments is

  -- its loops
  nest_told : (loops : List Loop) → IsLoopNest (is_edge w.graph) w.entry loops → AreLoops is.shape loops
  nest_told loops nest =
      subst (λ (e : ℕ). IsLoopNest (is_edge is.shape.graph) e loops) (sym is.entry)
      (subst (λ (g : List (List ℕ)). IsLoopNest (is_edge g) w.entry loops) (sym is.graph) nest)

  abbrev ToldBy : List Loop → List LoopOutcome → List (List ℕ) → List Place → List ℕ → Type 0
  ToldBy loops outcomes graph nodes t =
      AreHeadOutcomes graph nodes loops (map (λ p. change_at S p (left_at t S.binding (fact_at compare w.facts) p)) nodes) (left_at t S.binding (fact_at compare w.facts))
      S.binding (length loops) outcomes

  -- with what bounds each
  heads_told : (loops : List Loop) (outcomes : List LoopOutcome) → AreHeads S w loops outcomes → AreLoopOutcomes S within loops outcomes
  heads_told loops outcomes heads = heads_are_outcomes sub context S within loops outcomes by_graph where
    by_thresholds : ToldBy loops outcomes w.graph w.nodes.items (thresholds_with S args)
    by_thresholds = subst (λ (t : List ℕ). ToldBy loops outcomes w.graph w.nodes.items t) is.thresholds heads

    by_nodes : ToldBy loops outcomes w.graph is.shape.nodes (thresholds_with S args)
    by_nodes = subst (λ (l : List Place). ToldBy loops outcomes w.graph l (thresholds_with S args)) (sym is.nodes) by_thresholds

    by_graph : ToldBy loops outcomes is.shape.graph is.shape.nodes (thresholds_with S args)
    by_graph = subst (λ (g : List (List ℕ)). ToldBy loops outcomes g is.shape.nodes (thresholds_with S args)) (sym is.graph) by_nodes

  -- the costs of its walks
  costs_told : (costs : Weights) → AreWeights S sub w bounds costs → costs_in costs ≡ costs_of S is.shape callees
  costs_told costs weights =
      lists_are_costs (fact_at compare w.facts) sub S is.shape callees costs
      (weights.node
      ∙ (ap (costs_at S (fact_at compare w.facts) w.nodes.items) (sym leads)
      ∙ ap (λ (l : List Place). costs_at S (fact_at compare w.facts) l (map callees l)) (sym is.nodes)))
      (λ n m.
      weights.extra n m
      ∙ (ap (λ (g : List (List ℕ)). if is_edge g n m then cost_between S.image S.costs w.nodes.items n m else 0) (sym is.graph)
      ∙ ap (λ (l : List Place). if is_edge is.shape.graph n m then cost_between S.image S.costs l n m else 0) (sym is.nodes)))

  at_shape : (n : ℕ) (p : Place) → slice_get w.nodes.items n ≡ Some p → IsNumber is.shape.nodes p n
  at_shape n p at = subst (λ (l : List Place). IsNumber l p n) (sym is.nodes) (number_at w.nodes.items n p at)

  module _ (loops : List Loop) (nest : IsLoopNest (is_edge w.graph) w.entry loops) (outcomes : List LoopOutcome) (heads : AreHeads S w loops outcomes) where
    abbrev all : List Reason
    all = common ++ flat_map loop_reasons outcomes

    told : AreLoops is.shape loops
    told = nest_told loops nest

    each : AreLoopOutcomes S within loops outcomes
    each = heads_told loops outcomes heads

    unbounded_loop : (one : Reason) → Has (flat_map loop_reasons outcomes) one → IsOther S within callees one
    unbounded_loop one has =
        let found = has_flat loop_reasons outcomes one has in
        let why = unbounded_reason found.0.head found.0.by one found.2 in
        let there : Contains outcomes (record { head = found.0.head; by = Nothing }) =
        subst (λ (o : LoopOutcome). Contains outcomes o) (λ i. record { head = found.0.head; by = why.0 i }) (has_to outcomes found.0 found.1) in
        subst (λ (r : Reason). IsOther S within callees r) why.1
        (record { loops = loops; nest = told; outcomes = outcomes; each = each; there = there })

    loop_listed : (head : Place) → IsUnbounded S within head → Has (flat_map loop_reasons outcomes) (reason.Loop head)
    loop_listed head u =
        let same : u.outcomes ≡ outcomes = outcomes_once S within u.loops loops u.nest told u.outcomes outcomes u.each each in
        let there : Contains outcomes (record { head = head; by = Nothing }) =
        subst (λ (l : List LoopOutcome). Contains l (record { head = head; by = Nothing })) same u.there in
        flat_has loop_reasons outcomes (record { head = head; by = Nothing }) (reason.Loop head) (has_from outcomes (record { head = head; by = Nothing }) there) (inl refl)

    in_common : (one : Reason) → Contains common one → Contains all one
    in_common one has = has_to all one (has_front common (flat_map loop_reasons outcomes) one (has_from common one has))

    listed : (one : Reason) → IsOther S within callees one → Contains all one
    listed (reason.Jump pc) o = in_common (reason.Jump pc) ((members (reason.Jump pc)).1 (is_common S context arguments is callees bounds leads (reason.Jump pc) tt o))
    listed (reason.Call pc) o = in_common (reason.Call pc) ((members (reason.Call pc)).1 (is_common S context arguments is callees bounds leads (reason.Call pc) tt o))
    listed (reason.Instr pc) o = in_common (reason.Instr pc) ((members (reason.Instr pc)).1 (is_common S context arguments is callees bounds leads (reason.Instr pc) tt o))
    listed (reason.Loop head) o =
        has_to all (reason.Loop head) (has_back common (flat_map loop_reasons outcomes) (reason.Loop head) (loop_listed head o))
    listed (reason.Irreducible p q) o = absurd (entries_no_nest (is_edge is.shape.graph) is.shape.entry o.first o.second o.are told.nest told.is)
    listed (reason.Callee call target) o =
        in_common (reason.Callee call target)
        ((members (reason.Callee call target)).1 (is_common S context arguments is callees bounds leads (reason.Callee call target) tt o))
    listed (reason.Recursion pc) o =
        in_common (reason.Recursion pc) ((members (reason.Recursion pc)).1 (is_common S context arguments is callees bounds leads (reason.Recursion pc) tt o))
    listed (reason.Windows need) o =
        in_common (reason.Windows need) ((members (reason.Windows need)).1 (is_common S context arguments is callees bounds leads (reason.Windows need) tt o))
    listed (reason.TooLarge place) o = absurd o

    -- all that is listed is another reason, and each other reason is listed
    others : (one : Reason) → Contains all one ↔ IsOther S within callees one
    others one = (
      λ has. elim (has_either common (flat_map loop_reasons outcomes) one (has_from all one has)) [
        | inl front ↦ common_is S context arguments is callees bounds leads one ((members one).0 (has_to common one front))
        | inr back ↦ unbounded_loop one back
      ],
      listed one,
    )

    loops_told : (list : List LoopOutcome) → list ≡ outcomes → AreTold S within list
    loops_told list same = inl (loops, told, subst (λ (l : List LoopOutcome). AreLoopOutcomes S within loops l) (sym same) each)

    module _ (none : all ≡ []) (answer : Answer) (costed : IsCosted S sub w bounds loops outcomes answer) where
      no_other : (one : Reason) → IsOther S within callees one → ⊥
      no_other one o = nothing_in one (subst (λ (l : List Reason). Contains l one) none (listed one o))

      bounded : AreBounded S within loops costed.passes
      bounded = record { nest = told; outcomes = outcomes; each = each; passes = costed.limits }

      costs_are : costs_in costed.costs ≡ costs_of S is.shape callees
      costs_are = costs_told costed.costs costed.weights

      walks_are : (a : ℕ) → IsGreatestCost (is_edge w.graph) w.entry (loops_in loops) (bound_in loops costed.passes) (costs_in costed.costs) a
          → IsGreatestCost (is_edge is.shape.graph) is.shape.entry (loops_in loops) (bound_in loops costed.passes) (costs_of S is.shape callees) a
      walks_are a g =
          subst (λ (e : ℕ). IsGreatestCost (is_edge is.shape.graph) e (loops_in loops) (bound_in loops costed.passes) (costs_of S is.shape callees) a) (sym is.entry)
          (subst (λ (graph : List (List ℕ)). IsGreatestCost (is_edge graph) w.entry (loops_in loops) (bound_in loops costed.passes) (costs_of S is.shape callees) a)
          (sym is.graph)
          (subst (λ (c : Costs). IsGreatestCost (is_edge w.graph) w.entry (loops_in loops) (bound_in loops costed.passes) c a) costs_are g))

      owns_are : (h a : ℕ)
          → IsGreatestCost (edges_inside (is_edge w.graph) ((loops_in loops).body h)) h (loops_in loops) (bound_in loops costed.passes) (costs_in costed.costs) a
          → IsGreatestCost (edges_inside (is_edge is.shape.graph) ((loops_in loops).body h)) h (loops_in loops) (bound_in loops costed.passes) (costs_of S is.shape callees) a
      owns_are h a g =
          subst (λ (graph : List (List ℕ)). IsGreatestCost (edges_inside (is_edge graph) ((loops_in loops).body h)) h (loops_in loops) (bound_in loops costed.passes) (costs_of S is.shape callees) a)
          (sym is.graph)
          (subst (λ (c : Costs). IsGreatestCost (edges_inside (is_edge w.graph) ((loops_in loops).body h)) h (loops_in loops) (bound_in loops costed.passes) c a) costs_are g)

      greatest_is : (cost : ℕ) → IsToldAs w loops costed.passes costed.costs answer.reasons cost → IsGreatest S within callees cost
      greatest_is cost t = record {
        loops = loops;
        bounds = costed.passes;
        bounded = bounded;
        walks = t.longest.greatest;
        greatest = walks_are t.longest.greatest t.longest.is;
        is = t.is ∙ (t.longest.cost ∙ ap (λ (n : ℕ). n + t.longest.greatest) costed.weights.start);
      }

      free_told : (cost : ℕ) → IsToldAs w loops costed.passes costed.costs answer.reasons cost → (one : Reason) → IsReason S within callees one → ⊥
      free_told cost t one r = elim (cost_or S within callees one r) [
        | inl o ↦ no_other one o
        | inr large ↦
            let fits = t.longest.fits in let e = t.is in
            told_not_large S within callees cost large.0 (greatest_is cost t) (omega (arith, fits, e)) large.2
      ]

      large_is : (t : IsLargeAs w loops costed.passes costed.costs answer.reasons) → IsTooLargeAt S within callees t.place
      large_is t = record {
        node = t.node;
        is = at_shape t.node t.place t.at;
        large = record {
          loops = loops;
          bounds = costed.passes;
          bounded = bounded;
          walks = t.large.greatest;
          greatest = walks_are t.large.greatest t.large.is;
          large = let more = t.large.large in let start = costed.weights.start in omega (arith, more, start);
          own = t.large.own;
          owns = λ h has. owns_are h (t.large.own h) (t.large.owns h has);
          named = subst (λ (e : ℕ). IsNamed (loops_in loops) t.large.own e t.node) (sym is.entry) t.large.named;
        };
      }

      large_reason : (t : IsLargeAs w loops costed.passes costed.costs answer.reasons) → IsReason S within callees (reason.TooLarge t.place)
      large_reason t = (no_other, large_is t)

      by_bound : (b : Option ℕ) → answer.bound ≡ b → IsToldOrLarge w loops costed.passes costed.costs answer.reasons b → IsAnswer S within callees answer
      by_bound None bound t = record {
        loops = loops_told answer.loops costed.loops_are;
        rising = subst (IsStrictlySortedBy reason_cmp) (sym t.one) (one_rises (reason.TooLarge t.place));
        reasons = λ one. (
          λ has.
              let same : reason.TooLarge t.place ≡ one =
              one_of (reason.TooLarge t.place) one (has_from (reason.TooLarge t.place ∷ []) one (subst (λ (l : List Reason). Contains l one) t.one has)) in
              subst (λ (r : Reason). IsReason S within callees r) same (large_reason t),
          λ r. elim (cost_or S within callees one r) [
            | inl o ↦ absurd (no_other one o)
            | inr large ↦
                let place : t.place ≡ large.0 = large_once S within callees t.place large.0 (large_is t) large.2 in
                subst (λ (l : List Reason). Contains l one) (sym t.one)
                (has_to (reason.TooLarge t.place ∷ []) one (inl (ap (λ (p : Place). reason.TooLarge p) place ∙ sym large.1)))
          ],
        );
        bound = subst (IsBoundWith S within callees) (sym bound) (record { one = reason.TooLarge t.place; is = large_reason t });
      }
      by_bound (Some cost) bound t = record {
        loops = loops_told answer.loops costed.loops_are;
        rising = subst (IsStrictlySortedBy reason_cmp) (sym t.none) none_rises;
        reasons = λ one. (
          λ has. absurd (nothing_in one (subst (λ (l : List Reason). Contains l one) t.none has)),
          λ r. absurd (free_told cost t one r),
        );
        bound = subst (IsBoundWith S within callees) (sym bound)
            (record {
              free = free_told cost t;
              greatest = greatest_is cost t;
              told = let fits = t.longest.fits in let e = t.is in omega (arith, fits, e);
            });
      }

      free_is : IsAnswer S within callees answer
      free_is = by_bound answer.bound refl costed.told

    comes_is : (answer : Answer) → IsFree S sub w bounds loops outcomes all answer ⊎ IsRefused outcomes all answer → IsAnswer S within callees answer
    comes_is answer (inl free) = free_is free.none answer free.costed
    comes_is answer (inr r) = refused_is S within callees all answer (loops_told answer.loops r.loops_are) others r.first r.some r.put r.unbounded

  -- with a nest
  pub nested_is : (loops : List Loop) → IsLoopNest (is_edge w.graph) w.entry loops → (answer : Answer) → IsNested S sub w bounds loops common answer
      → IsAnswer S (inside_of context arguments is) callees answer
  nested_is loops nest answer n = comes_is loops nest n.outcomes n.heads answer n.comes

  module _ (x y : ℕ) (entries : AreFirstEntries (is_edge w.graph) w.entry x y) (answer : Answer) (s : IsSplit w x y common answer) where
    are : AreFirstEntries (is_edge is.shape.graph) is.shape.entry x y
    are =
        subst (λ (e : ℕ). AreFirstEntries (is_edge is.shape.graph) e x y) (sym is.entry)
        (subst (λ (g : List (List ℕ)). AreFirstEntries (is_edge g) w.entry x y) (sym is.graph) entries)

    no_nest : (loops : List Loop) → AreLoops is.shape loops → ⊥
    no_nest loops nest = entries_no_nest (is_edge is.shape.graph) is.shape.entry x y are nest.nest nest.is

    irreducible : IsIrreducible within s.one s.two
    irreducible = record { first = x; second = y; at_first = at_shape x s.one s.at_one; at_second = at_shape y s.two s.at_two; are = are }

    abbrev both : List Reason
    both = common ++ reason.Irreducible s.one s.two ∷ []

    both_common : (one : Reason) → Contains common one → Contains both one
    both_common one has = has_to both one (has_front common (reason.Irreducible s.one s.two ∷ []) one (has_from common one has))

    entry_same : (p q : Place) → IsIrreducible within p q → Contains both (reason.Irreducible p q)
    unfolding irreducible
    entry_same p q o =
        let same = entries_one (is_edge is.shape.graph) is.shape.entry x y o.first o.second are o.are in
        let one : s.one ≡ p = one_place is.shape.nodes s.one p x o.first same.0 irreducible.at_first o.at_first in
        let two : s.two ≡ q = one_place is.shape.nodes s.two q y o.second same.1 irreducible.at_second o.at_second in
        has_to both (reason.Irreducible p q)
        (has_back common (reason.Irreducible s.one s.two ∷ []) (reason.Irreducible p q) (inl (λ i. reason.Irreducible (one i) (two i))))

    split_listed : (one : Reason) → IsOther S within callees one → Contains both one
    split_listed (reason.Jump pc) o = both_common (reason.Jump pc) ((members (reason.Jump pc)).1 (is_common S context arguments is callees bounds leads (reason.Jump pc) tt o))
    split_listed (reason.Call pc) o = both_common (reason.Call pc) ((members (reason.Call pc)).1 (is_common S context arguments is callees bounds leads (reason.Call pc) tt o))
    split_listed (reason.Instr pc) o =
        both_common (reason.Instr pc) ((members (reason.Instr pc)).1 (is_common S context arguments is callees bounds leads (reason.Instr pc) tt o))
    split_listed (reason.Loop head) o = absurd (no_nest o.loops o.nest)
    split_listed (reason.Irreducible p q) o = entry_same p q o
    split_listed (reason.Callee call target) o =
        both_common (reason.Callee call target)
        ((members (reason.Callee call target)).1 (is_common S context arguments is callees bounds leads (reason.Callee call target) tt o))
    split_listed (reason.Recursion pc) o =
        both_common (reason.Recursion pc) ((members (reason.Recursion pc)).1 (is_common S context arguments is callees bounds leads (reason.Recursion pc) tt o))
    split_listed (reason.Windows need) o =
        both_common (reason.Windows need) ((members (reason.Windows need)).1 (is_common S context arguments is callees bounds leads (reason.Windows need) tt o))
    split_listed (reason.TooLarge place) o = absurd o

    split_others : (one : Reason) → Contains both one ↔ IsOther S within callees one
    split_others one = (
      λ has. elim (has_either common (reason.Irreducible s.one s.two ∷ []) one (has_from both one has)) [
        | inl front ↦ common_is S context arguments is callees bounds leads one ((members one).0 (has_to common one front))
        | inr last ↦
            subst (λ (r : Reason). IsOther S within callees r) (one_of (reason.Irreducible s.one s.two) one last) irreducible
      ],
      split_listed one,
    )

    -- and without one
    pub split_is : IsAnswer S (inside_of context arguments is) callees answer
    split_is =
        refused_is S within callees both answer (inr (no_nest, s.none)) split_others (reason.Irreducible s.one s.two)
        (entry_same s.one s.two irreducible) s.put s.unbounded
