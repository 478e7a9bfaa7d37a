-- What the greatest cost of a context needs.
use Rattle.std.proofs.Common.{◌≡◌, ◌==◌, ◌++◌, Result, Ok, Err, Contains, false, ℕ, suc, ◌<◌, ◌≤◌, true, List, [], ◌∷◌, length, get_or, map, Option, Some, None, inl, inr, refl, sym, ap, subst, ◌∙◌, arith}
use Rattle.std.specs.Prelude.{All, IfOk, IfSome, if◌then◌else◌, is_some, slice_get, slice_index, unwrap_or}
use Rattle.std.specs.List.{flat_map}
use Rattle.std.proofs.lemmas.Bool.{eq-eqb, false≢true, ltb-true}
use Rattle.std.proofs.lemmas.List.{length-map}
use Rattle.std.proofs.lemmas.List.Elements.{All-get_or, Contains-get_or}
use Rattle.std.proofs.lemmas.Option.{slice_get-get_or, slice_get_within}
use Rattle.abs_state.specs.Key.{compare}
use Rattle.abs_state.specs.declared.key.Place.{Place}
use Rattle.bt_base.specs.Graph.{is_edge}
use Rattle.context_answers.proofs.Lists.{flat_has, get_there, mapped_at, some_same}
use Rattle.context_answers.specs.Adding.{IsPutInOrder, head_reasons, loop_reasons}
use Rattle.context_answers.specs.Found.{AreWeights, IsLimited, IsRefused, passes_in}
use Rattle.context_answers.specs.declared.answer.Answer.{Answer}
use Rattle.context_bounds.specs.Extras.{cost_between}
use Rattle.context_bounds.specs.Nodes.{costs_at}
use Rattle.context_heads.specs.Passes.{AllowsOne}
use Rattle.context_outcomes.specs.Heads.{AreHeadBounds, passes_by}
use Rattle.context_inside.specs.declared.within.Within.{Within}
use Rattle.context_outcomes.specs.Setting.{Setting}
use Rattle.context_outcomes.specs.Spending.{start_cost}
use Rattle.flow_system.specs.Facts.{fact_at}
use Rattle.graph_laws.specs.Nest.{IsReached}
use Rattle.graph_view.proofs.Stands.{Has, has_back, has_from}
use Rattle.loop_nest.proofs.Lists.{same_number}
use Rattle.loop_nest.specs.LoopNest.{IsLoopNest}
use Rattle.loop_nest.specs.declared.natural_loop.Loop.{Loop}
use Rattle.path_bound.proofs.Facts.{below}
use Rattle.path_bound.proofs.Placed.{head_place, place_reads}
use Rattle.path_bound.specs.LongWalk.{IsTooLarge}
use Rattle.path_bound.specs.Places.{AreBounds, AreLoopsBelow, extra_of, place_of}
use Rattle.path_bound.specs.declared.weights.Costs.{Costs as Weights}
use Rattle.transfer_rules.specs.Give.{Facts}
use Rattle.wcet_report.specs.declared.loops.By.{By}
use Rattle.wcet_report.specs.declared.loops.By.TheVariants.{Asserted, Counter, Nothing}
use Rattle.wcet_report.specs.declared.loops.LoopOutcome.{LoopOutcome}
use Rattle.wcet_report.specs.declared.reason.Reason.{Reason}
use Rattle.wcet_report.specs.declared.reason.Reason.TheVariants as reason

-- what stands at a place of outcomes is so
holds_at : (P : LoopOutcome → Type 0) (outcomes : List LoopOutcome) (k : ℕ) (o : LoopOutcome) → All P outcomes → slice_get outcomes k ≡ Some o → P o
holds_at P outcomes k o all at =
    let low = slice_get_within outcomes k o at in
    subst P (some_same (sym (slice_get-get_or outcomes k o low) ∙ at)) (All-get_or P outcomes k o low all)

limit_is : (o : Option ℕ) → is_some o ≡ true → o ≡ Some (unwrap_or o 0)
limit_is None e = absurd (false≢true e)
limit_is (Some n) e = refl

-- the passes of limited loops are bounds of their heads
pub limits_of : (outcomes : List LoopOutcome) (passes : List ℕ) → passes ≡ map passes_in outcomes → All IsLimited outcomes → AreHeadBounds outcomes passes
limits_of outcomes passes are limited = record {
  count = ap length are ∙ length-map outcomes passes_in;
  each = λ k bound o at told.
      let here : slice_get (map passes_in outcomes) k ≡ Some (passes_in o) = mapped_at passes_in outcomes k o at in
      let same : passes_in o ≡ bound = some_same (sym here ∙ (ap (λ (l : List ℕ). slice_get l k) (sym are) ∙ told)) in
      limit_is (passes_by o.by) (holds_at IsLimited outcomes k o limited at) ∙ ap Some same;
}

at_least_one : (outcome : LoopOutcome) → AllowsOne outcome → IsLimited outcome → 1 ≤ passes_in outcome
at_least_one outcome allows limited = by (passes_by outcome.by) refl where
  by : (o : Option ℕ) → passes_by outcome.by ≡ o → 1 ≤ passes_in outcome
  by None e = absurd (false≢true (sym (ap is_some e) ∙ limited))
  by (Some n) e =
      let one : 1 ≤ n = subst (λ (q : Option ℕ). IfSome q (λ passes. 1 ≤ passes)) e allows in
      let same : passes_in outcome ≡ n = ap (λ (q : Option ℕ). unwrap_or q 0) e in
      omega (arith, one, same)

-- so they are at least 1, one for each loop
pub bounds_fit : (loops : List Loop) (outcomes : List LoopOutcome) (passes : List ℕ) → passes ≡ map passes_in outcomes → length outcomes ≡ length loops → All IsLimited outcomes
    → All AllowsOne outcomes → AreBounds loops passes
bounds_fit loops outcomes passes are many limited allows =
    let long : length passes ≡ length outcomes = ap length are ∙ length-map outcomes passes_in in
    record {
      count = long ∙ many;
      one = λ k low.
          let o = get_there outcomes k (omega (arith, low, long)) in
          let least = at_least_one o.0 (holds_at AllowsOne outcomes k o.0 allows o.1) (holds_at IsLimited outcomes k o.0 limited o.1) in
          let here : slice_get passes k ≡ Some (passes_in o.0) = ap (λ (l : List ℕ). slice_get l k) are ∙ mapped_at passes_in outcomes k o.0 o.1 in
          let at : slice_index passes k ≡ passes_in o.0 = some_same (sym (slice_get-get_or passes k 0 low) ∙ here) in
          omega (arith, least, at);
    }

-- each program point has its cost
pub costs_long : (S : Setting) (facts : Facts) (nodes : List Place) (bounds : List (Option ℕ)) → length bounds ≡ length nodes → length (costs_at S facts nodes bounds) ≡ length nodes
costs_long S facts [] bounds same = refl
costs_long S facts (p ∷ nodes) [] same = absurd (omega (arith, same))
costs_long S facts (p ∷ nodes) (b ∷ bounds) same = ap suc (costs_long S facts nodes bounds (omega (arith, same)))

-- the node that is named is one of the graph
pub named_low : (graph : List (List ℕ)) (entry : ℕ) (loops : List Loop) (bounds : List ℕ) (costs : Weights) (node : ℕ) → IsLoopNest (is_edge graph) entry loops
    → ((n : ℕ) → n < length graph → IsReached (is_edge graph) entry n) → entry < length graph → IsTooLarge (is_edge graph) entry loops bounds costs node → node < length graph
named_low graph entry loops bounds costs node nest reached low large = elim large.named [
  | inl blamed ↦
      let under : AreLoopsBelow (length graph) loops = below graph entry loops nest reached in
      let at = place_reads loops node (ltb-true (place_of loops node) (length loops) (sym (head_place loops node) ∙ blamed.0.head)) in
      let within = under.heads (place_of loops node) at.one at.at in
      let same = at.head in
      omega (arith, within, same)
  | inr begins ↦ let same = begins.0 in omega (arith, same, low)
]

-- what three clauses say of what is there, together
pub if_ok_three : {X E : Type 0} (r : Result X E) (P Q R T : X → Type 0) → ((x : X) → P x → Q x → R x → T x) → IfOk r P → IfOk r Q → IfOk r R → IfOk r T
if_ok_three (Ok x) P Q R T f p q r = f x p q r
if_ok_three (Err e) P Q R T f p q r = tt

-- the costs of a context, by lists of its program points that are lent
pub weights_of : (S : Setting) (sub : ℕ) (w : Within) (lent : List Place) (bounds : List (Option ℕ)) (costs : Weights) → lent ≡ w.nodes.items
    → costs.start ≡ start_cost S sub → costs.node.items ≡ costs_at S (fact_at compare w.facts) lent bounds
    → ((n m : ℕ) → extra_of costs.extra.items n m ≡ (if is_edge w.graph n m then cost_between S.image S.costs lent n m else 0)) → AreWeights S sub w bounds costs
weights_of S sub w lent bounds costs same start node extra = record {
  start = start;
  node = node ∙ ap (λ (l : List Place). costs_at S (fact_at compare w.facts) l bounds) same;
  extra = λ n m. extra n m ∙ ap (λ (l : List Place). if is_edge w.graph n m then cost_between S.image S.costs l n m else 0) same;
}

pub is_zero : (n : ℕ) → true ≡ (n == 0) → n ≡ 0
is_zero n e = same_number n 0 (sym e)

pub not_zero : (n : ℕ) → false ≡ (n == 0) → n ≡ 0 → ⊥
not_zero n e zero_is = false≢true (e ∙ eq-eqb n 0 zero_is)

nothing_there : (xs : List Reason) → length xs ≡ 0 → xs ≡ []
nothing_there [] e = refl
nothing_there (x ∷ xs) e = absurd (omega (arith, e))

one_there : (xs : List Reason) → (length xs ≡ 0 → ⊥) → (first : Reason) × Contains xs first
one_there [] e = absurd (e refl)
one_there (x ∷ xs) e = (x, (0, omega arith, refl))

module _ (common : List Reason) (outcomes lent : List LoopOutcome) (new : List Reason) (pushed : new ≡ common ++ flat_map loop_reasons lent) (same : lent ≡ outcomes) where
  abbrev all : List Reason
  all = common ++ flat_map loop_reasons outcomes

  all_are : new ≡ common ++ flat_map loop_reasons outcomes
  all_are = pushed ∙ ap (λ (l : List LoopOutcome). common ++ flat_map loop_reasons l) same

  -- where nothing was gathered there is no reason
  pub none_gathered : length new ≡ 0 → common ++ flat_map loop_reasons outcomes ≡ []
  none_gathered none = sym all_are ∙ nothing_there new none

  -- and so something bounds each loop
  pub all_limited : length new ≡ 0 → All IsLimited outcomes
  all_limited none k d low = by (get_or outcomes k d).by refl where
    has : Has outcomes (get_or outcomes k d)
    has = has_from outcomes (get_or outcomes k d) (Contains-get_or outcomes k d low)

    unbounded : (get_or outcomes k d).by ≡ Nothing → ⊥
    unbounded e =
        let own : Has (loop_reasons (get_or outcomes k d)) (reason.Loop (get_or outcomes k d).head) =
        subst (λ (b : By). Has (head_reasons (get_or outcomes k d).head b) (reason.Loop (get_or outcomes k d).head)) (sym e) (inl refl) in
        let there = flat_has loop_reasons outcomes (get_or outcomes k d) (reason.Loop (get_or outcomes k d).head) has own in
        let gathered : Has all (reason.Loop (get_or outcomes k d).head) = has_back common (flat_map loop_reasons outcomes) (reason.Loop (get_or outcomes k d).head) there in
        subst (λ (l : List Reason). Has l (reason.Loop (get_or outcomes k d).head)) (none_gathered none) gathered

    by : (b : By) → (get_or outcomes k d).by ≡ b → is_some (passes_by (get_or outcomes k d).by) ≡ true
    by (Counter counter) e = ap (λ (b : By). is_some (passes_by b)) e
    by (Asserted count) e = ap (λ (b : By). is_some (passes_by b)) e
    by Nothing e = absurd (unbounded e)

  -- where something was gathered there are reasons
  pub some_gathered : (length new ≡ 0 → ⊥) → (answer : Answer) → answer.loops ≡ outcomes → IsPutInOrder new answer.reasons → answer.bound ≡ None
      → IsRefused outcomes (common ++ flat_map loop_reasons outcomes) answer
  some_gathered some answer loops put unbounded =
      let one = one_there new some in
      record {
        loops_are = loops;
        first = one.0;
        some = subst (λ (l : List Reason). Contains l one.0) all_are one.1;
        put = subst (λ (l : List Reason). IsPutInOrder l answer.reasons) all_are put;
        unbounded = unbounded;
      }
