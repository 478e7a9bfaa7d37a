-- A survey, a pass over all nodes and a walk or a named node make the answer.
use Rattle.std.proofs.Common.{◌≡◌, ◌+◌, ◌<◌, ◌≤◌, ℕ, true, Option, Some, None, List, length, get_or, refl, sym, subst, ◌∙◌, arith, Vec, Global}
use Rattle.std.proofs.lemmas.Bool.{ltb-true}
use Rattle.bt_base.specs.Graph.{has, is_edge, IsGraph}
use Rattle.graph_laws.specs.Nest.{IsReached}
use Rattle.loop_nest.specs.LoopNest.{IsLoopNest}
use Rattle.loop_nest.specs.declared.natural_loop.Loop.{Loop}
use Rattle.path_bound.specs.declared.choosing.Label.{Label}
use Rattle.path_bound.specs.declared.answering.Best.{Best}
use Rattle.path_bound.specs.declared.long_walk.LongWalk.{LongWalk}
use Rattle.path_bound.specs.declared.refusal.PathRefusal.{PathRefusal}
use Rattle.path_bound.specs.declared.refusal.PathRefusal.TheVariants as refusal
use Rattle.path_bound.specs.declared.stepping.Step.{Step}
use Rattle.path_bound.specs.declared.surveying.Survey.{Survey}
use Rattle.path_bound.specs.declared.weights.Costs.{Costs as Weights}
use Rattle.path_bound.specs.Answered.{IsBest, IsOver, IsOverOr}
use Rattle.path_bound.specs.Blamed.{IsNamedBy}
use Rattle.path_bound.specs.Capped.{limit, cap}
use Rattle.path_bound.specs.Choosing.{label_at, next_of, cost_of}
use Rattle.path_bound.specs.LongWalk.{IsLongest, IsTooLarge, IsRefusal}
use Rattle.path_bound.specs.Places.{place_of, loops_in, bound_in, AreBounds}
use Rattle.path_bound.specs.Ranked.{rank_in}
use Rattle.path_bound.specs.Surveyed.{AreFit, IsSurveyed}
use Rattle.path_bound.specs.Turning.{ArePassed, IsFollowed}
use Rattle.path_bound.proofs.Bounded.{is_longest, is_too_large}
use Rattle.path_bound.proofs.Facts.{are_loops, below, ends, hold}
use Rattle.path_bound.proofs.Followed.{next_falls, next_there}
use Rattle.path_bound.proofs.Grounded.{ground, whole_order, edge_nodes}
use Rattle.path_bound.proofs.Ordered.{rank_within}
use Rattle.path_bound.proofs.Placed.{head_place}

module _ (graph : List (List ℕ)) (entry : ℕ) (loops : List Loop) (bounds : List ℕ) (costs : Weights) (graph_is : IsGraph graph)
    (is : IsLoopNest (is_edge graph) entry loops)
    (all : (n : ℕ) → n < length graph → IsReached (is_edge graph) entry n) where
  -- the loops of a nest are fit
  pub fit : AreFit graph loops bounds costs
  fit = record {
    below = below graph entry loops is all;
    ends = ends graph entry loops is all;
    hold = hold graph entry loops is all;
    ground = λ nodes order are sorted. ground graph entry loops bounds costs graph_is is all nodes are order sorted;
  }

  module _ (inside : entry < length graph) (bounded : AreBounds loops bounds) (survey : Survey)
      (s : IsSurveyed graph loops bounds costs (length survey.order.items) survey) where
    pub order_nodes : (n : ℕ) → has survey.order.items n ≡ true → n < length graph
    order_nodes n h = s.are_nodes.only n (sym (s.sorted.same n) ∙ h)

    -- the entry has its place in the order
    pub entry_placed : rank_in survey.order.items entry < length survey.order.items
    entry_placed = rank_within survey.order.items entry (s.sorted.same entry ∙ s.are_nodes.all entry inside)

    one : (h : ℕ) → (loops_in loops).has h ≡ true → 1 ≤ bound_in loops bounds h
    one h a =
        let w : place_of loops h < length loops =
        ltb-true (place_of loops h) (length loops) (sym (head_place loops h) ∙ a) in bounded.one (place_of loops h)
        (omega (arith, w, bounded.count))

    module _ (labels : List (Option Label)) (passed : ArePassed survey.order.items None costs.node.items survey.steps.items survey.laps.items labels) where
      pub leads_within : (n m : ℕ) → next_of (label_at labels n) ≡ Some m → m < length graph
      leads_within n m e = order_nodes m (next_there survey.order.items None costs.node.items survey.steps.items survey.laps.items labels passed n m e)

      pub leads_down : (n m : ℕ) → next_of (label_at labels n) ≡ Some m → rank_in survey.order.items m < rank_in survey.order.items n
      leads_down n m e = next_falls survey.order.items None costs.node.items survey.steps.items survey.laps.items labels passed n m e

      module _ (cost : ℕ) (told : cost ≡ cap (costs.start + cap (get_or survey.laps.items entry 0 + cost_of (label_at labels entry)))) where
        pub the_longest : cost < limit → (walk : List ℕ) → IsFollowed labels entry walk → (long : LongWalk) → long.cost ≡ cost
            → long.walk.items ≡ walk → long.turns.items ≡ survey.turns.items
            → IsLongest (is_edge graph) entry loops bounds costs long
        the_longest fits walk followed long c w t =
            is_longest graph entry loops bounds costs survey.order.items (has s.nodes)
            (ground graph entry loops bounds costs graph_is is all s.nodes s.are_nodes survey.order.items s.sorted)
            (are_loops graph entry loops is all) one
            (whole_order graph entry loops bounds costs graph_is is all s.nodes s.are_nodes survey.order.items s.sorted)
            (λ n m e. (edge_nodes graph entry loops bounds costs graph_is is all s.nodes s.are_nodes survey.order.items s.sorted n m e).1)
            (s.are_nodes.all entry inside)
            survey.steps.items s.rows.row survey.laps.items survey.turns.items s.turned is.rising costs.node.items
            (λ n. refl) labels passed cost told fits walk followed long c w t

        pub the_refusal : limit ≤ cost → (named : ℕ)
            → IsNamedBy (is_edge graph) loops (loops_in loops) entry costs.node.items survey.steps.items survey.laps.items named
            → IsTooLarge (is_edge graph) entry loops bounds costs named
        the_refusal l named by =
            subst (λ (n : ℕ). IsTooLarge (is_edge graph) entry loops bounds costs n) (sym by.is)
            (is_too_large graph entry loops bounds costs survey.order.items (has s.nodes)
            (ground graph entry loops bounds costs graph_is is all s.nodes s.are_nodes survey.order.items s.sorted)
            (are_loops graph entry loops is all) one
            (whole_order graph entry loops bounds costs graph_is is all s.nodes s.are_nodes survey.order.items s.sorted)
            (λ n m e. (edge_nodes graph entry loops bounds costs graph_is is all s.nodes s.are_nodes survey.order.items s.sorted n m e).1)
            (s.are_nodes.all entry inside)
            survey.steps.items s.rows.row survey.laps.items survey.turns.items s.turned is.rising costs.node.items
            (λ n. refl) by.large by.are labels passed cost told l)

    module _ (order node : List ℕ) (steps : List (Vec Step Global)) (laps : List ℕ) (order_is : order ≡ survey.order.items)
        (node_is : node ≡ costs.node.items) (steps_is : steps ≡ survey.steps.items)
        (laps_is : laps ≡ survey.laps.items) where
      -- what is found by a survey is the answer
      pub best_longest : (best : Best) → IsBest order node steps laps costs.start entry best → (long : LongWalk) → long.cost ≡ best.cost
          → long.walk.items ≡ best.walk.items → long.turns.items ≡ survey.turns.items
          → IsLongest (is_edge graph) entry loops bounds costs long
      best_longest best b long c w t =
          let one_step : IsBest survey.order.items node steps laps costs.start entry best =
          subst (λ (x : List ℕ). IsBest x node steps laps costs.start entry best) order_is b in
          let two_step : IsBest survey.order.items costs.node.items steps laps costs.start entry best =
          subst (λ (x : List ℕ). IsBest survey.order.items x steps laps costs.start entry best) node_is one_step in
          let three_step : IsBest survey.order.items costs.node.items survey.steps.items laps costs.start entry best =
          subst (λ (x : List (Vec Step Global)). IsBest survey.order.items costs.node.items x laps costs.start entry best) steps_is two_step in
          let is_best : IsBest survey.order.items costs.node.items survey.steps.items survey.laps.items costs.start entry best =
          subst (λ (x : List ℕ). IsBest survey.order.items costs.node.items survey.steps.items x costs.start entry best) laps_is three_step in
          the_longest is_best.priced.labels is_best.priced.passed best.cost is_best.priced.told is_best.fits best.walk.items is_best.followed long c w t

      pub over_refusal : (named : ℕ) → IsOver (is_edge graph) loops (loops_in loops) order node steps laps costs.start entry named
          → IsTooLarge (is_edge graph) entry loops bounds costs named
      over_refusal named o =
          let one_step : IsOver (is_edge graph) loops (loops_in loops) survey.order.items node steps laps costs.start entry named =
          subst (λ (x : List ℕ). IsOver (is_edge graph) loops (loops_in loops) x node steps laps costs.start entry named) order_is o in
          let two_step : IsOver (is_edge graph) loops (loops_in loops) survey.order.items costs.node.items steps laps costs.start entry named =
          subst (λ (x : List ℕ). IsOver (is_edge graph) loops (loops_in loops) survey.order.items x steps laps costs.start entry named) node_is one_step in
          let three_step : IsOver (is_edge graph) loops (loops_in loops) survey.order.items costs.node.items survey.steps.items laps costs.start entry named =
          subst (λ (x : List (Vec Step Global)). IsOver (is_edge graph) loops
          (loops_in loops) survey.order.items costs.node.items x laps costs.start entry named) steps_is two_step in
          let is_over : IsOver (is_edge graph) loops
          (loops_in loops) survey.order.items costs.node.items survey.steps.items survey.laps.items costs.start entry named =
          subst (λ (x : List ℕ). IsOver (is_edge graph) loops
          (loops_in loops) survey.order.items costs.node.items survey.steps.items x costs.start entry named) laps_is three_step in
          the_refusal is_over.priced.labels is_over.priced.passed is_over.cost is_over.priced.told is_over.over named is_over.by

      -- a refusal is for a cost that is too great, or for memory
      pub over_or : (why : PathRefusal) → IsOverOr (is_edge graph) loops (loops_in loops) order node steps laps costs.start entry why
          → IsRefusal (is_edge graph) entry loops bounds costs why
      over_or (refusal.TooLarge named) o = over_refusal named o
      over_or refusal.Want o = tt

-- the loops and the count of a survey are told otherwise
pub survey_told : (graph : List (List ℕ)) (loops others : List Loop) (bounds : List ℕ) (costs : Weights) (count more : ℕ) (survey : Survey)
    → loops ≡ others → count ≡ more
    → IsSurveyed graph loops bounds costs count survey → IsSurveyed graph others bounds costs more survey
survey_told graph loops others bounds costs count more survey e f s =
    subst (λ (n : ℕ). IsSurveyed graph others bounds costs n survey) f (subst (λ (l : List Loop). IsSurveyed graph l bounds costs count survey) e s)
