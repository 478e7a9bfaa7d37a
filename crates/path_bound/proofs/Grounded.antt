-- An order of all nodes of a graph with a nest, and what it says of loops.
use Rattle.std.proofs.Common.{◌≡◌, ℕ, ◌<◌, inl, inr, true, Option, List, length, sym, ap, ◌∙◌, arith}
use Rattle.std.proofs.lemmas.Bool.Decides.{eqb_tells}
use Rattle.bt_base.specs.Graph.{has, is_edge, IsGraph}
use Rattle.graph_laws.specs.Nest.{IsReached}
use Rattle.loop_nest.specs.Finding.{AreNodes}
use Rattle.loop_nest.specs.LoopNest.{IsLoopNest}
use Rattle.loop_nest.specs.declared.natural_loop.Loop.{Loop}
use Rattle.path_bound.specs.declared.weights.Costs.{Costs as Weights}
use Rattle.path_bound.specs.Places.{place_of, held, loops_in}
use Rattle.path_bound.specs.Ranked.{IsOrder, IsForwardOrder}
use Rattle.path_bound.specs.Turned.{task_of, IsGround}
use Rattle.path_bound.proofs.Facts.{edge_from, loop_at, are_loops, reach, below, turn}
use Rattle.path_bound.proofs.Ordered.{order_falls, body_below, forward_order}
use Rattle.path_bound.proofs.Placed.{IsLoopAt}

module _ (graph : List (List ℕ)) (entry : ℕ) (loops : List Loop) (bounds : List ℕ) (costs : Weights) (graph_is : IsGraph graph)
    (is : IsLoopNest (is_edge graph) entry loops)
    (all : (n : ℕ) → n < length graph → IsReached (is_edge graph) entry n) (nodes : List ℕ) (are_nodes : AreNodes (length graph) nodes)
    (order : List ℕ) (sorted : IsOrder (is_edge graph) (loops_in loops) (has nodes) order) where
  -- both ends of an edge are nodes
  pub edge_nodes : (n m : ℕ) → is_edge graph n m ≡ true → (has nodes n ≡ true) × (has nodes m ≡ true)
  edge_nodes n m e = (are_nodes.all n (edge_from graph n m e), are_nodes.all m (graph_is.within n m e))

  body_nodes : (h n : ℕ) → (loops_in loops).has h ≡ true → has nodes h ≡ true → (loops_in loops).body h n ≡ true → has nodes n ≡ true
  body_nodes h n a i b =
      let l : IsLoopAt loops (place_of loops h) h = loop_at graph entry loops is all h a in
      are_nodes.all n ((below graph entry loops is all).nodes (place_of loops h) n l.one l.at (ap (λ (o : Option Loop). held o n) (sym l.at) ∙ b))

  head_node : (h : ℕ) → (loops_in loops).has h ≡ true → has nodes h ≡ true
  head_node h a =
      let l : IsLoopAt loops (place_of loops h) h = loop_at graph entry loops is all h a in
      are_nodes.all h (let b = (below graph entry loops is all).heads (place_of loops h) l.one l.at in omega (arith, b, l.head))

  -- the order of all nodes is a forward one
  pub whole_order : IsForwardOrder (is_edge graph) (loops_in loops) (has nodes) order
  whole_order = forward_order (is_edge graph) (loops_in loops) (has nodes) order sorted (reach graph entry loops is all) body_nodes

  -- the order is the ground on which labels stand
  pub ground : IsGround (task_of graph loops bounds costs) order
  ground = record {
    falls = λ n m e f. let b = edge_nodes n m e in order_falls (is_edge graph) (loops_in loops) (has nodes) order sorted n m b.0 b.1 e f;
    inner = λ h m a b ne. body_below (is_edge graph) (loops_in loops) (has nodes) order sorted (reach graph entry loops is all) body_nodes h m a
        (head_node h a) b ne;
    forward = λ h list a s. forward_order (is_edge graph) (loops_in loops) ((loops_in loops).body h) list s (reach graph entry loops is all)
        (λ k n b i j. elim (eqb_tells k h) [
          | inl q ↦ ap (λ (x : ℕ). (loops_in loops).body x n) (sym q.1) ∙ j
          | inr q ↦ (are_loops graph entry loops is all).within k h n b a i q.1 j
        ]);
    placed = λ h a. sorted.same h ∙ head_node h a;
    once = sorted.once;
    head = λ h a. (are_loops graph entry loops is all).head h a;
    turns = turn graph entry loops is all;
  }
