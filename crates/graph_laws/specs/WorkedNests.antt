-- The laws of nests at the nested loops, and labels that show a cost, worked out in full.
use Rattle.std.specs.Prelude.{◌≡◌, ℕ, Bool, true, false, List, [], ◌∷◌, ◌++◌}
use Rattle.graph_laws.specs.Walk.{IsWalk, Costs}
use Rattle.graph_laws.specs.Loops.{Loops, AreLoops, is_back, IsForward, edges_inside, loops_inside}
use Rattle.graph_laws.specs.Labels.{Labels, AreLabels, AreChosen, most_from}
use Rattle.graph_laws.specs.Nest.{Nest, IsNest, loops_of, cut, SamePart, edges_below, AreReached, IsReached, HasEntrance, AreSame}
use Rattle.graph_laws.specs.Worked.{ones, two_nodes, two_loops, nested, one_or_two, nested_body, nested_nest}

-- the nested loops are natural loops, whose nodes are all reached
pub record NestedLoopsAreLoops : Type 0 where
  pub reached : AreReached nested 0
  pub loops : AreLoops nested 0 (loops_of nested_nest)

-- inside the inner body the inner loop alone is left, entered at its head
pub record InnerLoopIsALoop : Type 0 where
  pub loops : AreLoops (edges_inside nested one_or_two) 1 (loops_inside (loops_of nested_nest) 1)
  pub inner : (loops_inside (loops_of nested_nest) 1).has 1 ≡ true
  pub outer : (loops_inside (loops_of nested_nest) 1).has 0 ≡ false

-- a walk goes round the inner loop by the edge back to its head; a walk forward leads through all three nodes; and no
-- walk forward comes back to its first node
pub record NestedLoopsUnwind : Type 0 where
  pub round : IsWalk nested 1 (2 ∷ 1 ∷ [])
  pub back : is_back (loops_of nested_nest) 2 1 ≡ true
  pub through : IsWalk nested 0 (1 ∷ 2 ∷ [])
  pub forward : IsForward (loops_of nested_nest) 0 (1 ∷ 2 ∷ [])
  pub none : (n : ℕ) (between : List ℕ) → IsWalk nested n (between ++ n ∷ []) → IsForward (loops_of nested_nest) n (between ++ n ∷ []) → ⊥

-- below the outer head the inner loop is a part, both of the graph without the edges into the head and of the graph of
-- the other nodes; the head itself is in no such part
pub record InnerLoopIsAPart : Type 0 where
  pub without : SamePart (cut nested (0 ∷ [])) 1 2
  pub below : SamePart (edges_below nested (nested_body 0) 0) 1 2
  pub apart : SamePart (edges_below nested (nested_body 0) 0) 1 0 → ⊥

-- each nest of the nested loops is the same
abbrev pub NestedLoopsHaveOneNest : Type 0
NestedLoopsHaveOneNest = (nest : Nest) → IsNest nested 0 nest → AreSame nested_nest nest

-- the inner body, whose node 2 is reached, is entered, and at its head alone
pub record InnerBodyIsEntered : Type 0 where
  pub reached : IsReached nested 0 2
  pub entered : HasEntrance nested 0 one_or_two
  pub only : (entrance : HasEntrance nested 0 one_or_two) → entrance.node ≡ 1

-- labels that ask enough, each what some edge asks, which say a cost
pub record AreCostLabels (edge : ℕ → ℕ → Bool) (entry : ℕ) (loops : Loops) (bound : ℕ → ℕ) (costs : Costs) (cost : ℕ) : Type 0 where
  pub labels : Labels
  pub rank : ℕ → ℕ
  pub asked : AreLabels edge loops bound costs labels
  pub chosen : AreChosen edge loops bound costs labels rank
  pub says : most_from loops bound labels entry ≡ cost

-- the loop of two nodes has labels that say six
abbrev pub LoopOfTwoHasLabels : Type 0
LoopOfTwoHasLabels = AreCostLabels two_nodes 0 two_loops (λ _. 3) ones 6
