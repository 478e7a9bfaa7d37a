-- What a nest says of the loops that are listed.
use Rattle.std.proofs.Common.{◌≡◌, ◌&&◌, ℕ, ◌<◌, inl, inr, Bool, true, Option, List, [], ◌∷◌, length, sym, ap, ◌∙◌}
use Rattle.std.proofs.lemmas.Bool.{cases_lt, ltb-true}
use Rattle.std.proofs.lemmas.List.{get_or_past}
use Rattle.bt_base.specs.Graph.{has, is_edge}
use Rattle.graph_laws.specs.Walk.{AreInside}
use Rattle.graph_laws.specs.Loops.{AreLoops, is_back, IsForward}
use Rattle.graph_laws.specs.Nest.{cut, SamePart, loops_of, IsReached, AreReached}
use Rattle.graph_laws.specs.Forward.{HasForwardNext, AreEqual, HasTurn}
use Rattle.graph_laws.proofs.Forward.{equal_loops, sets_end, heads_turn}
use Rattle.graph_laws.proofs.Nests.{leaves, head_inside, nests_loops}
use Rattle.graph_laws.proofs.Stretches.{tells}
use Rattle.loop_nest.specs.declared.natural_loop.Loop.{Loop}
use Rattle.loop_nest.specs.LoopNest.{is_head, IsLoopOf, IsLoopNest}
use Rattle.path_bound.specs.Places.{place_of, held, loops_in, AreLoopsBelow}
use Rattle.path_bound.specs.Ranking.{HaveEnds}
use Rattle.path_bound.specs.Turning.{HoldHeads}
use Rattle.path_bound.proofs.Ordered.{IsReachedInside, reached_inside}
use Rattle.path_bound.proofs.Placed.{IsLoopAt, place_reads, head_place}

-- an edge begins at a node of the graph
pub edge_from : (graph : List (List ℕ)) (n m : ℕ) → is_edge graph n m ≡ true → n < length graph
edge_from graph n m e = elim (cases_lt n (length graph)) [
  | inl l ↦ l
  | inr l ↦ let f : has [] m ≡ true = ap (λ (x : List ℕ). has x m) (sym (get_or_past graph n [] l)) ∙ e in cc
]

module _ (graph : List (List ℕ)) (entry : ℕ) (loops : List Loop) (is : IsLoopNest (is_edge graph) entry loops)
    (all : (n : ℕ) → n < length graph → IsReached (is_edge graph) entry n) where
  -- the loop of a head stands at its place
  pub loop_at : (h : ℕ) → is_head loops h ≡ true → IsLoopAt loops (place_of loops h) h
  loop_at h a = place_reads loops h (ltb-true (place_of loops h) (length loops) (sym (head_place loops h) ∙ a))

  pub equal : AreEqual (loops_of is.nest) (loops_in loops)
  equal = record {
    has = is.heads;
    body = λ h n a.
        let l : IsLoopAt loops (place_of loops h) h = loop_at h (sym (is.heads h) ∙ a) in
        let o : IsLoopOf is.nest l.one = is.each (place_of loops h) l.one l.at in
        ap (λ (x : ℕ). is.nest.body x n) (sym l.head) ∙ (sym (o.body n) ∙ sym (ap (λ (x : Option Loop). held x n) l.at));
  }

  pub reached : AreReached (is_edge graph) entry
  reached n m e = all n (edge_from graph n m e)

  -- the loops of a nest are loops of the graph
  pub are_loops : AreLoops (is_edge graph) entry (loops_in loops)
  are_loops = equal_loops (is_edge graph) entry (loops_of is.nest) (loops_in loops) (nests_loops (is_edge graph) entry is.nest is.is reached) equal

  pub same_back : (n m : ℕ) → is_back (loops_of is.nest) n m ≡ is_back (loops_in loops) n m
  same_back n m = elim (tells (is.nest.has m)) [
    | inl t ↦ ap (λ (b : Bool). b && is.nest.body m n) (is.heads m) ∙ ap (λ (b : Bool). is_head loops m && b) (equal.body m n t)
    | inr t ↦
        ap (λ (b : Bool). b && is.nest.body m n) t ∙ sym (ap (λ (b : Bool). b && (loops_in loops).body m n) (sym (is.heads m) ∙ t))
  ]

  -- forward walks end
  pub ends : HaveEnds (is_edge graph) (loops_in loops)
  ends nodes next n = sets_end (is_edge graph) entry is.nest is.is nodes
      (λ k h. let f : HasForwardNext (is_edge graph) (loops_in loops) nodes k =
      next k h in record { next = f.next; leads = f.leads; forward = same_back k f.next ∙ f.forward; inside = f.inside }) n

  -- the nodes of a body are reached inside it
  pub reach : (h n : ℕ) → (loops_in loops).has h ≡ true → (loops_in loops).body h n ≡ true → IsReachedInside (is_edge graph) (loops_in loops) h n
  reach h n a b =
      let c : is.nest.has h ≡ true = is.heads h ∙ a in
      let r : IsReachedInside (is_edge graph) (loops_of is.nest) h n =
      reached_inside (is_edge graph) entry is.nest is.is reached h n c (equal.body h n c ∙ b) in
      record { rest = r.rest; walk = r.walk; forward = on h r.rest r.forward; stays = inside c r.rest r.stays; ends = r.ends }
    where
      on : (k : ℕ) (rest : List ℕ) → IsForward (loops_of is.nest) k rest → IsForward (loops_in loops) k rest
      on k [] f = tt
      on k (m ∷ rest) f = (sym (same_back k m) ∙ f.0, on m rest f.1)

      inside : is.nest.has h ≡ true → (rest : List ℕ) → AreInside (is.nest.body h) rest → AreInside ((loops_in loops).body h) rest
      inside c [] s = tt
      inside c (m ∷ rest) s = (sym (equal.body h m c) ∙ s.0, inside c rest s.1)

  part_edge : (heads : List ℕ) (x y : ℕ) → SamePart (cut (is_edge graph) heads) x y → (x < length graph) × (y < length graph)
  part_edge heads x y p =
      let a = leaves (is_edge graph) heads x y p.there.between p.there.walk in
      let b = leaves (is_edge graph) heads y x p.back.between p.back.walk in (edge_from graph x a.0 a.1, edge_from graph y b.0 b.1)

  -- the nodes of the loops are below the count
  pub below : AreLoopsBelow (length graph) loops
  below = record {
    heads = λ k one e.
        let o : IsLoopOf is.nest one = is.each k one e in
        (part_edge (is.nest.outer one.head) one.head one.head (is.is.chain one.head o.head).2.entered.inside).0;
    rising = is.rising;
    bodies = λ k one e. (is.each k one e).rising;
    nodes = λ k n one e h.
        let o : IsLoopOf is.nest one = is.each k one e in
        (part_edge (is.nest.outer one.head) one.head n ((is.is.body one.head n o.head).0 (sym (o.body n) ∙ h))).1;
  }

  -- each body holds its head
  pub hold : HoldHeads loops
  hold k one e = let o : IsLoopOf is.nest one = is.each k one e in o.body one.head ∙ head_inside (is_edge graph) entry is.nest is.is one.head o.head

  -- each head has a turn
  pub turn : (h : ℕ) → (loops_in loops).has h ≡ true → HasTurn (is_edge graph) (loops_in loops) h
  turn h a =
      let c : is.nest.has h ≡ true = is.heads h ∙ a in
      let r : HasTurn (is_edge graph) (loops_of is.nest) h = heads_turn (is_edge graph) entry is.nest is.is reached h c in
      record { rest = r.rest; walk = r.walk; inside = inside c r.rest r.inside; forward = on h r.rest r.forward; back = r.back }
    where
      on : (k : ℕ) (rest : List ℕ) → IsForward (loops_of is.nest) k rest → IsForward (loops_in loops) k rest
      on k [] f = tt
      on k (m ∷ rest) f = (sym (same_back k m) ∙ f.0, on m rest f.1)

      inside : is.nest.has h ≡ true → (rest : List ℕ) → AreInside (is.nest.body h) rest → AreInside ((loops_in loops).body h) rest
      inside c [] s = tt
      inside c (m ∷ rest) s = (sym (equal.body h m c) ∙ s.0, inside c rest s.1)
