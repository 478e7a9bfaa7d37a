-- Forward walks, walks turned round, and the beginnings of walks.
use Rattle.std.proofs.Common.{◌≡◌, ◌≢◌, ◌==◌, ◌&&◌, ◌||◌, ◌⊎◌, ℕ, zero, suc, ◌+◌, ◌<◌, ◌≤◌, inl, inr, Bool, true, false, not, List, [], ◌∷◌, ◌++◌}
use Rattle.std.proofs.Common.{reverse, length, cond, refl, sym, ap, subst, ◌∙◌, arith, append_assoc}
use Rattle.std.proofs.lemmas.Bool.{eq-eqb}
use Rattle.std.proofs.lemmas.List.{reverse-append}
use Rattle.std.proofs.lemmas.Bool.Decides.{eqb_tells}
use Rattle.bt_base.specs.Graph.{has}
use Rattle.graph_laws.specs.Walk.{IsWalk, AreInside, end_of, Costs, cost_of}
use Rattle.graph_laws.specs.Loops.{Loops, AreLoops, is_back, IsForward, KeepsBounds, CostAtMost, edges_inside, loops_inside}
use Rattle.graph_laws.specs.Nest.{cut, Reaches, SamePart, IsHead, Nest, IsNest, loops_of, IsReached, AreReached}
use Rattle.graph_laws.specs.Forward.{turned, WalksTurn, HasForwardNext, SetsHaveEnds, IsReachedForward, ReachedAreReachedForward, WalksBackStay}
use Rattle.graph_laws.specs.Forward.{HasTurn, HeadsHaveTurns, AreEqual, EqualLoopsAreLoops, spent_of, SpentAddsUp, PrefixesSpendLess}
use Rattle.graph_laws.proofs.Inner.{inner_loops}
use Rattle.graph_laws.proofs.Stretches.{tells, both}
use Rattle.graph_laws.proofs.Walks.{walk-append, walk_front, walk_back, walk_of_more, inside-append}
use Rattle.graph_laws.proofs.Nests.{cut_edge, two_true, neither, head_inside, stays_inside, nests_loops, nests_unwound}

-- what a walk spends
spent-append : (costs : Costs) (n : ℕ) (one two : List ℕ) → spent_of costs n (one ++ two) ≡ spent_of costs n one + spent_of costs (end_of n one) two
spent-append costs n [] two = omega arith
spent-append costs n (m ∷ one) two = let e = spent-append costs m one two in omega (arith, e)

spent_whole : (costs : Costs) (n : ℕ) (rest : List ℕ) → cost_of costs n rest ≡ spent_of costs n rest + costs.node (end_of n rest)
spent_whole costs n [] = omega arith
spent_whole costs n (m ∷ rest) = let e = spent_whole costs m rest in omega (arith, e)

-- what a walk and what follows it have spent add up
pub spent_sums : SpentAddsUp
spent_sums = record {
  append = spent-append;
  step = λ costs n m one. let e = spent-append costs n one (m ∷ []) in omega (arith, e);
  whole = spent_whole;
}

-- the beginning of a walk that keeps the head bounds keeps them, and has spent at most what no walk exceeds
pub prefixes_less : PrefixesSpendLess
prefixes_less edge n loops bound costs most one two at_most w keeps =
    let front : KeepsBounds loops bound (n ∷ one) = record {
      kept = λ h before stretch after a e i. keeps.kept h before stretch (after ++ two) a
          (ap (λ l. before ++ l) (sym (append_assoc stretch after two)) ∙ (sym (append_assoc before (stretch ++ after) two) ∙ ap (λ l. l ++ two) e)) i;
    } in
    let c : cost_of costs n one ≤ most = at_most one (walk_front edge n one two w) front in
    let e : cost_of costs n one ≡ spent_of costs n one + costs.node (end_of n one) = spent_whole costs n one in
    (front, omega (arith, c, e))

-- walks turned round
turned_walk : (edge : ℕ → ℕ → Bool) (n m : ℕ) (between : List ℕ) → IsWalk edge n (between ++ m ∷ []) → IsWalk (turned edge) m (reverse between ++ n ∷ [])
turned_walk edge n m [] w = (w.0, tt)
turned_walk edge n m (b ∷ between) w =
    let back : IsWalk (turned edge) m (reverse between ++ b ∷ []) = turned_walk edge b m between w.1 in
    subst (λ (l : List ℕ). IsWalk (turned edge) m (l ++ n ∷ [])) (sym (reverse-append (b ∷ []) between)) (walk_on m (reverse between) back)
  where
    walk_on : (k : ℕ) (rest : List ℕ) → IsWalk (turned edge) k (rest ++ b ∷ []) → IsWalk (turned edge) k ((rest ++ b ∷ []) ++ n ∷ [])
    walk_on k [] v = (v.0, (w.0, tt))
    walk_on k (r ∷ rest) v = (v.0, walk_on r rest v.1)

-- a walk turned round is a walk of the graph turned round
pub walks_turned : WalksTurn
walks_turned = turned_walk

-- what is reached is reached back in the graph turned round
pub reach_turned : (edge : ℕ → ℕ → Bool) (n m : ℕ) → Reaches edge n m → Reaches (turned edge) m n
reach_turned edge n m r = record { between = reverse r.between; walk = turned_walk edge n m r.between r.walk }

-- equal loops
pub equal_loops : EqualLoopsAreLoops
equal_loops edge entry one two are e = record {
  head = λ h a. let b = e.has h ∙ a in sym (e.body h h b) ∙ are.head h b;
  entered = λ h n m a g o i. let b = e.has h ∙ a in are.entered h n m b g (e.body h n b ∙ o) (e.body h m b ∙ i);
  at_entry = λ h a i. let b = e.has h ∙ a in are.at_entry h b (e.body h entry b ∙ i);
  within = λ h k n a c i ne j.
      let b = e.has h ∙ a in
      let d = e.has k ∙ c in
      sym (e.body k n d) ∙ are.within h k n b d (e.body k h d ∙ i) ne (e.body h n b ∙ j);
  apart = λ h k a c i ne.
      let b = e.has h ∙ a in
      let d = e.has k ∙ c in
      sym (e.body h k b) ∙ are.apart h k b d (e.body k h d ∙ i) ne;
}

-- one forward walk after another
forward-append : (loops : Loops) (n : ℕ) (one two : List ℕ) → IsForward loops n one → IsForward loops (end_of n one) two → IsForward loops n (one ++ two)
forward-append loops n [] two a b = b
forward-append loops n (m ∷ one) two a b = (a.0, forward-append loops m one two a.1 b)

end_of_two : (n m : ℕ) (one : List ℕ) → end_of n (one ++ m ∷ []) ≡ m
end_of_two n m [] = refl
end_of_two n m (k ∷ one) = end_of_two k m one

-- a forward walk leads from a node to another
record LeadsOn (edge : ℕ → ℕ → Bool) (loops : Loops) (from n : ℕ) : Type 0 where
  pub rest : List ℕ
  pub walk : IsWalk edge from rest
  pub forward : IsForward loops from rest
  pub ends : end_of from rest ≡ n

nowhere : (edge : ℕ → ℕ → Bool) (loops : Loops) (n : ℕ) → LeadsOn edge loops n n
nowhere edge loops n = record { rest = []; walk = tt; forward = tt; ends = refl }

one_more : (edge : ℕ → ℕ → Bool) (loops : Loops) (from n m : ℕ) → LeadsOn edge loops from n → edge n m ≡ true → is_back loops n m ≡ false
    → LeadsOn edge loops from m
one_more edge loops from n m l e f = record {
  rest = l.rest ++ m ∷ [];
  walk = walk-append edge from l.rest (m ∷ []) l.walk (ap (λ (x : ℕ). edge x m) l.ends ∙ e, tt);
  forward = forward-append loops from l.rest (m ∷ []) l.forward (ap (λ (x : ℕ). is_back loops x m) l.ends ∙ f, tt);
  ends = end_of_two from m l.rest;
}

-- a list without the first place of a number
abbrev without : ℕ → List ℕ → List ℕ
without n [] = []
without n (m ∷ rest) = cond (n == m) rest (m ∷ without n rest)

shorter : (n : ℕ) (left : List ℕ) → has left n ≡ true → length (without n left) + 1 ≡ length left
shorter n [] h = cc
shorter n (m ∷ left) h = elim (tells (n == m)) [
  | inl t ↦ let e : without n (m ∷ left) ≡ left = ap (λ (b : Bool). cond b left (m ∷ without n left)) t in omega (arith, ap length e)
  | inr t ↦
      let e : without n (m ∷ left) ≡ m ∷ without n left = ap (λ (b : Bool). cond b left (m ∷ without n left)) t in
      let g : has left n ≡ true = sym (ap (λ (b : Bool). b || has left n) t) ∙ h in
      let k : length (without n left) + 1 ≡ length left = shorter n left g in omega (arith, ap length e, k)
]

others_stay : (n k : ℕ) (left : List ℕ) → has left k ≡ true → (k ≡ n) ⊎ (has (without n left) k ≡ true)
others_stay n k [] h = cc
others_stay n k (m ∷ left) h = elim (tells (n == m)) [
  | inl t ↦
      let e : without n (m ∷ left) ≡ left = ap (λ (b : Bool). cond b left (m ∷ without n left)) t in
      elim (eqb_tells k m) [
        | inl i ↦ inl (i.1 ∙ sym (same n m t))
        | inr i ↦ inr (ap (λ (l : List ℕ). has l k) e ∙ (sym (ap (λ (b : Bool). b || has left k) i.0) ∙ h))
      ]
  | inr t ↦
      let e : without n (m ∷ left) ≡ m ∷ without n left = ap (λ (b : Bool). cond b left (m ∷ without n left)) t in
      elim (eqb_tells k m) [
        | inl i ↦ inr (ap (λ (l : List ℕ). has l k) e ∙ ap (λ (b : Bool). b || has (without n left) k) i.0)
        | inr i ↦ elim (others_stay n k left (sym (ap (λ (b : Bool). b || has left k) i.0) ∙ h)) [
          | inl j ↦ inl j
          | inr j ↦ inr (ap (λ (l : List ℕ). has l k) e ∙ (ap (λ (b : Bool). b || has (without n left) k) i.0 ∙ j))
        ]
      ]
]
  where
    same : (x y : ℕ) → (x == y) ≡ true → x ≡ y
    same x y t = elim (eqb_tells x y) [ inl a ↦ a.1 | inr a ↦ let f : (x == y) ≡ false = a.0 in cc ]

or_right : (a b : Bool) → b ≡ true → (a || b) ≡ true
or_right true b h = refl
or_right false b h = h

module _ (edge : ℕ → ℕ → Bool) (entry : ℕ) (nest : Nest) (is : IsNest edge entry nest) (nodes : List ℕ)
    (next : (n : ℕ) → has nodes n ≡ true → HasForwardNext edge (loops_of nest) nodes n) where
  -- a forward walk doesn't come back to a node
  not_back : (n m : ℕ) → LeadsOn edge (loops_of nest) m n → edge n m ≡ true → is_back (loops_of nest) n m ≡ false → ⊥
  not_back n m l e f =
      nests_unwound edge entry nest is m l.rest
      (walk-append edge m l.rest (m ∷ []) l.walk (ap (λ (x : ℕ). edge x m) l.ends ∙ e, tt))
      (forward-append (loops_of nest) m l.rest (m ∷ []) l.forward (ap (λ (x : ℕ). is_back (loops_of nest) x m) l.ends ∙ f, tt))

  -- so through the nodes of the list it comes to ever new ones
  no_end : (fuel : ℕ) (left visited : List ℕ) (n : ℕ) → length left ≤ fuel → ((k : ℕ) → has nodes k ≡ true → (has visited k ≡ true) ⊎ (has left k ≡ true))
      → ((k : ℕ) → has visited k ≡ true → LeadsOn edge (loops_of nest) k n) → has nodes n ≡ true → ⊥
  no_end zero left visited n short placed leads h =
      let s : HasForwardNext edge (loops_of nest) nodes n = next n h in
      elim (placed s.next s.inside) [
        | inl v ↦ not_back n s.next (leads s.next v) s.leads s.forward
        | inr v ↦ let e : length (without s.next left) + 1 ≡ length left = shorter s.next left v in omega (arith, e, short)
      ]
  no_end (suc fuel) left visited n short placed leads h =
      let s : HasForwardNext edge (loops_of nest) nodes n = next n h in
      elim (placed s.next s.inside) [
        | inl v ↦ not_back n s.next (leads s.next v) s.leads s.forward
        | inr v ↦
            let e : length (without s.next left) + 1 ≡ length left = shorter s.next left v in
            no_end fuel (without s.next left) (s.next ∷ visited) s.next (omega (arith, e, short))
            (λ k i. elim (placed k i) [
              | inl a ↦ inl (or_right (k == s.next) (has visited k) a)
              | inr a ↦ elim (others_stay s.next k left a) [
                | inl b ↦ inl (ap (λ (t : Bool). t || has visited k) (eq-eqb k s.next b))
                | inr b ↦ inr b
              ]
            ])
            (λ k i. elim (eqb_tells k s.next) [
              | inl a ↦ subst (λ (x : ℕ). LeadsOn edge (loops_of nest) x s.next) (sym a.1) (nowhere edge (loops_of nest) s.next)
              | inr a ↦ one_more edge (loops_of nest) k n s.next (leads k (sym (ap (λ (t : Bool). t || has visited k) a.0) ∙ i)) s.leads s.forward
            ])
            s.inside
      ]

-- where there is a nest, a finite set in which each node has a forward successor is empty
pub sets_end : SetsHaveEnds
sets_end edge entry nest is nodes next n = elim (tells (has nodes n)) [
  | inl t ↦ absurd (no_end edge entry nest is nodes next (length nodes) nodes (n ∷ []) n (omega arith) (λ k i. inr i)
      (λ k i. elim (eqb_tells k n) [
        | inl a ↦ subst (λ (x : ℕ). LeadsOn edge (loops_of nest) x n) (sym a.1) (nowhere edge (loops_of nest) n)
        | inr a ↦ let f : (k == n) ≡ true = or_false (k == n) i in let g : (k == n) ≡ false = a.0 in cc
      ]) t)
  | inr t ↦ t
]
  where
    or_false : (b : Bool) → (b || false) ≡ true → b ≡ true
    or_false true h = refl
    or_false false h = h

-- a forward walk that ends in a body and begins outside it comes to its head
come_in : (edge : ℕ → ℕ → Bool) (entry : ℕ) (loops : Loops) → AreLoops edge entry loops → (h n : ℕ) (rest : List ℕ) → loops.has h ≡ true
    → loops.body h n ≡ false
    → IsWalk edge n rest → IsForward loops n rest → loops.body h (end_of n rest) ≡ true → LeadsOn edge loops n h
come_in edge entry loops are h n [] a o w f i = cc
come_in edge entry loops are h n (m ∷ rest) a o w f i = elim (tells (loops.body h m)) [
  | inl t ↦
      let e : m ≡ h = are.entered h n m a w.0 o t in
      subst (λ (x : ℕ). LeadsOn edge loops n x) e (record { rest = m ∷ []; walk = (w.0, tt); forward = (f.0, tt); ends = refl })
  | inr t ↦
      let l : LeadsOn edge loops m h = come_in edge entry loops are h m rest a t w.1 f.1 i in
      record { rest = m ∷ l.rest; walk = (w.0, l.walk); forward = (f.0, l.forward); ends = l.ends }
]

forward_on : (edge : ℕ → ℕ → Bool) (entry : ℕ) (loops : Loops) → AreLoops edge entry loops → (n : ℕ) (rest : List ℕ) → LeadsOn edge loops entry n
    → IsWalk edge n rest
    → LeadsOn edge loops entry (end_of n rest)
forward_on edge entry loops are n [] l w = l
forward_on edge entry loops are n (m ∷ rest) l w = elim (tells (is_back loops n m)) [
  | inl t ↦
      let b : (loops.has m ≡ true) × (loops.body m n ≡ true) = both (loops.has m) (loops.body m n) t in
      let here : LeadsOn edge loops entry m = elim (tells (loops.body m entry)) [
        | inl i ↦ subst (λ (x : ℕ). LeadsOn edge loops entry x) (are.at_entry m b.0 i) (nowhere edge loops entry)
        | inr i ↦ come_in edge entry loops are m entry l.rest b.0 i l.walk l.forward (ap (loops.body m) l.ends ∙ b.1)
      ] in
      forward_on edge entry loops are m rest here w.1
  | inr t ↦ forward_on edge entry loops are m rest (one_more edge loops entry n m l w.0 t) w.1
]

-- what a walk from the entry reaches, a forward walk reaches
pub reached_forward : ReachedAreReachedForward
reached_forward edge entry loops are n r =
    let l : LeadsOn edge loops entry (end_of entry r.rest) = forward_on edge entry loops are entry r.rest (nowhere edge loops entry) r.walk in
    record { rest = l.rest; walk = l.walk; forward = l.forward; ends = l.ends ∙ r.ends }

-- a walk from a node of a body back to its head that takes no edge into an outer head stays in the body
pub walks_stay : WalksBackStay
walks_stay edge entry nest is h n between a i w =
    let p : SamePart (cut edge (nest.outer h)) h n = (is.body h n a).0 i in
    stays_inside edge entry nest is h n h between a p.there w (is.chain h a).2.entered.inside.there

-- walks inside a body
inside_walk : (edge : ℕ → ℕ → Bool) (body : ℕ → Bool) (n : ℕ) (rest : List ℕ) → body n ≡ true → IsWalk edge n rest → AreInside body rest
    → IsWalk (edges_inside edge body) n rest
inside_walk edge body n [] b w i = tt
inside_walk edge body n (m ∷ rest) b w i =
    (two_true (edge n m) (body n && body m) w.0 (two_true (body n) (body m) b i.0), inside_walk edge body m rest i.0 w.1 i.1)

walk_inside : (edge : ℕ → ℕ → Bool) (body : ℕ → Bool) (n : ℕ) (rest : List ℕ) → IsWalk (edges_inside edge body) n rest → AreInside body rest
walk_inside edge body n [] w = tt
walk_inside edge body n (m ∷ rest) w = ((both (body n) (body m) (both (edge n m) (body n && body m) w.0).1).1, walk_inside edge body m rest w.1)

forward_out : (loops : Loops) (h n : ℕ) (rest : List ℕ) → IsForward (loops_inside loops h) n rest → AreInside (loops.body h) rest → IsForward loops n rest
forward_out loops h n [] f i = tt
forward_out loops h n (m ∷ rest) f i = (off (loops.has m) (loops.body h m) (loops.body m n) f.0 i.0, forward_out loops h m rest f.1 i.1)
  where
    off : (a b c : Bool) → ((a && b) && c) ≡ false → b ≡ true → (a && c) ≡ false
    off true true c g j = g
    off true false c g j = cc
    off false b c g j = refl

-- each head of a nest has a turn: a forward walk inside its body and an edge back
pub heads_turn : HeadsHaveTurns
heads_turn edge entry nest is reached h a =
    let loops : Loops = loops_of nest in
    let are : AreLoops edge entry loops = nests_loops edge entry nest is reached in
    let itself : SamePart (cut edge (nest.outer h)) h h = (is.chain h a).2.entered.inside in
    let here : nest.body h h ≡ true = head_inside edge entry nest is h a in
    let between : List ℕ = itself.there.between in
    let stay : AreInside (nest.body h) between = walks_stay edge entry nest is h h between a here itself.there.walk in
    let w : IsWalk edge h (between ++ h ∷ []) =
    walk_of_more (cut edge (nest.outer h)) edge (cut_edge edge (nest.outer h)) h (between ++ h ∷ []) itself.there.walk in
    let r : IsReached (edges_inside edge (nest.body h)) h (end_of h between) =
    record { rest = between; walk = inside_walk edge (nest.body h) h between here (walk_front edge h between (h ∷ []) w) stay; ends = refl } in
    let f : IsReachedForward (edges_inside edge (nest.body h)) (loops_inside loops h) h (end_of h between) =
    reached_forward (edges_inside edge (nest.body h)) h (loops_inside loops h) (inner_loops edge entry loops h are a) (end_of h between) r in
    let i : AreInside (nest.body h) f.rest = walk_inside edge (nest.body h) h f.rest f.walk in
    let back : IsWalk edge (end_of h between) (h ∷ []) = walk_back edge h between (h ∷ []) w in
    record {
      rest = f.rest;
      walk = walk_of_more (edges_inside edge (nest.body h)) edge (λ n m e. (both (edge n m) (nest.body h n && nest.body h m) e).0) h f.rest f.walk;
      inside = i;
      forward = forward_out loops h h f.rest f.forward i;
      back = ap (λ (x : ℕ). edge x h) f.ends ∙ back.0;
    }
