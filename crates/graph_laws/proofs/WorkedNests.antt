-- The nests of the worked graphs.
use Rattle.std.proofs.Common.{◌≡◌, ◌↔◌, ◌⊎◌, ℕ, zero, suc, ◌<◌, inl, inr, Bool, true, false, List, [], ◌∷◌, ◌++◌, length, refl, sym, ap, subst, ◌∙◌, arith}
use Rattle.bt_base.specs.Graph.{has}
use Rattle.graph_laws.specs.Walk.{IsWalk}
use Rattle.graph_laws.specs.Loops.{AreLoops}
use Rattle.graph_laws.specs.Nest.{cut, Reaches, SamePart, InScope, ComesFromOutside, IsEntered, IsHead, IsChain, HasHead, loops_of, AreReached}
use Rattle.graph_laws.specs.Worked.{below_two, nested, below_three, one_or_two, nested_body, nested_outer, nested_nest, NestedLoopsHaveANest}
use Rattle.graph_laws.specs.Worked.{two_ways, TwoWaysHaveNoNest}
use Rattle.graph_laws.specs.WorkedNests.{NestedLoopsAreLoops, InnerLoopIsALoop, NestedLoopsUnwind, InnerLoopIsAPart, NestedLoopsHaveOneNest, InnerBodyIsEntered}
use Rattle.graph_laws.proofs.Inner.{inner_loops}
use Rattle.graph_laws.proofs.Nests.{part-sym, part-trans, cut_edge, end_free, nests_loops, nests_unwound, parts_inside, one_nest, no_nest, reached_entered}

-- a cut edge leaves the first node of a walk
record Leaves (edge : ℕ → ℕ → Bool) (n : ℕ) : Type 0 where
  pub to : ℕ
  pub leads : edge n to ≡ true

leaves_by : (edge : ℕ → ℕ → Bool) (n m : ℕ) → Reaches edge n m → Leaves edge n
leaves_by edge n m r = go r.between r.walk
  where
    go : (between : List ℕ) → IsWalk edge n (between ++ m ∷ []) → Leaves edge n
    go [] w = record { to = m; leads = w.0 }
    go (b ∷ between) w = record { to = b; leads = w.0 }

-- the nodes with edges
nested_from : (n m : ℕ) → nested n m ≡ true → below_three n ≡ true
nested_from zero m e = refl
nested_from (suc zero) m e = refl
nested_from (suc (suc zero)) m e = refl
nested_from (suc (suc (suc n))) m e = cc

-- the outer part
outer_whole : SamePart (cut nested []) 0 0
outer_whole = record {
  there = record { between = 1 ∷ 2 ∷ []; walk = (refl, (refl, (refl, tt))) };
  back = record { between = 1 ∷ 2 ∷ []; walk = (refl, (refl, (refl, tt))) };
}

in_outer : (n : ℕ) → below_three n ≡ true → SamePart (cut nested []) 0 n
in_outer zero i = outer_whole
in_outer (suc zero) i = record { there = record { between = []; walk = (refl, tt) }; back = record { between = 2 ∷ []; walk = (refl, (refl, tt)) } }
in_outer (suc (suc zero)) i = record { there = record { between = 1 ∷ []; walk = (refl, (refl, tt)) }; back = record { between = []; walk = (refl, tt) } }
in_outer (suc (suc (suc n))) i = cc

outer_is : (x y : ℕ) → SamePart (cut nested []) x y → below_three x ≡ true
outer_is x y p = let l : Leaves (cut nested []) x = leaves_by (cut nested []) x y p.there in nested_from x l.to (cut_edge nested [] x l.to l.leads)

outer_head : (x : ℕ) → below_three x ≡ true → IsHead nested 0 [] x 0
outer_head x i =
    let p : SamePart (cut nested []) x 0 = part-sym (cut nested []) 0 x (in_outer x i) in
    record {
      entered = record { inside = p; comes = inl refl };
      only = λ n e. only x i n e.comes;
    }
  where
    only : (x : ℕ) → below_three x ≡ true → (n : ℕ) → (n ≡ 0) ⊎ ComesFromOutside nested [] x n → n ≡ 0
    only x i n (inl e) = e
    only x i n (inr c) = absurd (c.outside
        (part-trans (cut nested []) x 0 c.from (part-sym (cut nested []) 0 x (in_outer x i)) (in_outer c.from (nested_from c.from n c.leads))))

-- the inner part
inner_whole : SamePart (cut nested (0 ∷ [])) 1 1
inner_whole = record { there = record { between = 2 ∷ []; walk = (refl, (refl, tt)) }; back = record { between = 2 ∷ []; walk = (refl, (refl, tt)) } }

in_inner : (n : ℕ) → one_or_two n ≡ true → SamePart (cut nested (0 ∷ [])) 1 n
in_inner zero i = cc
in_inner (suc zero) i = inner_whole
in_inner (suc (suc zero)) i = record { there = record { between = []; walk = (refl, tt) }; back = record { between = []; walk = (refl, tt) } }
in_inner (suc (suc (suc n))) i = cc

inner_free : (x : ℕ) → below_three x ≡ true → has (0 ∷ []) x ≡ false → one_or_two x ≡ true
inner_free zero i f = cc
inner_free (suc n) i f = i

inner_is : (x y : ℕ) → SamePart (cut nested (0 ∷ [])) x y → one_or_two x ≡ true
inner_is x y p =
    let l : Leaves (cut nested (0 ∷ [])) x = leaves_by (cut nested (0 ∷ [])) x y p.there in
    inner_free x (nested_from x l.to (cut_edge nested (0 ∷ []) x l.to l.leads)) (end_free nested (0 ∷ []) y x p.back.between p.back.walk)

inner_only : (x : ℕ) → one_or_two x ≡ true → (n : ℕ) → one_or_two n ≡ true → (n ≡ 0) ⊎ ComesFromOutside nested (0 ∷ []) x n → n ≡ 1
inner_only x i zero j c = cc
inner_only x i (suc zero) j c = refl
inner_only x i (suc (suc zero)) j (inl e) = cc
inner_only x i (suc (suc zero)) j (inr c) =
    absurd (c.outside (part-trans (cut nested (0 ∷ [])) x 1 c.from (part-sym (cut nested (0 ∷ [])) 1 x (in_inner x i))
    (in_inner c.from (into_two c.from c.leads))))
  where
    into_two : (n : ℕ) → nested n 2 ≡ true → one_or_two n ≡ true
    into_two zero e = cc
    into_two (suc zero) e = refl
    into_two (suc (suc zero)) e = cc
    into_two (suc (suc (suc n))) e = cc
inner_only x i (suc (suc (suc n))) j c = cc

inner_head : (x : ℕ) → one_or_two x ≡ true → IsHead nested 0 (0 ∷ []) x 1
inner_head x i = record {
  entered = record {
    inside = part-sym (cut nested (0 ∷ [])) 1 x (in_inner x i);
    comes = inr (record { from = 0; leads = refl; outside = λ p. let z : one_or_two 0 ≡ true = inner_is 0 x (part-sym (cut nested (0 ∷ [])) x 0 p) in cc });
  };
  only = λ n e. inner_only x i n (inner_is n x (part-sym (cut nested (0 ∷ [])) x n e.inside)) e.comes;
}

-- below the inner head there is no part
none_edge : (x m : ℕ) → one_or_two x ≡ true → cut nested (1 ∷ 0 ∷ []) x m ≡ true → has (1 ∷ 0 ∷ []) x ≡ false → ⊥
none_edge zero m i e f = cc
none_edge (suc zero) m i e f = cc
none_edge (suc (suc zero)) zero i e f = cc
none_edge (suc (suc zero)) (suc zero) i e f = cc
none_edge (suc (suc zero)) (suc (suc m)) i e f = cc
none_edge (suc (suc (suc x))) m i e f = cc

none_is : (x : ℕ) → SamePart (cut nested (1 ∷ 0 ∷ [])) x x → ⊥
none_is x p =
    let l : Leaves (cut nested (1 ∷ 0 ∷ [])) x = leaves_by (cut nested (1 ∷ 0 ∷ [])) x x p.there in
    let f : has (1 ∷ 0 ∷ []) x ≡ false = end_free nested (1 ∷ 0 ∷ []) x x p.there.between p.there.walk in
    none_edge x l.to (free_of x (nested_from x l.to (cut_edge nested (1 ∷ 0 ∷ []) x l.to l.leads)) f) l.leads f
  where
    free_of : (x : ℕ) → below_three x ≡ true → has (1 ∷ 0 ∷ []) x ≡ false → one_or_two x ≡ true
    free_of zero i f = cc
    free_of (suc n) i f = i

-- the chains
chains : (h : ℕ) (heads : List ℕ) → IsChain nested 0 (h ∷ heads) → ((h ≡ 0) × (heads ≡ [])) ⊎ ((h ≡ 1) × (heads ≡ 0 ∷ []))
chains h [] c =
    let p : SamePart (cut nested []) h h = c.2.entered.inside in
    let e : 0 ≡ h = c.2.only 0 (outer_head h (outer_is h h p)).entered in inl (sym e, refl)
chains h (k ∷ heads) c = elim (chains k heads c.0) [
  | inl a ↦
      let l : k ∷ heads ≡ 0 ∷ [] = cc in
      let is : IsHead nested 0 (0 ∷ []) h h = subst (λ (x : List ℕ). IsHead nested 0 x h h) l c.2 in
      let e : 1 ≡ h = is.only 1 (inner_head h (inner_is h h is.entered.inside)).entered in inr (sym e, l)
  | inr a ↦
      let l : k ∷ heads ≡ 1 ∷ 0 ∷ [] = cc in
      let is : IsHead nested 0 (1 ∷ 0 ∷ []) h h = subst (λ (x : List ℕ). IsHead nested 0 x h h) l c.2 in
      absurd (none_is h is.entered.inside)
]

nested_parts : (heads : List ℕ) (x : ℕ) → IsChain nested 0 heads → InScope nested heads x → SamePart (cut nested heads) x x → HasHead nested 0 heads x
nested_parts [] x c s p = record { head = 0; is = outer_head x (outer_is x x p) }
nested_parts (k ∷ heads) x c s p = elim (chains k heads c) [
  | inl a ↦
      let l : k ∷ heads ≡ 0 ∷ [] = cc in
      let q : SamePart (cut nested (0 ∷ [])) x x = subst (λ (y : List ℕ). SamePart (cut nested y) x x) l p in
      subst (λ (y : List ℕ). HasHead nested 0 y x) (sym l) (record { head = 1; is = inner_head x (inner_is x x q) })
  | inr a ↦
      let l : k ∷ heads ≡ 1 ∷ 0 ∷ [] = cc in
      let q : SamePart (cut nested (1 ∷ 0 ∷ [])) x x = subst (λ (y : List ℕ). SamePart (cut nested y) x x) l p in absurd (none_is x q)
]

nested_loop : (h : ℕ) (heads : List ℕ) → IsChain nested 0 (h ∷ heads) → (nested_nest.has h ≡ true) × (nested_nest.outer h ≡ heads)
nested_loop h heads c = elim (chains h heads c) [
  | inl a ↦ (ap below_two a.0, ap nested_outer a.0 ∙ sym a.1)
  | inr a ↦ (ap below_two a.0, ap nested_outer a.0 ∙ sym a.1)
]

nested_chain : (h : ℕ) → nested_nest.has h ≡ true → IsChain nested 0 (h ∷ nested_nest.outer h)
nested_chain zero a = (tt, tt, outer_head 0 refl)
nested_chain (suc zero) a = ((tt, tt, outer_head 0 refl), in_outer 1 refl, inner_head 1 refl)
nested_chain (suc (suc h)) a = cc

nested_bodies : (h n : ℕ) → nested_nest.has h ≡ true → (nested_body h n ≡ true) ↔ SamePart (cut nested (nested_outer h)) h n
nested_bodies zero n a = ((λ i. in_outer n i), (λ p. outer_is n 0 (part-sym (cut nested []) 0 n p)))
nested_bodies (suc zero) n a = ((λ i. in_inner n i), (λ p. inner_is n 1 (part-sym (cut nested (0 ∷ [])) 1 n p)))
nested_bodies (suc (suc h)) n a = cc

nested_deep : (h : ℕ) → nested_nest.has h ≡ true → length (nested_outer h) < 2
nested_deep zero a = omega arith
nested_deep (suc h) a = omega arith

-- two nested loops have a nest
pub nested_is : NestedLoopsHaveANest
nested_is = record { parts = nested_parts; loop = nested_loop; chain = nested_chain; body = nested_bodies; depth = 2; deep = nested_deep }

nested_reached : AreReached nested 0
nested_reached zero m e = record { rest = []; walk = tt; ends = refl }
nested_reached (suc zero) m e = record { rest = 1 ∷ []; walk = (refl, tt); ends = refl }
nested_reached (suc (suc zero)) m e = record { rest = 1 ∷ 2 ∷ []; walk = (refl, (refl, tt)); ends = refl }
nested_reached (suc (suc (suc n))) m e = cc

-- the loops of the nested graph are loops
pub nested_are_loops : AreLoops nested 0 (loops_of nested_nest)
nested_are_loops = nests_loops nested 0 nested_nest nested_is nested_reached

-- the loop that is entered at two nodes
round : SamePart (cut two_ways []) 1 2
round = record { there = record { between = []; walk = (refl, tt) }; back = record { between = []; walk = (refl, tt) } }

never_back : (n : ℕ) (between : List ℕ) → IsWalk (cut two_ways []) n (between ++ 0 ∷ []) → ⊥
never_back zero [] w = let e : false ≡ true = w.0 in cc
never_back (suc zero) [] w = let e : false ≡ true = w.0 in cc
never_back (suc (suc zero)) [] w = let e : false ≡ true = w.0 in cc
never_back (suc (suc (suc n))) [] w = let e : false ≡ true = w.0 in cc
never_back n (b ∷ between) w = never_back b between w.1

from_outside : (n : ℕ) → two_ways 0 n ≡ true → SamePart (cut two_ways []) 1 n → IsEntered two_ways 0 [] 1 n
from_outside n e p = record { inside = p; comes = inr (record { from = 0; leads = e; outside = λ q. never_back 1 q.there.between q.there.walk }) }

-- a loop that is entered at two nodes has no nest
pub two_ways_none : TwoWaysHaveNoNest
two_ways_none nest is =
    no_nest two_ways 0 [] 1 1 2 tt tt
    (from_outside 1 refl (part-trans (cut two_ways []) 1 2 1 round (part-sym (cut two_ways []) 1 2 round))) (from_outside 2 refl round) (λ e. cc) nest is

-- the laws of nests at the nested loops
pub nested_loops : NestedLoopsAreLoops
nested_loops = record { reached = nested_reached; loops = nested_are_loops }

-- inside the inner body the inner loop alone is left, entered at its head
pub inner_is_a_loop : InnerLoopIsALoop
inner_is_a_loop = record { loops = inner_loops nested 0 (loops_of nested_nest) 1 nested_are_loops refl; inner = refl; outer = refl }

-- a walk round the inner loop goes back to its head, and without such edges no walk comes back
pub nested_unwind : NestedLoopsUnwind
nested_unwind = record {
  round = (refl, (refl, tt));
  back = refl;
  through = (refl, (refl, tt));
  forward = (refl, (refl, tt));
  none = nests_unwound nested 0 nested_nest nested_is;
}

-- the inner loop is a part below the outer head, and the outer head is in no part there
pub inner_is_a_part : InnerLoopIsAPart
inner_is_a_part = record {
  without = in_inner 2 refl;
  below = (parts_inside nested 0 nested_nest nested_is 0 1 2 refl refl refl).0 (in_inner 2 refl);
  apart = λ p.
      let q : SamePart (cut nested (0 ∷ [])) 1 0 = (parts_inside nested 0 nested_nest nested_is 0 1 0 refl refl refl).1 p in
      let z : one_or_two 0 ≡ true = inner_is 0 1 (part-sym (cut nested (0 ∷ [])) 1 0 q) in cc;
}

-- the nested loops have no other nest
pub nested_one_nest : NestedLoopsHaveOneNest
nested_one_nest nest is = one_nest nested 0 nested_nest nest nested_is is

enters_at_head : (n from : ℕ) → one_or_two n ≡ true → nested from n ≡ true → one_or_two from ≡ false → n ≡ 1
enters_at_head zero from i e o = cc
enters_at_head (suc zero) from i e o = refl
enters_at_head (suc (suc zero)) zero i e o = cc
enters_at_head (suc (suc zero)) (suc zero) i e o = cc
enters_at_head (suc (suc zero)) (suc (suc zero)) i e o = cc
enters_at_head (suc (suc zero)) (suc (suc (suc from))) i e o = cc
enters_at_head (suc (suc (suc n))) from i e o = cc

-- the inner body is entered, and at its head alone
pub inner_entered : InnerBodyIsEntered
inner_entered =
    let r = nested_reached 2 0 refl in
    record {
      reached = r;
      entered = reached_entered nested 0 one_or_two 2 r refl;
      only = λ entrance. elim entrance.comes [
        | inl e ↦ (let z : one_or_two 0 ≡ true = subst (λ x. one_or_two x ≡ true) e entrance.inside in cc)
        | inr c ↦ enters_at_head entrance.node c.0 entrance.inside c.1 c.2
      ];
    }
