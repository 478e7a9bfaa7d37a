-- Heads come last: the nodes of a body rank below its head, and no edge back leads to a node before.
use Rattle.std.proofs.Common.{◌≡◌, ◌==◌, ◌&&◌, ◌||◌, ℕ, zero, suc, ◌<◌, ◌≤◌, inl, inr, Bool, true, false, List, [], ◌∷◌, ◌++◌, length, take, get_or}
use Rattle.std.proofs.Common.{cond, refl, sym, ap, ◌∙◌, arith}
use Rattle.std.proofs.lemmas.Bool.{eq-eqb, cases_lt}
use Rattle.std.proofs.lemmas.Bool.Decides.{eqb_tells}
use Rattle.bt_base.specs.Graph.{has}
use Rattle.graph_laws.specs.Walk.{IsWalk, AreInside, end_of}
use Rattle.graph_laws.specs.Loops.{Loops, AreLoops, is_back, IsForward, edges_inside, loops_inside}
use Rattle.graph_laws.specs.Nest.{cut, SamePart, Nest, IsNest, loops_of, IsReached, AreReached}
use Rattle.graph_laws.specs.Forward.{IsReachedForward}
use Rattle.graph_laws.proofs.Forward.{reached_forward}
use Rattle.graph_laws.proofs.Inner.{inner_loops}
use Rattle.graph_laws.proofs.Nests.{cut_edge, head_inside, stays_inside, nests_loops, two_true}
use Rattle.graph_laws.proofs.Stretches.{tells, both}
use Rattle.graph_laws.proofs.Walks.{walk_of_more}
use Rattle.path_bound.specs.Ranked.{rank_in, IsOrder, IsForwardOrder}
use Rattle.path_bound.proofs.Told.{IsAt}

-- walks inside a body
inside_walk : (edge : ℕ → ℕ → Bool) (body : ℕ → Bool) (n : ℕ) (rest : List ℕ) → body n ≡ true → IsWalk edge n rest → AreInside body rest
    → IsWalk (edges_inside edge body) n rest
inside_walk edge body n [] b w i = tt
inside_walk edge body n (m ∷ rest) b w i =
    (two_true (edge n m) (body n && body m) w.0 (two_true (body n) (body m) b i.0), inside_walk edge body m rest i.0 w.1 i.1)

walk_inside : (edge : ℕ → ℕ → Bool) (body : ℕ → Bool) (n : ℕ) (rest : List ℕ) → IsWalk (edges_inside edge body) n rest → AreInside body rest
walk_inside edge body n [] w = tt
walk_inside edge body n (m ∷ rest) w = ((both (body n) (body m) (both (edge n m) (body n && body m) w.0).1).1, walk_inside edge body m rest w.1)

forward_out : (loops : Loops) (h n : ℕ) (rest : List ℕ) → IsForward (loops_inside loops h) n rest → AreInside (loops.body h) rest → IsForward loops n rest
forward_out loops h n [] f i = tt
forward_out loops h n (m ∷ rest) f i = (off (loops.has m) (loops.body h m) (loops.body m n) f.0 i.0, forward_out loops h m rest f.1 i.1)
  where
    off : (a b c : Bool) → ((a && b) && c) ≡ false → b ≡ true → (a && c) ≡ false
    off true true c g j = g
    off true false c g j = cc
    off false b c g j = refl

-- what is in a list has a place, and a rank below its length
pub rank_within : (xs : List ℕ) (n : ℕ) → has xs n ≡ true → rank_in xs n < length xs
rank_within [] n h = cc
rank_within (x ∷ xs) n h = elim (tells (n == x)) [
  | inl t ↦ let e : rank_in (x ∷ xs) n ≡ 0 = ap (λ (b : Bool). cond b 0 (suc (rank_in xs n))) t in omega (arith, e)
  | inr t ↦
      let e : rank_in (x ∷ xs) n ≡ suc (rank_in xs n) = ap (λ (b : Bool). cond b 0 (suc (rank_in xs n))) t in
      let r : rank_in xs n < length xs = rank_within xs n (sym (ap (λ (b : Bool). b || has xs n) t) ∙ h) in omega (arith, e, r)
]

-- no place is past the end
pub rank_most : (xs : List ℕ) (n : ℕ) → rank_in xs n ≤ length xs
rank_most [] n = omega arith
rank_most (x ∷ xs) n = most (n == x) (rank_most xs n)
  where
    most : (b : Bool) → rank_in xs n ≤ length xs → cond b 0 (suc (rank_in xs n)) ≤ suc (length xs)
    most true r = omega arith
    most false r = omega (arith, r)

same : (a b : ℕ) → (a == b) ≡ true → a ≡ b
same a b t = elim (eqb_tells a b) [ inl q ↦ q.1 | inr q ↦ let f : (a == b) ≡ false = q.0 in cc ]

-- at its place stands the node itself
pub rank_at : (xs : List ℕ) (n : ℕ) → has xs n ≡ true → get_or xs (rank_in xs n) 0 ≡ n
rank_at [] n h = cc
rank_at (x ∷ xs) n h = elim (tells (n == x)) [
  | inl t ↦ ap (λ (k : ℕ). get_or (x ∷ xs) k 0) (ap (λ (b : Bool). cond b 0 (suc (rank_in xs n))) t) ∙ sym (same n x t)
  | inr t ↦
      ap (λ (k : ℕ). get_or (x ∷ xs) k 0) (ap (λ (b : Bool). cond b 0 (suc (rank_in xs n))) t)
      ∙ rank_at xs n (sym (ap (λ (b : Bool). b || has xs n) t) ∙ h)
]

-- what a list has stands at a place
pub place_in : (xs : List ℕ) (n : ℕ) → has xs n ≡ true → IsAt xs n
place_in xs n h = record { place = rank_in xs n; within = rank_within xs n h; is = rank_at xs n h }

-- what is in a beginning ranks below its length
pub rank_taken : (xs : List ℕ) (i n : ℕ) → has (take i xs) n ≡ true → rank_in xs n < i
rank_taken xs zero n h = cc
rank_taken [] (suc i) n h = cc
rank_taken (x ∷ xs) (suc i) n h = elim (tells (n == x)) [
  | inl t ↦ let e : rank_in (x ∷ xs) n ≡ 0 = ap (λ (b : Bool). cond b 0 (suc (rank_in xs n))) t in omega (arith, e)
  | inr t ↦
      let e : rank_in (x ∷ xs) n ≡ suc (rank_in xs n) = ap (λ (b : Bool). cond b 0 (suc (rank_in xs n))) t in
      let r : rank_in xs n < i = rank_taken xs i n (sym (ap (λ (b : Bool). b || has (take i xs) n) t) ∙ h) in omega (arith, e, r)
]

-- a node whose place is passed is among those taken
pub taken_rank : (xs : List ℕ) (i n : ℕ) → has xs n ≡ true → rank_in xs n < i → has (take i xs) n ≡ true
taken_rank [] i n h l = cc
taken_rank (x ∷ xs) zero n h l = absurd (omega (arith, l))
taken_rank (x ∷ xs) (suc i) n h l = elim (tells (n == x)) [
  | inl t ↦ ap (λ (b : Bool). b || has (take i xs) n) t
  | inr t ↦
      let e : rank_in (x ∷ xs) n ≡ suc (rank_in xs n) = ap (λ (b : Bool). cond b 0 (suc (rank_in xs n))) t in
      ap (λ (b : Bool). b || has (take i xs) n) t ∙ taken_rank xs i n (sym (ap (λ (b : Bool). b || has xs n) t) ∙ h) (omega (arith, l, e))
]

module _ (edge : ℕ → ℕ → Bool) (loops : Loops) (inside : ℕ → Bool) (order : List ℕ) (is : IsOrder edge loops inside order) where
  -- ranks fall along edges that don't lead back
  pub order_falls : (n m : ℕ) → inside n ≡ true → inside m ≡ true → edge n m ≡ true → is_back loops n m ≡ false → rank_in order m < rank_in order n
  order_falls n m i j e f =
      let h : has order n ≡ true = is.same n ∙ i in
      let at : get_or order (rank_in order n) 0 ≡ n = rank_at order n h in
      rank_taken order (rank_in order n) m
      (is.before (rank_in order n) m (rank_within order n h) j (ap (λ (x : ℕ). edge x m) at ∙ e) (ap (λ (x : ℕ). is_back loops x m) at ∙ f))

  -- the rank of a place is the place
  pub rank_place : (k : ℕ) → k < length order → rank_in order (get_or order k 0) ≡ k
  rank_place k l =
      let m : rank_in order (get_or order k 0) ≤ k = first order k l in
      elim (cases_lt (rank_in order (get_or order k 0)) k) [
        | inl a ↦
            let h : has order (get_or order k 0) ≡ true = there order k l in
            let t : has (take k order) (get_or order k 0) ≡ true = taken_rank order k (get_or order k 0) h a in
            let f : has (take k order) (get_or order k 0) ≡ false = is.once k l in cc
        | inr a ↦ omega (arith, m, a)
      ]
    where
      first : (xs : List ℕ) (k : ℕ) → k < length xs → rank_in xs (get_or xs k 0) ≤ k
      first [] k l = absurd (omega (arith, l))
      first (x ∷ xs) zero l = let e : rank_in (x ∷ xs) x ≡ 0 = ap (λ (b : Bool). cond b 0 (suc (rank_in xs x))) (eq-eqb x x refl) in omega (arith, e)
      first (x ∷ xs) (suc k) l = most (get_or xs k 0 == x) (first xs k (omega (arith, l)))
        where
          most : (b : Bool) → rank_in xs (get_or xs k 0) ≤ k → cond b 0 (suc (rank_in xs (get_or xs k 0))) ≤ suc k
          most true r = omega arith
          most false r = omega (arith, r)

      there : (xs : List ℕ) (k : ℕ) → k < length xs → has xs (get_or xs k 0) ≡ true
      there [] k l = absurd (omega (arith, l))
      there (x ∷ xs) zero l = ap (λ (b : Bool). b || has xs x) (eq-eqb x x refl)
      there (x ∷ xs) (suc k) l = right (get_or xs k 0 == x) (has xs (get_or xs k 0)) (there xs k (omega (arith, l)))
        where
          right : (a b : Bool) → b ≡ true → (a || b) ≡ true
          right true b h = refl
          right false b h = h

  -- they fall along forward walks through the nodes
  pub walk_falls : (n : ℕ) (rest : List ℕ) → inside n ≡ true → IsWalk edge n rest → IsForward loops n rest → AreInside inside rest
      → rank_in order (end_of n rest) ≤ rank_in order n
  walk_falls n [] i w f s = omega arith
  walk_falls n (m ∷ rest) i w f s =
      let a : rank_in order m < rank_in order n = order_falls n m i s.0 w.0 f.0 in
      let b : rank_in order (end_of m rest) ≤ rank_in order m = walk_falls m rest s.0 w.1 f.1 s.1 in omega (arith, a, b)

-- each node of a body is reached by a forward walk inside it
pub record IsReachedInside (edge : ℕ → ℕ → Bool) (loops : Loops) (h n : ℕ) : Type 0 where
  pub rest : List ℕ
  pub walk : IsWalk edge h rest
  pub forward : IsForward loops h rest
  pub stays : AreInside (loops.body h) rest
  pub ends : end_of h rest ≡ n

-- inside a nest the nodes of a body are reached from its head
pub reached_inside : (edge : ℕ → ℕ → Bool) (entry : ℕ) (nest : Nest) → IsNest edge entry nest → AreReached edge entry → (h n : ℕ) → nest.has h ≡ true
    → nest.body h n ≡ true
    → IsReachedInside edge (loops_of nest) h n
reached_inside edge entry nest is reached h n a b =
    let loops : Loops = loops_of nest in
    let are : AreLoops edge entry loops = nests_loops edge entry nest is reached in
    let p : SamePart (cut edge (nest.outer h)) h n = (is.body h n a).0 b in
    let itself : SamePart (cut edge (nest.outer h)) h h = (is.chain h a).2.entered.inside in
    let here : nest.body h h ≡ true = head_inside edge entry nest is h a in
    let between : List ℕ = p.there.between in
    let stay : AreInside (nest.body h) between = stays_inside edge entry nest is h h n between a itself.there p.there.walk p.back in
    let w : IsWalk edge h (between ++ n ∷ []) = walk_of_more (cut edge (nest.outer h)) edge (cut_edge edge (nest.outer h)) h (between ++ n ∷ []) p.there.walk in
    let s : AreInside (nest.body h) (between ++ n ∷ []) = inside_last between stay in
    let r : IsReached (edges_inside edge (nest.body h)) h n =
    record { rest = between ++ n ∷ []; walk = inside_walk edge (nest.body h) h (between ++ n ∷ []) here w s; ends = end_last h between } in
    let f : IsReachedForward (edges_inside edge (nest.body h)) (loops_inside loops h) h n =
    reached_forward (edges_inside edge (nest.body h)) h (loops_inside loops h) (inner_loops edge entry loops h are a) n r in
    let i : AreInside (nest.body h) f.rest = walk_inside edge (nest.body h) h f.rest f.walk in
    record {
      rest = f.rest;
      walk = walk_of_more (edges_inside edge (nest.body h)) edge (λ x m e. (both (edge x m) (nest.body h x && nest.body h m) e).0) h f.rest f.walk;
      forward = forward_out loops h h f.rest f.forward i;
      stays = i;
      ends = f.ends;
    }
  where
    inside_last : (between : List ℕ) → AreInside (nest.body h) between → AreInside (nest.body h) (between ++ n ∷ [])
    inside_last [] s = (b, tt)
    inside_last (m ∷ between) s = (s.0, inside_last between s.1)

    end_last : (m : ℕ) (between : List ℕ) → end_of m (between ++ n ∷ []) ≡ n
    end_last m [] = refl
    end_last m (k ∷ between) = end_last k between

module _ (edge : ℕ → ℕ → Bool) (loops : Loops) (inside : ℕ → Bool) (order : List ℕ) (is : IsOrder edge loops inside order)
    (reach : (h n : ℕ) → loops.has h ≡ true → loops.body h n ≡ true → IsReachedInside edge loops h n)
    (whole : (h n : ℕ) → loops.has h ≡ true → inside h ≡ true → loops.body h n ≡ true → inside n ≡ true) where
  -- the nodes of a body rank no higher than its head
  pub body_falls : (h n : ℕ) → loops.has h ≡ true → inside h ≡ true → loops.body h n ≡ true → rank_in order n ≤ rank_in order h
  body_falls h n a i b =
      let r : IsReachedInside edge loops h n = reach h n a b in
      let w : rank_in order (end_of h r.rest) ≤ rank_in order h =
      walk_falls edge loops inside order is h r.rest i r.walk r.forward (all_inside h a i r.rest r.stays) in
      omega (arith, w, ap (rank_in order) r.ends)
    where
      all_inside : (h : ℕ) → loops.has h ≡ true → inside h ≡ true → (rest : List ℕ) → AreInside (loops.body h) rest → AreInside inside rest
      all_inside h a i [] s = tt
      all_inside h a i (m ∷ rest) s = (whole h m a i s.0, all_inside h a i rest s.1)

  -- and below it, where they are others
  pub body_below : (h n : ℕ) → loops.has h ≡ true → inside h ≡ true → loops.body h n ≡ true → (h ≡ n → ⊥) → rank_in order n < rank_in order h
  body_below h n a i b ne = elim (cases_lt (rank_in order n) (rank_in order h)) [
    | inl l ↦ l
    | inr l ↦
        let m : rank_in order n ≤ rank_in order h = body_falls h n a i b in
        let e : rank_in order h ≡ rank_in order n = omega (arith, l, m) in
        absurd (ne (sym (rank_at order h (is.same h ∙ i)) ∙ (ap (λ (k : ℕ). get_or order k 0) e ∙ rank_at order n (is.same n ∙ whole h n a i b))))
  ]

  -- so an edge that leads to a node before isn't one back
  pub forward_order : IsForwardOrder edge loops inside order
  forward_order = record {
    sorted = is;
    forward = λ k m l e t. elim (tells (is_back loops (get_or order k 0) m)) [
      | inl b ↦
          let p : (loops.has m ≡ true) × (loops.body m (get_or order k 0) ≡ true) = both (loops.has m) (loops.body m (get_or order k 0)) b in
          let i : inside m ≡ true = sym (is.same m) ∙ all_taken order k m t in
          let a : rank_in order (get_or order k 0) ≤ rank_in order m = body_falls m (get_or order k 0) p.0 i p.1 in
          let c : rank_in order m < k = rank_taken order k m t in
          let d : rank_in order (get_or order k 0) ≡ k = rank_place edge loops inside order is k l in absurd (omega (arith, a, c, d))
      | inr b ↦ b
    ];
  }
    where
      all_taken : (xs : List ℕ) (k m : ℕ) → has (take k xs) m ≡ true → has xs m ≡ true
      all_taken xs zero m t = cc
      all_taken [] (suc k) m t = cc
      all_taken (x ∷ xs) (suc k) m t = elim (tells (m == x)) [
        | inl h ↦ ap (λ (b : Bool). b || has xs m) h
        | inr h ↦ ap (λ (b : Bool). b || has xs m) h ∙ all_taken xs k m (sym (ap (λ (b : Bool). b || has (take k xs) m) h) ∙ t)
      ]
