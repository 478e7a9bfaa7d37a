-- Walks with the turns of the heads that they come to.
use Rattle.std.proofs.Common.{◌≡◌, ◌≢◌, ◌&&◌, ℕ, zero, suc, ◌+◌, ◌*◌, ◌<◌, ◌≤◌, inl, inr, Bool, true, false, List, [], ◌∷◌, ◌++◌, refl, sym, ap}
use Rattle.std.proofs.Common.{subst, ◌∙◌, arith}
use Rattle.std.proofs.lemmas.Bool.Decides.{eqb_tells}
use Rattle.graph_laws.specs.Walk.{IsWalk, AreInside, passes, end_of, Costs}
use Rattle.graph_laws.specs.Loops.{Loops, AreLoops, is_back}
use Rattle.graph_laws.specs.Collapsed.{repeated}
use Rattle.graph_laws.proofs.Walks.{end-append, walk-append, inside-append}
use Rattle.graph_laws.proofs.Stretches.{tells, first, first_here, first_other, first_out, first-append, first_inside, passes_first, IsHeld, held-append}
use Rattle.graph_laws.proofs.Costs.{spent, spent-append}

-- where a walk goes: anywhere, anywhere inside one body, or inside the body of a head back to it
pub data Goal : Type 0 where
  Anywhere : Goal
  Inside : ℕ → Goal
  BackTo : ℕ → Goal

-- the nodes that a goal may stand in
abbrev pub area_of : Loops → Goal → ℕ → Bool
area_of loops Anywhere n = true
area_of loops (Inside h) n = loops.body h n
area_of loops (BackTo h) n = loops.body h n

-- the body of walks that stay inside is that of the head `at`
abbrev pub IsGoal : Loops → ℕ → Goal → Type 0
IsGoal loops at Anywhere = Unit {0}
IsGoal loops at (Inside h) = (h ≡ at) × (loops.has h ≡ true)
IsGoal loops at (BackTo h) = loops.has h ≡ true

-- what is spent at the last node
abbrev pub Ends : (ℕ → ℕ → Bool) → Costs → Goal → ℕ → ℕ → Type 0
Ends edge costs Anywhere n e = e ≡ costs.node n
Ends edge costs (Inside h) n e = e ≡ costs.node n
Ends edge costs (BackTo h) n e = (edge n h ≡ true) × (e ≡ costs.node n + costs.edge n h)

-- a walk within an area that passes no head of its first node's bodies again before it leaves them
pub record IsMade (edge : ℕ → ℕ → Bool) (loops : Loops) (bound : ℕ → ℕ) (area : ℕ → Bool) (n : ℕ) (rest : List ℕ) : Type 0 where
  pub walk : IsWalk edge n rest
  pub inside : AreInside area rest
  pub calm : (k : ℕ) → loops.has k ≡ true → loops.body k n ≡ true → first (loops.body k) k rest ≡ 0
  pub held : IsHeld loops bound rest

-- a walk to a goal that spends so much
pub record Made (edge : ℕ → ℕ → Bool) (loops : Loops) (bound : ℕ → ℕ) (costs : Costs) (goal : Goal) (n value : ℕ) : Type 0 where
  pub rest : List ℕ
  pub made : IsMade edge loops bound (area_of loops goal) n rest
  pub last : ℕ
  pub ends : Ends edge costs goal (end_of n rest) last
  pub spends : spent costs n rest + last ≡ value

-- the same with the further passes of its first node, if it is a head
pub record IsLapped (edge : ℕ → ℕ → Bool) (loops : Loops) (bound : ℕ → ℕ) (costs : Costs) (area : ℕ → Bool) (n : ℕ) (before rest : List ℕ)
    (laps : ℕ) : Type 0 where
  pub walk : IsWalk edge n rest
  pub inside : AreInside area rest
  pub calm : (k : ℕ) → loops.has k ≡ true → loops.body k n ≡ true → n ≢ k → first (loops.body k) k rest ≡ 0
  pub count : loops.has n ≡ true → first (loops.body n) n rest < bound n
  pub held : IsHeld loops bound rest
  pub ends : end_of n rest ≡ end_of n before
  pub spends : spent costs n rest ≡ laps + spent costs n before

one_turn : (s a b r v j l : ℕ) → s ≡ a + b + r → a + b ≡ v → r ≡ j * v + l → s ≡ suc j * v + l
one_turn s a b r v j l p q k = omega arith

module _ (edge : ℕ → ℕ → Bool) (entry : ℕ) (loops : Loops) (bound : ℕ → ℕ) (costs : Costs) (ok : AreLoops edge entry loops) (at : ℕ) where
  -- what the first node's bodies hold of a walk from it
  pub held_here : (n : ℕ) (rest : List ℕ) → ((k : ℕ) → loops.has k ≡ true → loops.body k n ≡ true → n ≢ k → first (loops.body k) k rest ≡ 0)
      → (loops.has n ≡ true → first (loops.body n) n rest < bound n)
      → (k : ℕ) → loops.has k ≡ true → first (loops.body k) k (n ∷ rest) ≤ bound k
  held_here n rest calm count k has = elim (tells (loops.body k n)) [
    | inl t ↦ elim (eqb_tells n k) [
      | inl a ↦
          let f : first (loops.body k) k (n ∷ rest) ≡ suc (first (loops.body k) k rest) = first_here (loops.body k) k n rest t a.1 in
          let g : first (loops.body k) k rest < bound k =
          subst (λ (x : ℕ). first (loops.body x) x rest < bound x) a.1 (count (subst (λ (x : ℕ). loops.has x ≡ true) (sym a.1) has)) in
          omega (arith, f, g)
      | inr a ↦
          let f : first (loops.body k) k (n ∷ rest) ≡ first (loops.body k) k rest = first_other (loops.body k) k n rest t a.0 in
          let g : first (loops.body k) k rest ≡ 0 = calm k has t a.1 in omega (arith, f, g)
    ]
    | inr o ↦ let f : first (loops.body k) k (n ∷ rest) ≡ 0 = first_out (loops.body k) k n rest o in omega (arith, f)
  ]

  pub within_body : (h m x : ℕ) → loops.has h ≡ true → loops.has m ≡ true → loops.body h m ≡ true → loops.body m x ≡ true → loops.body h x ≡ true
  within_body h m x g has a b = elim (eqb_tells m h) [
    | inl e ↦ subst (λ (y : ℕ). loops.body y x ≡ true) e.1 b
    | inr e ↦ ok.within m h x has g a e.1 b
  ]

  pub within_area : (goal : Goal) → IsGoal loops at goal → (m x : ℕ) → loops.has m ≡ true → area_of loops goal m ≡ true → loops.body m x ≡ true
      → area_of loops goal x ≡ true
  within_area Anywhere g m x has a b = refl
  within_area (Inside h) g m x has a b = within_body h m x g.1 has a b
  within_area (BackTo h) g m x has a b = within_body h m x g has a b

  pub all_within : (goal : Goal) → IsGoal loops at goal → (m : ℕ) (xs : List ℕ) → loops.has m ≡ true → area_of loops goal m ≡ true
      → AreInside (loops.body m) xs → AreInside (area_of loops goal) xs
  all_within goal g m [] has a i = tt
  all_within goal g m (x ∷ xs) has a i = (within_area goal g m x has a i.0, all_within goal g m xs has a i.1)

  -- a turn passes its head only at its ends
  pub turn_once : (n v : ℕ) → loops.has n ≡ true → (turn : Made edge loops bound costs (BackTo n) n v) → passes n turn.rest ≡ 0
  turn_once n v has turn =
      let z : first (loops.body n) n turn.rest ≡ 0 = turn.made.calm n has (ok.head n has) in
      let f : passes n turn.rest ≤ first (loops.body n) n (turn.rest ++ []) = passes_first (loops.body n) n turn.rest [] turn.made.inside in
      let g : first (loops.body n) n (turn.rest ++ []) ≤ first (loops.body n) n turn.rest + first (loops.body n) n [] =
      first-append (loops.body n) n turn.rest [] in
      omega (arith, z, f, g)

  -- what is left behind a turn
  pub after_turn : (n : ℕ) (rest : List ℕ) (k : ℕ) → loops.has k ≡ true → n ≢ k
      → ((j : ℕ) → loops.has j ≡ true → loops.body j n ≡ true → n ≢ j → first (loops.body j) j rest ≡ 0) → first (loops.body k) k (n ∷ rest) ≡ 0
  after_turn n rest k has ne calm = elim (tells (loops.body k n)) [
    | inl t ↦ elim (eqb_tells n k) [
      | inl a ↦ absurd (ne a.1)
      | inr a ↦ first_other (loops.body k) k n rest t a.0 ∙ calm k has t ne
    ]
    | inr o ↦ first_out (loops.body k) k n rest o
  ]

  -- turns of a head and then a walk from it
  pub with_turns : (goal : Goal) → IsGoal loops at goal → (n v : ℕ) (rest : List ℕ) → loops.has n ≡ true → area_of loops goal n ≡ true
      → IsMade edge loops bound (area_of loops goal) n rest → (turn : Made edge loops bound costs (BackTo n) n v) → (count : ℕ) → suc count ≤ bound n
      → (IsLapped edge loops bound costs (area_of loops goal) n rest (repeated n turn.rest count rest) (count * v))
      × (first (loops.body n) n (repeated n turn.rest count rest) ≡ count)
  with_turns goal g n v rest has a made turn zero short = (
    record {
      walk = made.walk;
      inside = made.inside;
      calm = λ k h b ne. made.calm k h b;
      count = λ h. let z : first (loops.body n) n rest ≡ 0 = made.calm n has (ok.head n has) in omega (arith, z);
      held = made.held;
      ends = refl;
      spends = omega arith;
    },
    made.calm n has (ok.head n has),
  )
  with_turns goal g n v rest has a made turn (suc count) short =
      let on = with_turns goal g n v rest has a made turn count (omega arith) in
      let w : List ℕ = repeated n turn.rest count rest in
      let head : loops.body n n ≡ true = ok.head n has in
      let counted : first (loops.body n) n (turn.rest ++ (n ∷ repeated n turn.rest count rest)) ≡ suc count =
      (let f : first (loops.body n) n (turn.rest ++ (n ∷ repeated n turn.rest count rest)) ≡
      passes n turn.rest + first (loops.body n) n (n ∷ repeated n turn.rest count rest) =
      first_inside (loops.body n) n turn.rest (n ∷ repeated n turn.rest count rest) turn.made.inside in
      let h : first (loops.body n) n (n ∷ repeated n turn.rest count rest) ≡ suc (first (loops.body n) n (repeated n turn.rest count rest)) =
      first_here (loops.body n) n n (repeated n turn.rest count rest) head refl in
      let p : passes n turn.rest ≡ 0 = turn_once n v has turn in
      let q : first (loops.body n) n (repeated n turn.rest count rest) ≡ count = on.1 in omega (arith, f, h, p, q)) in (
        record {
          walk = walk-append edge n turn.rest (n ∷ repeated n turn.rest count rest) turn.made.walk (turn.ends.0, on.0.walk);
          inside = inside-append (area_of loops goal) turn.rest (n ∷ repeated n turn.rest count rest)
              (all_within goal g n turn.rest has a turn.made.inside) (a, on.0.inside);
          calm = λ k h b ne.
              let f : first (loops.body k) k (turn.rest ++ (n ∷ repeated n turn.rest count rest)) ≤ first (loops.body k) k turn.rest + first
              (loops.body k) k (n ∷ repeated n turn.rest count rest) =
              first-append (loops.body k) k turn.rest (n ∷ repeated n turn.rest count rest) in
              let x : first (loops.body k) k turn.rest ≡ 0 = turn.made.calm k h b in
              let y : first (loops.body k) k (n ∷ repeated n turn.rest count rest) ≡ 0 = after_turn n (repeated n turn.rest count rest) k h ne on.0.calm in
              omega (arith, f, x, y);
          count = λ h. omega (arith, counted);
          held = held-append loops bound turn.rest (n ∷ repeated n turn.rest count rest) turn.made.held
              (held_here n (repeated n turn.rest count rest) on.0.calm on.0.count, on.0.held)
              (λ k h. elim (eqb_tells n k) [
                | inl e ↦ inr (
                  subst (λ (x : ℕ). passes x turn.rest ≡ 0) e.1 (turn_once n v has turn),
                  held_here n
                      (repeated n turn.rest count rest) on.0.calm on.0.count k h,
                )
                | inr e ↦ inl (after_turn n (repeated n turn.rest count rest) k h e.1 on.0.calm)
              ]);
          ends = end-append n n turn.rest (repeated n turn.rest count rest) ∙ on.0.ends;
          spends =
              one_turn (spent costs n (turn.rest ++ (n ∷ repeated n turn.rest count rest))) (spent costs n turn.rest)
              (costs.node (end_of n turn.rest) + costs.edge (end_of n turn.rest) n) (spent costs n (repeated n turn.rest count rest)) v count
              (spent costs n rest)
              (spent-append costs n n turn.rest (repeated n turn.rest count rest))
              (ap (λ (x : ℕ). spent costs n turn.rest + x) (sym turn.ends.1) ∙ turn.spends) on.0.spends;
        },
        counted,
      )

  -- a step that doesn't go back leads to no head of the first node's bodies
  pub back_is : (n m k : ℕ) → is_back loops n m ≡ false → loops.has k ≡ true → loops.body k n ≡ true → m ≡ k → ⊥
  back_is n m k forward has b e =
      let h : loops.has m ≡ true = subst (λ (x : ℕ). loops.has x ≡ true) (sym e) has in
      let i : loops.body m n ≡ true = subst (λ (x : ℕ). loops.body x n ≡ true) (sym e) b in
      let j : is_back loops n m ≡ true = ap (λ (x : Bool). x && loops.body m n) h ∙ i in cc
