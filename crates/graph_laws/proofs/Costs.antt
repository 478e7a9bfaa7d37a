-- Labels bound what walks cost.
use Rattle.std.proofs.Common.{◌≡◌, ◌≢◌, ◌&&◌, ℕ, zero, suc, ◌+◌, ◌-◌, ◌*◌, ◌≤◌, inl, inr, Bool, true, false, List, [], ◌∷◌, ◌++◌, length, Option}
use Rattle.std.proofs.Common.{Some, refl, sym, ap, subst, ◌∙◌, arith, cond}
use Rattle.std.specs.Prelude.{unwrap_or}
use Rattle.std.proofs.lemmas.Bool.Decides.{eqb_tells}
use Rattle.std.proofs.lemmas.List.{length-append}
use Rattle.std.proofs.Math.Nat.{mul-le-mul_left}
use Rattle.graph_laws.specs.Walk.{IsWalk, AreInside, passes, end_of, Costs, cost_of}
use Rattle.graph_laws.specs.Loops.{Loops, AreLoops, KeepsBounds, is_back, CostAtMost, edges_inside}
use Rattle.graph_laws.specs.Labels.{Labels, turn_cost, laps_cost, charge, step_cost, IsAtLeast, AreLabels, AreOwnLabels, most_from, OwnLabelsBoundWalks}
use Rattle.graph_laws.proofs.Walks.{end-append, end_inside, walk_front, walk_back, passes_other}
use Rattle.graph_laws.proofs.Stretches.{tells, both, first, first_here, first_tail, first_front, first_back, first_passes, NextPass, next_pass}
use Rattle.graph_laws.proofs.Stretches.{IsHeld, held_from_keeps, held_front, held_back}

-- what a walk costs but for its last node
abbrev pub spent : Costs → ℕ → List ℕ → ℕ
spent costs n [] = 0
spent costs n (m ∷ rest) = costs.node n + costs.edge n m + spent costs m rest

-- a walk costs what it has spent and its last node
pub cost_is_spent : (costs : Costs) (n : ℕ) (rest : List ℕ) → cost_of costs n rest ≡ spent costs n rest + costs.node (end_of n rest)
cost_is_spent costs n [] = omega arith
cost_is_spent costs n (m ∷ rest) = let e : cost_of costs m rest ≡ spent costs m rest + costs.node (end_of m rest) =
    cost_is_spent costs m rest in omega (arith, e)

-- what two walks have spent adds up
pub spent-append : (costs : Costs) (n m : ℕ) (xs ys : List ℕ)
    → spent costs n (xs ++ m ∷ ys) ≡ spent costs n xs + (costs.node (end_of n xs) + costs.edge (end_of n xs) m) + spent costs m ys
spent-append costs n m [] ys = omega arith
spent-append costs n m (x ∷ xs) ys =
    let e : spent costs x (xs ++ m ∷ ys) ≡ spent costs x xs + (costs.node (end_of x xs) + costs.edge (end_of x xs) m) + spent costs m ys =
    spent-append costs x m xs ys in omega (arith, e)

-- a label that is there and with so much more is at least so much
record IsBounded (label : Option ℕ) (amount more : ℕ) : Type 0 where
  pub value : ℕ
  pub is : label ≡ Some value
  pub least : amount ≤ value + more

-- a label falls along the edges of a walk but those back to a head
abbrev Descends : Loops → (ℕ → ℕ) → Costs → Labels → (ℕ → Option ℕ) → ℕ → List ℕ → Type 0
Descends loops bound costs labels label n [] = Unit {0}
Descends loops bound costs labels label n (m ∷ rest) =
    (is_back loops n m ≡ false → (v : ℕ) → label m ≡ Some v → IsAtLeast (label n) (step_cost loops bound costs labels n m + v))
    × Descends loops bound costs labels label m rest

-- no head but the first node itself is passed again before its body, in which the walk begins, is left
abbrev pub IsCalm : Loops → ℕ → List ℕ → Type 0
IsCalm loops n rest = (k : ℕ) → loops.has k ≡ true → loops.body k n ≡ true → n ≢ k → first (loops.body k) k rest ≡ 0

-- what the further passes of the first node cost, before its body is left
abbrev laps : Loops → Labels → ℕ → List ℕ → ℕ
laps loops labels n rest = cond (loops.has n) (first (loops.body n) n rest * turn_cost labels n) 0

-- the claim for all walks of so many steps
abbrev Claim : (ℕ → ℕ → Bool) → Loops → (ℕ → ℕ) → Costs → Labels → ℕ → Type 0
Claim edge loops bound costs labels size =
    (label : ℕ → Option ℕ) (n : ℕ) (rest : List ℕ) → length rest ≤ size → IsWalk edge n rest → IsHeld loops bound (n ∷ rest) → IsCalm loops n rest
    → Descends loops bound costs labels label n rest → (v : ℕ) → label (end_of n rest) ≡ Some v
    → IsBounded (label n) (spent costs n rest + v) (laps loops labels n rest)

descends_back : (loops : Loops) (bound : ℕ → ℕ) (costs : Costs) (labels : Labels) (label : ℕ → Option ℕ) (n : ℕ) (xs : List ℕ) (m : ℕ) (ys : List ℕ)
    → Descends loops bound costs labels label n (xs ++ m ∷ ys) → Descends loops bound costs labels label m ys
descends_back loops bound costs labels label n [] m ys d = d.1
descends_back loops bound costs labels label n (x ∷ xs) m ys d = descends_back loops bound costs labels label x xs m ys d.1

some_is : {a b : ℕ} → ◌≡◌ {A = Option ℕ} (Some a) (Some b) → a ≡ b
some_is e = cc

-- a first turn and what follows it
sums_up : (a b c v e t u q l m s l' : ℕ) → s ≡ a + b + c → b ≤ e → a + e ≤ t + l → l ≡ 0 → c + v ≤ u + m → m ≡ q * t → l' ≡ suc q * t → s + v ≤ u + l'
sums_up a b c v e t u q l m s l' p1 p2 p3 p4 p5 p6 p7 = omega arith

-- the further passes of a head within its bound
laps_within : (q b t : ℕ) → suc q ≤ b → q * t ≤ (b - 1) * t
laps_within q b t h =
    let m : t * q ≤ t * (b - 1) = mul-le-mul_left t (omega arith) in omega (arith, m)

module _ (edge : ℕ → ℕ → Bool) (entry : ℕ) (loops : Loops) (bound : ℕ → ℕ) (costs : Costs) (labels : Labels)
    (ok : AreLoops edge entry loops) (asks : AreLabels edge loops bound costs labels) where
  -- the labels of a turn fall inside the body
  turn_descends : (h n : ℕ) (rest : List ℕ) → loops.has h ≡ true → 2 ≤ bound h → loops.body h n ≡ true → AreInside (loops.body h) rest → IsWalk edge n rest
      → Descends loops bound costs labels (labels.turn h) n rest
  turn_descends h n [] has two b i w = tt
  turn_descends h n (m ∷ rest) has two b i w =
      ((λ forward v e. asks.turn h n m v has two b i.0 w.0 forward e), turn_descends h m rest has two i.0 i.1 w.1)

  inside_outer : (k n : ℕ) (xs : List ℕ) → loops.has n ≡ true → loops.has k ≡ true → loops.body k n ≡ true → n ≢ k → AreInside (loops.body n) xs
      → AreInside (loops.body k) xs
  inside_outer k n [] a b c d i = tt
  inside_outer k n (x ∷ xs) a b c d i = (ok.within n k x a b c d i.0, inside_outer k n xs a b c d i.1)

  -- a walk that begins with a turn of its first node
  with_turn : (size : ℕ) → Claim edge loops bound costs labels size
      → (label : ℕ → Option ℕ) (n : ℕ) (between after : List ℕ) → length (between ++ n ∷ after) ≤ suc size → IsWalk edge n (between ++ n ∷ after)
      → IsHeld loops bound (n ∷ (between ++ n ∷ after)) → IsCalm loops n (between ++ n ∷ after)
      → Descends loops bound costs labels label n (between ++ n ∷ after) → (v : ℕ) → label (end_of n (between ++ n ∷ after)) ≡ Some v
      → loops.has n ≡ true → AreInside (loops.body n) between → passes n between ≡ 0
      → first (loops.body n) n (between ++ n ∷ after) ≡ suc (first (loops.body n) n after)
      → IsBounded (label n) (spent costs n (between ++ n ∷ after) + v) (laps loops labels n (between ++ n ∷ after))
  with_turn size claim label n between after short w held calm d v e has inside once count =
      let head : loops.body n n ≡ true = ok.head n has in
      let size_of : length (between ++ n ∷ after) ≡ length between + length (n ∷ after) = length-append between (n ∷ after) in
      let all_of : first (loops.body n) n (n ∷ (between ++ n ∷ after)) ≡ suc (first (loops.body n) n (between ++ n ∷ after)) =
      first_here (loops.body n) n n (between ++ n ∷ after) head refl in
      let held_n : first (loops.body n) n (n ∷ (between ++ n ∷ after)) ≤ bound n = held.0 n has in
      let two : 2 ≤ bound n = omega (arith, all_of, held_n, count) in
      let z : ℕ = end_of n between in
      let rest : IsWalk edge (end_of n between) (n ∷ after) = walk_back edge n between (n ∷ after) w in
      let ends : IsAtLeast (labels.turn n (end_of n between)) (costs.node (end_of n between) + costs.edge (end_of n between) n) =
      asks.back n (end_of n between) has two (end_inside (loops.body n) n between head inside) rest.0 in
      let turn : IsBounded (labels.turn n n) (spent costs n between + ends.value) (laps loops labels n between) =
      claim (labels.turn n) n between (omega (arith, size_of)) (walk_front edge n between (n ∷ after) w) (held_front loops bound (n ∷ between) (n ∷ after) held)
      (λ k has_k b ne. let f : first (loops.body k) k between ≤ first (loops.body k) k (between ++ n ∷ after) =
      first_front (loops.body k) k between (n ∷ after) in
      let g : first (loops.body k) k (between ++ n ∷ after) ≡ 0 = calm k has_k b ne in omega (arith, f, g))
      (turn_descends n n between has two head inside (walk_front edge n between (n ∷ after) w)) ends.value ends.is in
      let on : IsBounded (label n) (spent costs n after + v) (laps loops labels n after) =
      claim label n after (omega (arith, size_of)) rest.1 (held_back loops bound (n ∷ between) (n ∷ after) held)
      (λ k has_k b ne.
      let f : first (loops.body k) k (n ∷ after) ≤ first (loops.body k) k (between ++ n ∷ after) =
      first_back (loops.body k) k between (n ∷ after) (inside_outer k n between has has_k b ne inside) in
      let g : first (loops.body k) k after ≤ first (loops.body k) k (n ∷ after) = first_tail (loops.body k) k n after b in
      let z : first (loops.body k) k (between ++ n ∷ after) ≡ 0 = calm k has_k b ne in omega (arith, f, g, z))
      (descends_back loops bound costs labels label n between n after d) v (ap label (sym (end-append n n between after)) ∙ e) in
      let t : turn_cost labels n ≡ turn.value = ap (λ (o : Option ℕ). unwrap_or o 0) turn.is in
      let none : laps loops labels n between ≡ 0 =
      ap (λ (b : Bool). cond b (first (loops.body n) n between * turn_cost labels n) 0) has
      ∙ (let f : first (loops.body n) n between ≤ passes n between = first_passes (loops.body n) n between in
      let g : first (loops.body n) n between ≡ 0 = omega (arith, f, once) in ap (λ (q : ℕ). q * turn_cost labels n) g ∙ omega arith) in
      let laps_all : laps loops labels n (between ++ n ∷ after) ≡ suc (first (loops.body n) n after) * turn.value =
      ap (λ (b : Bool). cond b (first (loops.body n) n (between ++ n ∷ after) * turn_cost labels n) 0) has
      ∙ ap (λ (q : ℕ). q * turn_cost labels n) count ∙ ap (λ (q : ℕ). suc (first (loops.body n) n after) * q) t in
      let laps_on : laps loops labels n after ≡ first (loops.body n) n after * turn.value =
      ap (λ (b : Bool). cond b (first (loops.body n) n after * turn_cost labels n) 0) has ∙ ap (λ (q : ℕ). first (loops.body n) n after * q) t in
      let sum = spent-append costs n n between after in
      record {
        value = on.value;
        is = on.is;
        least =
            sums_up (spent costs n between) (costs.node (end_of n between) + costs.edge (end_of n between) n)
            (spent costs n after) v ends.value turn.value on.value (first (loops.body n) n after) (laps loops labels n between)
            (laps loops labels n after) (spent costs n (between ++ n ∷ after))
            (laps loops labels n (between ++ n ∷ after)) sum ends.least turn.least none on.least laps_on laps_all;
      }

  turned : (size : ℕ) → Claim edge loops bound costs labels size
      → (label : ℕ → Option ℕ) (n : ℕ) (rest : List ℕ) (s : NextPass (loops.body n) n rest) → loops.has n ≡ true → length rest ≤ suc size → IsWalk edge n rest
      → IsHeld loops bound (n ∷ rest) → IsCalm loops n rest → Descends loops bound costs labels label n rest → (v : ℕ) → label (end_of n rest) ≡ Some v
      → IsBounded (label n) (spent costs n rest + v) (laps loops labels n rest)
  turned size claim label n rest s has short w held calm d v e =
      let P : List ℕ → Type 0 = λ l. length l ≤ suc size → IsWalk edge n l → IsHeld loops bound (n ∷ l) → IsCalm loops n l
      → Descends loops bound costs labels label n l
      → label (end_of n l) ≡ Some v → first (loops.body n) n l ≡ suc (first (loops.body n) n s.after)
      → IsBounded (label n) (spent costs n l + v) (laps loops labels n l) in
      subst P (sym s.is) (λ a b c f g h i. with_turn size claim label n s.between s.after a b c f g v h has s.inside s.once i) short w held calm d e s.count

  -- a step that doesn't go back to a head
  forward_step : (n m : ℕ) (rest : List ℕ) → edge n m ≡ true → IsCalm loops n (m ∷ rest)
      → (loops.has n ≡ true → first (loops.body n) n (m ∷ rest) ≡ 0) → is_back loops n m ≡ false
  forward_step n m rest w calm none = elim (tells (is_back loops n m)) [
    | inl t ↦
        let b : (loops.has m ≡ true) × (loops.body m n ≡ true) = both (loops.has m) (loops.body m n) t in
        let head : loops.body m m ≡ true = ok.head m b.0 in
        let f : first (loops.body m) m (m ∷ rest) ≡ suc (first (loops.body m) m rest) = first_here (loops.body m) m m rest head refl in
        elim (eqb_tells n m) [
          | inl a ↦
              let z : first (loops.body m) m (m ∷ rest) ≡ 0 =
              subst (λ (x : ℕ). first (loops.body x) x (m ∷ rest) ≡ 0) a.1 (none (subst (λ (x : ℕ). loops.has x ≡ true) (sym a.1) b.0)) in
              absurd (omega (arith, f, z))
          | inr a ↦ let z : first (loops.body m) m (m ∷ rest) ≡ 0 = calm m b.0 b.1 a.1 in absurd (omega (arith, f, z))
        ]
    | inr f ↦ f
  ]

  calm_on : (n m : ℕ) (rest : List ℕ) → edge n m ≡ true → IsCalm loops n (m ∷ rest) → (loops.has n ≡ true → first (loops.body n) n (m ∷ rest) ≡ 0)
      → IsCalm loops m rest
  calm_on n m rest w calm none k has b ne =
      let f : first (loops.body k) k rest ≤ first (loops.body k) k (m ∷ rest) = first_tail (loops.body k) k m rest b in
      elim (tells (loops.body k n)) [
        | inl t ↦ elim (eqb_tells n k) [
          | inl a ↦
              let z : first (loops.body k) k (m ∷ rest) ≡ 0 =
              subst (λ (x : ℕ). first (loops.body x) x (m ∷ rest) ≡ 0) a.1 (none (subst (λ (x : ℕ). loops.has x ≡ true) (sym a.1) has)) in omega
              (arith, f, z)
          | inr a ↦ let z : first (loops.body k) k (m ∷ rest) ≡ 0 = calm k has t a.1 in omega (arith, f, z)
        ]
        | inr o ↦ absurd (ne (ok.entered k n m has w o b))
      ]

  -- what the further passes of a node cost
  entry_charged : (n : ℕ) (rest : List ℕ) → IsHeld loops bound (n ∷ rest) → laps loops labels n rest ≤ laps_cost loops bound labels n
  entry_charged m rest held =
      elim (tells (loops.has m)) [
        | inl t ↦
            let f : first (loops.body m) m (m ∷ rest) ≡ suc (first (loops.body m) m rest) = first_here (loops.body m) m m rest (ok.head m t) refl in
            let g : first (loops.body m) m (m ∷ rest) ≤ bound m = held.0 m t in
            let a : laps loops labels m rest ≡ first (loops.body m) m rest * turn_cost labels m =
            ap (λ (b : Bool). cond b (first (loops.body m) m rest * turn_cost labels m) 0) t in
            let b : laps_cost loops bound labels m ≡ (bound m - 1) * turn_cost labels m = ap (λ (b : Bool). cond b ((bound m - 1) * turn_cost labels m) 0) t in
            let l : first (loops.body m) m rest * turn_cost labels m ≤ (bound m - 1) * turn_cost labels m =
            laps_within (first (loops.body m) m rest) (bound m) (turn_cost labels m) (omega (arith, f, g)) in
            omega (arith, a, b, l)
        | inr o ↦
            let a : laps loops labels m rest ≡ 0 = ap (λ (b : Bool). cond b (first (loops.body m) m rest * turn_cost labels m) 0) o in omega (arith, a)
      ]

  -- what the passes of an entered head cost is charged
  charged : (n m : ℕ) (rest : List ℕ) → is_back loops n m ≡ false → IsHeld loops bound (m ∷ rest) → laps loops labels m rest ≤ charge loops bound labels n m
  charged n m rest forward held =
      let c : charge loops bound labels n m ≡ laps_cost loops bound labels m = ap (λ (b : Bool). cond b 0 (laps_cost loops bound labels m)) forward in
      let l : laps loops labels m rest ≤ laps_cost loops bound labels m = entry_charged m rest held in omega (arith, c, l)

  -- a walk that begins with a step that doesn't go back to a head
  with_step : (size : ℕ) → Claim edge loops bound costs labels size
      → (label : ℕ → Option ℕ) (n m : ℕ) (rest : List ℕ) → length rest ≤ size → IsWalk edge n (m ∷ rest) → IsHeld loops bound (n ∷ m ∷ rest)
      → IsCalm loops n (m ∷ rest)
      → Descends loops bound costs labels label n (m ∷ rest) → (v : ℕ) → label (end_of m rest) ≡ Some v
      → (loops.has n ≡ true → first (loops.body n) n (m ∷ rest) ≡ 0)
      → IsBounded (label n) (spent costs n (m ∷ rest) + v) (laps loops labels n (m ∷ rest))
  with_step size claim label n m rest short w held calm d v e none =
      let forward : is_back loops n m ≡ false = forward_step n m rest w.0 calm none in
      let on : IsBounded (label m) (spent costs m rest + v) (laps loops labels m rest) =
      claim label m rest short w.1 held.1 (calm_on n m rest w.0 calm none) d.1 v e in
      let here : IsAtLeast (label n) (step_cost loops bound costs labels n m + on.value) = d.0 forward on.value on.is in
      let c : laps loops labels m rest ≤ charge loops bound labels n m = charged n m rest forward held.1 in
      record { value = here.value; is = here.is; least = let x = here.least in let y = on.least in omega (arith, x, y, c) }

  claim : (size : ℕ) → Claim edge loops bound costs labels size
  claim size label n [] short w held calm d v e = record { value = v; is = e; least = omega arith }
  claim zero label n (m ∷ rest) short w held calm d v e = absurd (let s : suc (length rest) ≤ 0 = short in omega (arith, s))
  claim (suc size) label n (m ∷ rest) short w held calm d v e =
      let short_on : length rest ≤ size = (let s : suc (length rest) ≤ suc size = short in omega (arith, s)) in
      elim (tells (loops.has n)) [
        | inl has ↦ elim (next_pass (loops.body n) n (m ∷ rest)) [
          | inl z ↦ with_step size (claim size) label n m rest short_on w held calm d v e (λ h. z)
          | inr s ↦ turned size (claim size) label n (m ∷ rest) s has short w held calm d v e
        ]
        | inr o ↦ with_step size (claim size) label n m rest short_on w held calm d v e (λ h. cc)
      ]

  rest_descends : (n : ℕ) (rest : List ℕ) → IsWalk edge n rest → Descends loops bound costs labels (λ m. Some (labels.rest m)) n rest
  rest_descends n [] w = tt
  rest_descends n (m ∷ rest) w = (
    (λ forward v e. record {
      value = labels.rest n;
      is = refl;
      least = (let f = asks.rest n m w.0 forward in let g : labels.rest m ≡ v = some_is e in omega (arith, f, g));
    }),
    rest_descends m rest w.1,
  )

  -- labels bound the walks from the entry
  pub labels_bound : (rest : List ℕ) → IsWalk edge entry rest → KeepsBounds loops bound (entry ∷ rest)
      → cost_of costs entry rest ≤ most_from loops bound labels entry
  labels_bound rest w keeps =
      let held : IsHeld loops bound (entry ∷ rest) = held_from_keeps loops bound (entry ∷ rest) keeps in
      let b : IsBounded (Some (labels.rest entry)) (spent costs entry rest + labels.rest (end_of entry rest)) (laps loops labels entry rest) =
      claim (length rest) (λ n. Some (labels.rest n)) entry rest (omega arith) w held (λ k has b ne. absurd (ne (ok.at_entry k has b)))
      (rest_descends entry rest w) (labels.rest (end_of entry rest)) refl in
      let same : labels.rest entry ≡ b.value = some_is b.is in
      let l : laps loops labels entry rest ≤ laps_cost loops bound labels entry = entry_charged entry rest held in
      let c = cost_is_spent costs entry rest in
      let d = asks.node (end_of entry rest) in
      let x = b.least in
      omega (arith, same, l, c, d, x)

  -- a walk inside a body, from its head
  own_descends : (h n : ℕ) (own : ℕ → ℕ) (rest : List ℕ) → AreOwnLabels edge loops bound costs labels h own → IsWalk (edges_inside edge (loops.body h)) n rest
      → Descends loops bound costs labels (λ m. Some (own m)) n rest
  own_descends h n own [] a w = tt
  own_descends h n own (m ∷ rest) a w =
      let e : (edge n m ≡ true) × ((loops.body h n && loops.body h m) ≡ true) = both (edge n m) (loops.body h n && loops.body h m) w.0 in
      let i : (loops.body h n ≡ true) × (loops.body h m ≡ true) = both (loops.body h n) (loops.body h m) e.1 in (
        (λ forward v q. record {
          value = own n;
          is = refl;
          least = (let f = a.rest n m i.0 i.1 e.0 forward in let g : own m ≡ v = some_is q in omega (arith, f, g));
        }),
        own_descends h m own rest a w.1,
      )

  plain_walk : (body : ℕ → Bool) (n : ℕ) (rest : List ℕ) → IsWalk (edges_inside edge body) n rest → IsWalk edge n rest
  plain_walk body n [] w = tt
  plain_walk body n (m ∷ rest) w = ((both (edge n m) (body n && body m) w.0).0, plain_walk body m rest w.1)

  end_in_body : (body : ℕ → Bool) (n : ℕ) (rest : List ℕ) → body n ≡ true → IsWalk (edges_inside edge body) n rest → body (end_of n rest) ≡ true
  end_in_body body n [] b w = b
  end_in_body body n (m ∷ rest) b w = end_in_body body m rest (both (body n) (body m) (both (edge n m) (body n && body m) w.0).1).1 w.1

  -- a head outside the body is not passed inside it
  not_passed : (body : ℕ → Bool) (k n : ℕ) (rest : List ℕ) → body k ≡ false → IsWalk (edges_inside edge body) n rest → passes k rest ≡ 0
  not_passed body k n [] o w = refl
  not_passed body k n (m ∷ rest) o w = elim (eqb_tells m k) [
    | inl a ↦
        let i : body m ≡ true = (both (body n) (body m) (both (edge n m) (body n && body m) w.0).1).1 in
        let j : body m ≡ false = ap body a.1 ∙ o in cc
    | inr a ↦ passes_other k m rest a.0 ∙ not_passed body k m rest o w.1
  ]

  -- labels of a body bound the walks inside it from its head
  pub own_bound : (h : ℕ) (own : ℕ → ℕ) → loops.has h ≡ true → AreOwnLabels edge loops bound costs labels h own
      → CostAtMost (edges_inside edge (loops.body h)) h loops bound costs (laps_cost loops bound labels h + own h)
  own_bound h own has a rest w keeps =
      let held : IsHeld loops bound (h ∷ rest) = held_from_keeps loops bound (h ∷ rest) keeps in
      let b : IsBounded (Some (own h)) (spent costs h rest + own (end_of h rest)) (laps loops labels h rest) =
      claim (length rest) (λ n. Some (own n)) h rest (omega arith) (plain_walk (loops.body h) h rest w) held
      (λ k has_k b ne.
      let z : passes k rest ≡ 0 = not_passed (loops.body h) k h rest (ok.apart h k has has_k b ne) w in
      let f : first (loops.body k) k rest ≤ passes k rest = first_passes (loops.body k) k rest in omega (arith, z, f))
      (own_descends h h own rest a w) (own (end_of h rest)) refl in
      let same : own h ≡ b.value = some_is b.is in
      let l : laps loops labels h rest ≤ laps_cost loops bound labels h = entry_charged h rest held in
      let c = cost_is_spent costs h rest in
      let d = a.node (end_of h rest) (end_in_body (loops.body h) h rest (ok.head h has) w) in
      let x = b.least in
      omega (arith, same, l, c, d, x)

-- labels of the walks inside one body that ask enough bound the cost of each walk inside it from its head
pub own_bounds : OwnLabelsBoundWalks
own_bounds edge entry loops bound costs labels h own ok asks has are = own_bound edge entry loops bound costs labels ok asks h own has are
