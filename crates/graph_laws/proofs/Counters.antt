-- Counters: what each turn changes bounds how often the head is passed.
use Rattle.std.proofs.Common.{◌≡◌, ℕ, ◌+◌, ◌-◌, ◌*◌, ◌/◌, ◌≤◌, inl, inr, Bool, true, List, [], ◌∷◌, ◌++◌, refl, sym, ap, subst, ◌∙◌, arith, suc}
use Rattle.std.proofs.lemmas.Bool.{cases_lt}
use Rattle.std.proofs.lemmas.Bool.Decides.{eqb_tells}
use Rattle.std.proofs.Math.Nat.{mul-le-mul_left}
use Rattle.graph_laws.specs.Walk.{IsWalk, AreInside, passes, end_of, total}
use Rattle.graph_laws.proofs.Walks.{passes_here, passes_other, passes-append, inside-append, walk-append, end-append}
use Rattle.graph_laws.specs.Counter.{Visit, Changes, AreCounted, AreWalk, AreWithin, nodes_of, IsTurn, turn_up, turn_down, CounterBoundsPasses}
use Rattle.graph_laws.specs.Counter.{FallingCounterBoundsPasses, AreRisingSums, AreFallingSums, RisingSumsBoundTurns, FallingSumsBoundTurns}

-- a count of steps within a range
steps_fit : (q step range : ℕ) → 1 ≤ step → q * step ≤ range → q ≤ range / step
steps_fit q step range p h = elim (cases_lt (range / step) q) [
  | inl l ↦
      let m : step * (range / step + 1) ≤ step * q = mul-le-mul_left step (omega arith) in
      absurd (omega (arith, m))
  | inr l ↦ l
]

-- from a node of a turn on, the rest of its sum is at least what the label leaves
rising_along : (edge : ℕ → ℕ → Bool) (body : ℕ → Bool) (head : ℕ) (changes : Changes) (step : ℕ) (label : ℕ → ℕ)
    → AreRisingSums edge body head changes step label
    → (n : ℕ) (between : List ℕ) → body n ≡ true → IsWalk edge n (between ++ head ∷ []) → AreInside body between → passes head between ≡ 0
    → label head + step + total changes.down (n ∷ between) ≤ label n + total changes.up (n ∷ between)
rising_along edge body head changes step label sums n [] b w i p =
    let e : label head + step + changes.down n ≤ label n + changes.up n = sums.end n b w.0 in omega (arith, e)
rising_along edge body head changes step label sums n (m ∷ between) b w i p = elim (eqb_tells m head) [
  | inl a ↦ let o : passes head (m ∷ between) ≡ 1 + passes head between = passes_here head m between a.1 in absurd (omega (arith, p, o))
  | inr a ↦
      let z : passes head (m ∷ between) ≡ passes head between = passes_other head m between a.0 in
      let e : label m + changes.down n ≤ label n + changes.up n = sums.on n m b i.0 w.0 a.0 in
      let r : label head + step + total changes.down (m ∷ between) ≤ label m + total changes.up (m ∷ between) =
      rising_along edge body head changes step label sums m between i.0 w.1 i.1 (sym z ∙ p) in
      omega (arith, e, r)
]

falling_along : (edge : ℕ → ℕ → Bool) (body : ℕ → Bool) (head : ℕ) (changes : Changes) (step : ℕ) (label : ℕ → ℕ)
    → AreFallingSums edge body head changes step label
    → (n : ℕ) (between : List ℕ) → body n ≡ true → IsWalk edge n (between ++ head ∷ []) → AreInside body between → passes head between ≡ 0
    → label n + total changes.up (n ∷ between) + step ≤ label head + total changes.down (n ∷ between)
falling_along edge body head changes step label sums n [] b w i p =
    let e : label n + changes.up n + step ≤ label head + changes.down n = sums.end n b w.0 in omega (arith, e)
falling_along edge body head changes step label sums n (m ∷ between) b w i p = elim (eqb_tells m head) [
  | inl a ↦ let o : passes head (m ∷ between) ≡ 1 + passes head between = passes_here head m between a.1 in absurd (omega (arith, p, o))
  | inr a ↦
      let z : passes head (m ∷ between) ≡ passes head between = passes_other head m between a.0 in
      let e : label n + changes.up n ≤ label m + changes.down n = sums.on n m b i.0 w.0 a.0 in
      let r : label m + total changes.up (m ∷ between) + step ≤ label head + total changes.down (m ∷ between) =
      falling_along edge body head changes step label sums m between i.0 w.1 i.1 (sym z ∙ p) in
      omega (arith, e, r)
]

-- labels of sums show that each turn rises by at least the step
pub rising_sums : RisingSumsBoundTurns
rising_sums edge body head changes step label b sums between turn =
    let h : label head + step + total changes.down (head ∷ between) ≤ label head + total changes.up (head ∷ between) =
    rising_along edge body head changes step label sums head between b turn.walk turn.inside turn.once in
    omega (arith, h)

-- labels of sums show that each turn falls by at least the step
pub falling_sums : FallingSumsBoundTurns
falling_sums edge body head changes step label b sums between turn =
    let h : label head + total changes.up (head ∷ between) + step ≤ label head + total changes.down (head ∷ between) =
    falling_along edge body head changes step label sums head between b turn.walk turn.inside turn.once in
    omega (arith, h)

-- a sum with one node more at the end
pub sum-snoc : (f : ℕ → ℕ) (n m : ℕ) (xs : List ℕ) → total f (n ∷ (xs ++ m ∷ [])) ≡ total f (n ∷ xs) + f m
sum-snoc f n m [] = omega arith
sum-snoc f n m (x ∷ xs) = let e : total f (x ∷ (xs ++ m ∷ [])) ≡ total f (x ∷ xs) + f m = sum-snoc f x m xs in omega (arith, e)

walk_tail : (edge : ℕ → ℕ → Bool) (v : Visit) (rest : List Visit) → AreWalk edge (nodes_of (v ∷ rest)) → AreWalk edge (nodes_of rest)
walk_tail edge v [] w = tt
walk_tail edge v (u ∷ rest) w = w.1

counted_tail : (changes : Changes) (v : Visit) (rest : List Visit) → AreCounted changes (v ∷ rest) → AreCounted changes rest
counted_tail changes v [] w = tt
counted_tail changes v (u ∷ rest) w = w.1

-- What holds of the content at the end of a range and no more passes, and goes over a turn backwards, holds of the
-- content at a head and the passes that follow it.
module _ (edge : ℕ → ℕ → Bool) (body : ℕ → Bool) (head : ℕ) (changes : Changes) (lo hi : ℕ) (Fits : ℕ → ℕ → Type 0)
    (none : (c : ℕ) → lo ≤ c → c ≤ hi → Fits c 0)
    (more : (between : List ℕ) (c d q : ℕ) → IsTurn edge body head between → d + turn_down changes head between ≡ c + turn_up changes head between
    → Fits d q → Fits c (suc q)) where
  -- along a walk from a head, with the nodes since that head, the last of them the present one
  fits_along : (since : List ℕ) (at n c : ℕ) (rest : List Visit) → end_of head since ≡ n → IsWalk edge head since → AreInside body since → passes head since ≡ 0
      → c + turn_down changes head since + changes.up n ≡ at + turn_up changes head since + changes.down n
      → lo ≤ at → at ≤ hi → IsWalk edge n (nodes_of rest) → AreInside body (nodes_of rest)
      → AreCounted changes (record { node = n; content = c } ∷ rest) → AreWithin head lo hi rest
      → Fits at (passes head (nodes_of rest))
  fits_along since at n c [] e w i p k l g walk inside counted within = none at l g
  fits_along since at n c (v ∷ rest) e w i p k l g walk inside counted within =
      let d : v.content + changes.down n ≡ c + changes.up n = counted.0 in
      let there : IsWalk edge head (since ++ v.node ∷ []) =
      walk-append edge head since (v.node ∷ []) w (subst (λ (x : ℕ). IsWalk edge x (v.node ∷ [])) (sym e) (walk.0, tt)) in
      elim (eqb_tells v.node head) [
        | inl a ↦
            let turn : IsTurn edge body head since = record { walk = subst (λ (x : ℕ). IsWalk edge head (since ++ x ∷ [])) a.1 there; inside = i; once = p } in
            let q : passes head (nodes_of (v ∷ rest)) ≡ suc (passes head (nodes_of rest)) = passes_here head v.node (nodes_of rest) a.1 ∙ omega arith in
            let next : Fits v.content (passes head (nodes_of rest)) =
            fits_along [] v.content v.node v.content rest (sym a.1) tt tt refl
            (let x : v.node ≡ head = a.1 in let y = ap changes.up x in let z = ap changes.down x in omega (arith, y, z))
            (within.0 a.1).0 (within.0 a.1).1 walk.1 inside.1 counted.1 within.1 in
            subst (Fits at) (sym q) (more since at v.content (passes head (nodes_of rest)) turn (omega (arith, d, k)) next)
        | inr a ↦
            let q : passes head (nodes_of (v ∷ rest)) ≡ passes head (nodes_of rest) = passes_other head v.node (nodes_of rest) a.0 in
            let u = sum-snoc changes.up head v.node since in
            let o = sum-snoc changes.down head v.node since in
            let once : passes head (since ++ v.node ∷ []) ≡ 0 =
            passes-append head since (v.node ∷ [])
            ∙ (let y : passes head (v.node ∷ []) ≡ 0 = passes_other head v.node [] a.0 in omega (arith, p, y)) in
            subst (Fits at) (sym q)
            (fits_along (since ++ v.node ∷ []) at v.node v.content rest (end-append head v.node since []) there
            (inside-append body since (v.node ∷ []) i (inside.0, tt)) once
            (omega (arith, d, k, u, o)) l g walk.1 inside.1 counted.1 within.1)
      ]

  -- a stretch, up to its first head
  fits_from : (Most : ℕ → Type 0) → Most 0 → ((c q : ℕ) → lo ≤ c → c ≤ hi → Fits c q → Most (suc q))
      → (stretch : List Visit) → AreWalk edge (nodes_of stretch) → AreInside body (nodes_of stretch) → AreCounted changes stretch
      → AreWithin head lo hi stretch → Most (passes head (nodes_of stretch))
  fits_from Most zero_of suc_of [] walk inside counted within = zero_of
  fits_from Most zero_of suc_of (v ∷ rest) walk inside counted within = elim (eqb_tells v.node head) [
    | inl a ↦
        let q : passes head (nodes_of (v ∷ rest)) ≡ suc (passes head (nodes_of rest)) = passes_here head v.node (nodes_of rest) a.1 ∙ omega arith in
        let x : v.node ≡ head = a.1 in
        subst Most (sym q) (suc_of v.content (passes head (nodes_of rest)) (within.0 a.1).0 (within.0 a.1).1
        (fits_along [] v.content v.node v.content rest (sym a.1) tt tt refl (let y = ap changes.up x in let z = ap changes.down x in omega (arith, y, z))
        (within.0 a.1).0 (within.0 a.1).1 walk inside.1 counted within.1))
    | inr a ↦
        let q : passes head (nodes_of (v ∷ rest)) ≡ passes head (nodes_of rest) = passes_other head v.node (nodes_of rest) a.0 in
        subst Most (sym q) (fits_from Most zero_of suc_of rest (walk_tail edge v rest walk) inside.1 (counted_tail changes v rest counted) within.1)
  ]

-- a cell whose sum over each turn is at least a step bounds how often the head is passed
pub rising_passes : CounterBoundsPasses
rising_passes edge body head changes lo hi step stretch one counted turns =
    fits_from edge body head changes lo hi (λ c q. c + q * step ≤ hi)
    (λ c l g. omega arith)
    (λ between c d q turn k f. let t = turns between turn in omega (arith, t, k, f))
    (λ p. p ≤ (hi - lo) / step + 1) (omega arith)
    (λ c q l g f. let s : q ≤ (hi - lo) / step = steps_fit q step (hi - lo) one (omega (arith, f)) in omega (arith, s))
    stretch counted.walk counted.inside counted.counted counted.within

-- the same of a cell that falls by at least a step in each turn
pub falling_passes : FallingCounterBoundsPasses
falling_passes edge body head changes lo hi step stretch one counted turns =
    fits_from edge body head changes lo hi (λ c q. lo + q * step ≤ c)
    (λ c l g. omega arith)
    (λ between c d q turn k f. let t = turns between turn in omega (arith, t, k, f))
    (λ p. p ≤ (hi - lo) / step + 1) (omega arith)
    (λ c q l g f. let s : q ≤ (hi - lo) / step = steps_fit q step (hi - lo) one (omega (arith, f)) in omega (arith, s))
    stretch counted.walk counted.inside counted.counted counted.within
