-- What is told is what there is: costs up to the limit, and the walks for which turns stand.
use Rattle.std.proofs.Common.{◌≡◌, ◌⊎◌, ◌*◌, ◌-◌, ℕ, zero, suc, ◌+◌, ◌<◌, ◌≤◌, inl, inr, Bool, true, false, List, [], ◌∷◌, cond, ltb, refl, sym, ap}
use Rattle.std.proofs.Common.{◌∙◌, arith, lit≤}
use Rattle.std.specs.Prelude.{min}
use Rattle.std.proofs.lemmas.Bool.{cases_lt, ltb-true}
use Rattle.std.proofs.Math.Nat.{mul-le-mul_left}
use Rattle.graph_laws.specs.Walk.{Costs, AreInside, end_of}
use Rattle.graph_laws.specs.Loops.{Loops}
use Rattle.graph_laws.specs.Collapsed.{Turns, further_cost, steps_cost}
use Rattle.graph_laws.proofs.Stretches.{tells}
use Rattle.path_bound.specs.Capped.{limit, cap}
use Rattle.path_bound.specs.Exact.{iterate, Task, move_of}
use Rattle.path_bound.specs.Turned.{IsTurnOf}
use Rattle.path_bound.specs.Turning.{toll}
use Rattle.path_bound.proofs.Fixed.{stable}

-- products and sums up to the limit
times_capped : (a b l : ℕ) → 1 ≤ l → min (a * min b l) l ≡ min (a * b) l
times_capped zero b l h = omega arith
times_capped (suc a) b l h = elim (cases_lt b l) [
  | inl k ↦ let e : min b l ≡ b = omega (arith, k) in ap (λ (x : ℕ). min (suc a * x) l) e
  | inr k ↦
      let e : min b l ≡ l = omega (arith, k) in
      let p : l ≤ suc a * l = omega arith in
      let q : suc a * l ≤ suc a * b = mul-le-mul_left (suc a) k in
      ap (λ (x : ℕ). min (suc a * x) l) e ∙ omega (arith, p, q)
]

-- laps of a capped turn are capped as those of the turn
pub lap_capped : (a b : ℕ) → cap (a * cap b) ≡ cap (a * b)
lap_capped a b = times_capped a b limit (lit≤ tt)

summed : (a p q s t x l : ℕ) → min p l ≡ min q l → min (s + x) l ≡ min (t + x) l → min (a + p + s + x) l ≡ min (a + q + t + x) l
summed a p q s t x l e f = omega (arith, e, f)

-- two numbers for each node of a list are the same up to the limit
abbrev pub AreSame : (ℕ → ℕ) → (ℕ → ℕ) → List ℕ → Type 0
AreSame one two [] = Unit {0}
AreSame one two (n ∷ rest) = (cap (one n) ≡ cap (two n)) × AreSame one two rest

-- tolls with laps that are the same up to the limit
pub toll_capped : (costs : Costs) (one two : ℕ → ℕ) (n : ℕ) (rest : List ℕ) (x : ℕ) → AreSame one two rest
    → cap (toll costs one n rest + x) ≡ cap (toll costs two n rest + x)
toll_capped costs one two n [] x same = refl
toll_capped costs one two n (m ∷ rest) x same =
    summed (costs.node n + costs.edge n m) (one m) (two m) (toll costs one m rest) (toll costs two m rest) x limit same.0
    (toll_capped costs one two m rest x same.1)

-- two numbers for each node of a list are the same
abbrev pub AreEven : (ℕ → ℕ) → (ℕ → ℕ) → List ℕ → Type 0
AreEven one two [] = Unit {0}
AreEven one two (n ∷ rest) = (one n ≡ two n) × AreEven one two rest

-- and the same without a limit
pub toll_same : (costs : Costs) (one two : ℕ → ℕ) (n : ℕ) (rest : List ℕ) → AreEven one two rest → toll costs one n rest ≡ toll costs two n rest
toll_same costs one two n [] same = refl
toll_same costs one two n (m ∷ rest) same =
    ap (λ (p : ℕ). costs.node n + costs.edge n m + p + toll costs one m rest) same.0
    ∙ ap (λ (s : ℕ). costs.node n + costs.edge n m + two m + s) (toll_same costs one two m rest same.1)

-- the steps of a collapsed walk cost their toll
pub steps_toll : (loops : Loops) (bound : ℕ → ℕ) (costs : Costs) (turns : Turns) (n : ℕ) (rest : List ℕ)
    → steps_cost loops bound costs turns n rest ≡ toll costs (further_cost loops bound turns) n rest
steps_toll loops bound costs turns n [] = refl
steps_toll loops bound costs turns n (m ∷ rest) =
    ap (λ (s : ℕ). costs.node n + costs.edge n m + further_cost loops bound turns m + s) (steps_toll loops bound costs turns m rest)

-- what the passes of a head after the first cost, by what its turns cost
abbrev pub further : Loops → (ℕ → ℕ) → (ℕ → ℕ) → ℕ → ℕ
further loops bound full n = cond (loops.has n) ((bound n - 1) * full n) 0

-- what the walk of a head's turn costs, by what those of inner heads cost
abbrev pub full_next : Task → (ℕ → List ℕ) → (ℕ → ℕ) → ℕ → ℕ
full_next t walk full h = toll t.costs (further t.loops t.bound full) h (walk h) + move_of t (end_of h (walk h)) h

-- the true cost of a turn
abbrev pub full_of : Task → (ℕ → List ℕ) → ℕ → ℕ → ℕ
full_of t walk size h = cond (t.loops.has h) (iterate (λ full n. cond (t.loops.has n) (full_next t walk full n) 0) 0 size h) 0

-- each head has a turn, and other nodes have no laps
module _ (t : Task) (rank : ℕ → ℕ) (size : ℕ) (small : (n : ℕ) → rank n < size) (laps : ℕ → ℕ) (walk : ℕ → List ℕ) (cost : ℕ → ℕ)
    (turns : (h : ℕ) → t.loops.has h ≡ true → IsTurnOf t rank laps h (walk h) (cost h)) (others : (n : ℕ) → t.loops.has n ≡ false → laps n ≡ 0) where
  further_same : (f g : ℕ → ℕ) (m : ℕ) → f m ≡ g m → further t.loops t.bound f m ≡ further t.loops t.bound g m
  further_same f g m e = ap (λ (x : ℕ). cond (t.loops.has m) ((t.bound m - 1) * x) 0) e

  even : (f g : ℕ → ℕ) (h : ℕ) (rest : List ℕ) → ((m : ℕ) → rank m < rank h → f m ≡ g m) → AreInside (λ m. ltb (rank m) (rank h)) rest
      → AreEven (further t.loops t.bound f) (further t.loops t.bound g) rest
  even f g h [] same low = tt
  even f g h (m ∷ rest) same low = (further_same f g m (same m (ltb-true (rank m) (rank h) low.0)), even f g h rest same low.1)

  respects : (f g : ℕ → ℕ) (h : ℕ) → ((m : ℕ) → rank m < rank h → f m ≡ g m)
      → cond (t.loops.has h) (full_next t walk f h) 0 ≡ cond (t.loops.has h) (full_next t walk g h) 0
  respects f g h same = elim (tells (t.loops.has h)) [
    | inl a ↦
        ap (λ (x : ℕ). cond (t.loops.has h) (x + move_of t (end_of h (walk h)) h) 0)
        (toll_same t.costs (further t.loops t.bound f) (further t.loops t.bound g) h (walk h) (even f g h (walk h) same (turns h a).lower))
    | inr a ↦ ap (λ (b : Bool). cond b (full_next t walk f h) 0) a ∙ sym (ap (λ (b : Bool). cond b (full_next t walk g h) 0) a)
  ]

  -- what is said of a head's turn is what its walk costs
  pub full_fixed : (h : ℕ) → t.loops.has h ≡ true → full_of t walk size h ≡ full_next t walk (full_of t walk size) h
  full_fixed h a =
      let next : (ℕ → ℕ) → ℕ → ℕ = λ full n. cond (t.loops.has n) (full_next t walk full n) 0 in
      let s : rank h < size = small h in
      let e : iterate next 0 size h ≡ iterate next 0 (suc size) h = stable next 0 rank respects size (suc size) h s (omega (arith, s)) in
      let here : full_of t walk size h ≡ iterate next 0 size h = ap (λ (b : Bool). cond b (iterate next 0 size h) 0) a in
      here ∙ (e ∙ (ap (λ (b : Bool). cond b (full_next t walk (λ m. iterate next 0 size m) h) 0) a
      ∙ ap (λ (x : ℕ). x + move_of t (end_of h (walk h)) h)
      (toll_same t.costs (further t.loops t.bound (λ m. iterate next 0 size m)) (further t.loops t.bound (full_of t walk size)) h (walk h) (all (walk h)))))
    where
      one : (n : ℕ) (x : ℕ) (b : Bool) → cond b ((t.bound n - 1) * x) 0 ≡ cond b ((t.bound n - 1) * cond b x 0) 0
      one n x true = refl
      one n x false = refl

      all : (rest : List ℕ) → AreEven (further t.loops t.bound (λ m. iterate (λ full n. cond (t.loops.has n) (full_next t walk full n) 0) 0 size m))
          (further t.loops t.bound (full_of t walk size)) rest
      all [] = tt
      all (n ∷ rest) = (one n (iterate (λ full n. cond (t.loops.has n) (full_next t walk full n) 0) 0 size n) (t.loops.has n), all rest)

  lap_same : (m : ℕ) → (t.loops.has m ≡ true) ⊎ (t.loops.has m ≡ false) → (t.loops.has m ≡ true → cost m ≡ cap (full_of t walk size m))
      → cap (laps m) ≡ cap (further t.loops t.bound (full_of t walk size) m)
  lap_same m (inl b) told =
      ap (λ (x : ℕ). cap x) (turns m b).lap
      ∙ (twice ((t.bound m - 1) * cost m) limit
      ∙ (ap (λ (x : ℕ). cap ((t.bound m - 1) * x)) (told b)
      ∙ (lap_capped (t.bound m - 1) (full_of t walk size m)
      ∙ sym (ap (λ (c : Bool). cap (cond c ((t.bound m - 1) * full_of t walk size m) 0)) b))))
    where
      twice : (x l : ℕ) → min (min x l) l ≡ min x l
      twice x l = omega arith
  lap_same m (inr b) told = ap (λ (x : ℕ). cap x) (others m b) ∙ sym (ap (λ (c : Bool). cap (cond c ((t.bound m - 1) * full_of t walk size m) 0)) b)

  all_capped : (h : ℕ) → ((m : ℕ) → rank m < rank h → t.loops.has m ≡ true → cost m ≡ cap (full_of t walk size m)) → (rest : List ℕ)
      → AreInside (λ m. ltb (rank m) (rank h)) rest
      → AreSame laps (further t.loops t.bound (full_of t walk size)) rest
  all_capped h told [] low = tt
  all_capped h told (m ∷ rest) low = (lap_same m (tells (t.loops.has m)) (told m (ltb-true (rank m) (rank h) low.0)), all_capped h told rest low.1)

  -- and it is told up to the limit
  told_by : (k h : ℕ) → rank h < k → t.loops.has h ≡ true → cost h ≡ cap (full_of t walk size h)
  told_by zero h l a = absurd (omega (arith, l))
  told_by (suc k) h l a =
      let o : IsTurnOf t rank laps h (walk h) (cost h) = turns h a in
      o.told
      ∙ (toll_capped t.costs laps (further t.loops t.bound (full_of t walk size)) h (walk h) (move_of t (end_of h (walk h)) h)
      (all_capped h (λ m r b. told_by k m (omega (arith, r, l)) b) (walk h) o.lower)
      ∙ ap (λ (x : ℕ). cap x) (sym (full_fixed h a)))

  -- the cost that is told is the true one, capped
  pub told_full : (h : ℕ) → t.loops.has h ≡ true → cost h ≡ cap (full_of t walk size h)
  told_full h a = told_by (suc (rank h)) h (omega arith) a
