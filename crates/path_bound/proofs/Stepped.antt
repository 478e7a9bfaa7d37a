-- Steps with their costs, as these are added up edge by edge.
use Rattle.std.proofs.Common.{◌≡◌, ◌≢◌, ◌==◌, ◌&&◌, ◌||◌, ℕ, zero, suc, ◌+◌, ◌<◌, inl, inr, Bool, true, false, Some, List, [], ◌∷◌, ◌++◌, length}
use Rattle.std.proofs.Common.{take, set, get_or, cond, refl, sym, ap, subst, ◌∙◌, arith, Vec, Global}
use Rattle.std.specs.Prelude.{min}
use Rattle.std.specs.List.{slice_get}
use Rattle.std.specs.List.Sorted.{IsStrictlyIncreasing}
use Rattle.std.proofs.lemmas.Bool.{eq-eqb, cases_lt}
use Rattle.std.proofs.lemmas.Bool.Decides.{eqb_tells}
use Rattle.std.proofs.lemmas.List.{length-set, get_or-set_same, get_or-set_other, get_or_past, length-append, take_more}
use Rattle.std.proofs.lemmas.Option.{slice_get-get_or, slice_get_past}
use Rattle.bt_base.specs.Graph.{has}
use Rattle.path_bound.specs.declared.stepping.Step.{Step}
use Rattle.path_bound.specs.Capped.{limit, cap}
use Rattle.path_bound.specs.Places.{extra_at, extra_of}
use Rattle.path_bound.specs.Steps.{step_to, moves, items_of, steps_at, AreStepsOf, AreRows}
use Rattle.path_bound.proofs.Best.{has_first, or_right}

some_step : {x y : Step} → Some x ≡ Some y → x ≡ y
some_step e = cc

-- costs that are the same for each node of a list
pub moves_same : (f g : ℕ → ℕ) (nodes : List ℕ) → ((m : ℕ) → has nodes m ≡ true → f m ≡ g m) → moves f nodes ≡ moves g nodes
moves_same f g [] e = refl
moves_same f g (m ∷ nodes) e =
    ap (λ (c : ℕ). record { to = m; cost = c } ∷ moves f nodes) (e m (has_first m nodes))
    ∙ ap (λ (s : List Step). record { to = m; cost = g m } ∷ s) (moves_same f g nodes (λ k h. e k (or_right (k == m) (has nodes k) h)))

pub moves_length : (f : ℕ → ℕ) (nodes : List ℕ) → length (moves f nodes) ≡ length nodes
moves_length f [] = refl
moves_length f (m ∷ nodes) = ap suc (moves_length f nodes)

pub moves_read : (f : ℕ → ℕ) (nodes : List ℕ) (k : ℕ) (d : Step) → k < length nodes → get_or (moves f nodes) k d ≡ step_to f (get_or nodes k 0)
moves_read f [] k d l = absurd (omega (arith, l))
moves_read f (m ∷ nodes) zero d l = refl
moves_read f (m ∷ nodes) (suc k) d l = moves_read f nodes k d (omega (arith, l))

-- one step's cost is written
pub moves_set : (f g : ℕ → ℕ) (nodes : List ℕ) (k : ℕ) → k < length nodes → ((j : ℕ) → j < length nodes → j ≢ k → f (get_or nodes j 0) ≡ g (get_or nodes j 0))
    → set (moves f nodes) k (step_to g (get_or nodes k 0)) ≡ moves g nodes
moves_set f g [] k l same = absurd (omega (arith, l))
moves_set f g (m ∷ nodes) zero l same =
    ap (λ (s : List Step). step_to g m ∷ s) (moves_same_at f g nodes (λ j h. same (suc j) (omega (arith, h)) (λ e. omega (arith, e))))
  where
    moves_same_at : (f g : ℕ → ℕ) (nodes : List ℕ) → ((j : ℕ) → j < length nodes → f (get_or nodes j 0) ≡ g (get_or nodes j 0)) → moves f nodes ≡ moves g nodes
    moves_same_at f g [] e = refl
    moves_same_at f g (x ∷ xs) e =
        ap (λ (c : ℕ). record { to = x; cost = c } ∷ moves f xs) (e 0 (omega arith))
        ∙ ap (λ (s : List Step). record { to = x; cost = g x } ∷ s) (moves_same_at f g xs (λ j h. e (suc j) (omega (arith, h))))
moves_set f g (m ∷ nodes) (suc k) l same =
    ap (λ (c : ℕ). record { to = m; cost = c } ∷ set (moves f nodes) k (step_to g (get_or nodes k 0))) (same 0 (omega arith) (λ e. omega (arith, e)))
    ∙ ap (λ (s : List Step). record { to = m; cost = g m } ∷ s)
    (moves_set f g nodes k (omega (arith, l)) (λ j h ne. same (suc j) (omega (arith, h)) (λ e. ne (omega (arith, e)))))

-- rows that are written
pub steps_set : (rows : List (Vec Step Global)) (n : ℕ) (row : Vec Step Global) → n < length rows → steps_at (set rows n row) n ≡ row.items
steps_set rows n row l =
    let s : length (set rows n row) ≡ length rows = length-set rows n row in
    ap items_of (slice_get-get_or (set rows n row) n row (omega (arith, l, s))) ∙ ap (λ (r : Vec Step Global). r.items) (get_or-set_same rows n row row l)

pub steps_other : (rows : List (Vec Step Global)) (n k : ℕ) (row : Vec Step Global) → k ≢ n → steps_at (set rows n row) k ≡ steps_at rows k
steps_other rows n k row ne =
    let s : length (set rows n row) ≡ length rows = length-set rows n row in
    ap items_of (elim (cases_lt k (length rows)) [
      | inl l ↦
          slice_get-get_or (set rows n row) k row (omega (arith, l, s))
          ∙ (ap (λ (r : Vec Step Global). Some r) (get_or-set_other rows n k row row ne) ∙ sym (slice_get-get_or rows k row l))
      | inr l ↦ slice_get_past (set rows n row) k (omega (arith, l, s)) ∙ sym (slice_get_past rows k l)
    ])

-- the numbers of a list that rises strictly are apart
pub rising_apart : (xs : List ℕ) → IsStrictlyIncreasing xs → (j k : ℕ) → j < k → k < length xs → get_or xs j 0 < get_or xs k 0
rising_apart xs rise j zero l h = absurd (omega (arith, l))
rising_apart xs rise j (suc k) l h =
    let one : suc k ≡ k + 1 = omega arith in
    let r : get_or xs k 0 < get_or xs (suc k) 0 = subst (λ (i : ℕ). get_or xs k 0 < get_or xs i 0) (sym one) (rise k (omega (arith, h))) in
    elim (cases_lt j k) [
      | inl a ↦ let b : get_or xs j 0 < get_or xs k 0 = rising_apart xs rise j k a (omega (arith, h)) in omega (arith, b, r)
      | inr a ↦ let e : j ≡ k = omega (arith, l, a) in omega (arith, r, ap (λ (i : ℕ). get_or xs i 0) e)
    ]

pub rising_once : (xs : List ℕ) → IsStrictlyIncreasing xs → (j k : ℕ) → j < length xs → k < length xs → get_or xs j 0 ≡ get_or xs k 0 → j ≡ k
rising_once xs rise j k l h e = elim (cases_lt j k) [
  | inl a ↦ let b : get_or xs j 0 < get_or xs k 0 = rising_apart xs rise j k a h in absurd (omega (arith, b, e))
  | inr a ↦ elim (cases_lt k j) [
    | inl b ↦ let c : get_or xs k 0 < get_or xs j 0 = rising_apart xs rise k j b l in absurd (omega (arith, c, e))
    | inr b ↦ omega (arith, a, b)
  ]
]

-- an edge that isn't there gets nothing
no_extra : (from to cost n m : ℕ) → (n ≡ from → m ≡ to → ⊥) → extra_at (from, to, cost) n m ≡ 0
no_extra from to cost n m ne = elim (eqb_tells from n) [
  | inl p ↦ elim (eqb_tells to m) [
    | inl q ↦ absurd (ne (sym p.1) (sym q.1))
    | inr q ↦ ap (λ (b : Bool). cond (b && (to == m)) cost 0) p.0 ∙ ap (λ (b : Bool). cond b cost 0) q.0
  ]
  | inr p ↦ ap (λ (b : Bool). cond (b && (to == m)) cost 0) p.0
]

the_extra : (from to cost : ℕ) → extra_at (from, to, cost) from to ≡ cost
the_extra from to cost = ap (λ (b : Bool). cond (b && (to == to)) cost 0) (eq-eqb from from refl) ∙ ap (λ (b : Bool). cond b cost 0) (eq-eqb to to refl)

-- nothing is added where there is no such edge
pub not_added : (graph : List (List ℕ)) (rows : List (Vec Step Global)) (from to cost : ℕ) → has (get_or graph from []) to ≡ false → (f : ℕ → ℕ → ℕ)
    → AreStepsOf graph (λ n m. cap (f n m)) rows → AreStepsOf graph (λ n m. cap (f n m + extra_at (from, to, cost) n m)) rows
not_added graph rows from to cost none f are = record {
  count = are.count;
  row = λ n. are.row n ∙ moves_same (λ m. cap (f n m)) (λ m. cap (f n m + extra_at (from, to, cost) n m)) (get_or graph n [])
      (λ m h.
      let z : extra_at (from, to, cost) n m ≡ 0 =
      no_extra from to cost n m (λ p q. let t : has (get_or graph from []) to ≡ true =
      ap (λ (k : ℕ). has (get_or graph k []) to) (sym p) ∙ (ap (has (get_or graph n [])) (sym q) ∙ h) in cc) in
      ap (λ (c : ℕ). cap c) (let e : f n m ≡ f n m + extra_at (from, to, cost) n m = omega (arith, z) in e));
}

-- a cost is added to a step
pub added_to : (graph : List (List ℕ)) (rows : List (Vec Step Global)) (from to cost place : ℕ) (row : Vec Step Global) (step : Step)
    → IsStrictlyIncreasing (get_or graph from []) → from < length rows
    → place < length (get_or graph from []) → get_or (get_or graph from []) place 0 ≡ to → row.items ≡ set (steps_at rows from) place step
    → step.to ≡ (get_or (steps_at rows from) place step).to → step.cost ≡ cap ((get_or (steps_at rows from) place step).cost + cost) → (f : ℕ → ℕ → ℕ)
    → AreStepsOf graph (λ n m. cap (f n m)) rows → AreStepsOf graph (λ n m. cap (f n m + extra_at (from, to, cost) n m)) (set rows from row)
added_to graph rows from to cost place row step rise l h at e named told f are = record {
  count = length-set rows from row ∙ are.count;
  row = λ n. elim (eqb_tells n from) [
    | inl q ↦
        subst (λ (k : ℕ). steps_at (set rows from row) k ≡ moves (λ m. cap (f k m + extra_at (from, to, cost) k m)) (get_or graph k [])) (sym q.1)
        (steps_set rows from row l ∙ (e ∙ (ap (λ (s : List Step). set s place step) (are.row from)
        ∙ (ap (λ (s : Step). set (moves (λ m. cap (f from m)) (get_or graph from [])) place s) new
        ∙ moves_set (λ m. cap (f from m)) (λ m. cap (f from m + extra_at (from, to, cost) from m)) (get_or graph from []) place h
        (λ j b ne.
        let z : extra_at (from, to, cost) from (get_or (get_or graph from []) j 0) ≡ 0 =
        no_extra from to cost from (get_or (get_or graph from []) j 0) (λ p r. ne (rising_once (get_or graph from []) rise j place b h (r ∙ sym at))) in
        ap (λ (c : ℕ). cap c) (let g : f from (get_or (get_or graph from []) j 0) ≡
        f from (get_or (get_or graph from []) j 0) + extra_at (from, to, cost) from (get_or (get_or graph from []) j 0) =
        omega (arith, z) in g))))))
    | inr q ↦
        steps_other rows from n row q.1
        ∙ (are.row n ∙ moves_same (λ m. cap (f n m)) (λ m. cap (f n m + extra_at (from, to, cost) n m)) (get_or graph n [])
        (λ m b.
        let z : extra_at (from, to, cost) n m ≡ 0 = no_extra from to cost n m (λ p r. q.1 p) in
        ap (λ (c : ℕ). cap c) (let g : f n m ≡ f n m + extra_at (from, to, cost) n m = omega (arith, z) in g)))
  ];
}
  where
    old : get_or (steps_at rows from) place step ≡ record { to = to; cost = cap (f from to) }
    old = ap (λ (s : List Step). get_or s place step) (are.row from)
        ∙ (moves_read (λ m. cap (f from m)) (get_or graph from []) place step h ∙ ap (step_to (λ m. cap (f from m))) at)

    sum : (a b l : ℕ) → min (min a l + b) l ≡ min (a + b) l
    sum a b l = omega arith

    cost_is : step.cost ≡ cap (f from to + extra_at (from, to, cost) from to)
    cost_is =
        told ∙ (ap (λ (s : Step). cap (s.cost + cost)) old ∙ (sum (f from to) cost limit ∙ ap (λ (c : ℕ). cap (f from to + c)) (sym (the_extra from to cost))))

    pair : (a b : Step) → a.to ≡ b.to → a.cost ≡ b.cost → a ≡ b
    pair a b p q = ap (λ (t : ℕ). record { to = t; cost = a.cost }) p ∙ ap (λ (c : ℕ). record { to = b.to; cost = c }) q

    new : step ≡ step_to (λ m. cap (f from m + extra_at (from, to, cost) from m)) (get_or (get_or graph from []) place 0)
    new = pair step (step_to (λ m. cap (f from m + extra_at (from, to, cost) from m)) (get_or (get_or graph from []) place 0))
        (named ∙ (ap (λ (s : Step). s.to) old ∙ sym at)) (cost_is ∙ ap (λ (k : ℕ). cap (f from k + extra_at (from, to, cost) from k)) (sym at))

-- the extra costs of the edges so far, and one more
pub extra_more : (extra : List (ℕ × ℕ × ℕ)) (i n m : ℕ) (d : ℕ × ℕ × ℕ) → i < length extra
    → extra_of (take (i + 1) extra) n m ≡ extra_of (take i extra) n m + extra_at (get_or extra i d) n m
extra_more extra i n m d l = ap (λ (e : List (ℕ × ℕ × ℕ)). extra_of e n m) (take_more extra i d l) ∙ push (take i extra) (get_or extra i d)
  where
    push : (xs : List (ℕ × ℕ × ℕ)) (e : ℕ × ℕ × ℕ) → extra_of (xs ++ e ∷ []) n m ≡ extra_of xs n m + extra_at e n m
    push [] e = omega arith
    push (x ∷ xs) e = let r : extra_of (xs ++ e ∷ []) n m ≡ extra_of xs n m + extra_at e n m = push xs e in omega (arith, r)

pub rows_of_steps : (graph : List (List ℕ)) (cost : ℕ → ℕ → ℕ) (rows : List (Vec Step Global)) → AreStepsOf graph cost rows → AreRows graph rows
rows_of_steps graph cost rows are = record { count = are.count; sizes = λ n. ap length (are.row n) ∙ moves_length (cost n) (get_or graph n []) }

-- the first nodes have their steps, without what edges cost
pub record ArePlainUpTo (graph : List (List ℕ)) (node : List ℕ) (count : ℕ) (rows : List (Vec Step Global)) : Type 0 where
  pub size : length rows ≡ count
  pub row : (n : ℕ) → n < count → steps_at rows n ≡ moves (λ m. cap (get_or node n 0)) (get_or graph n [])

pub plain_none : (graph : List (List ℕ)) (node : List ℕ) → ArePlainUpTo graph node 0 []
plain_none graph node = record { size = refl; row = λ n l. absurd (omega (arith, l)) }

pub plain_on : (graph : List (List ℕ)) (node : List ℕ) (count : ℕ) (rows : List (Vec Step Global)) (row : Vec Step Global)
    → row.items ≡ moves (λ m. cap (get_or node count 0)) (get_or graph count [])
    → ArePlainUpTo graph node count rows → ArePlainUpTo graph node (count + 1) (rows ++ row ∷ [])
plain_on graph node count rows row e was = record {
  size = let s : length (rows ++ row ∷ []) ≡ length rows + 1 = length-append rows (row ∷ []) in omega (arith, s, was.size);
  row = λ n l. elim (cases_lt n count) [
    | inl a ↦ ap items_of (get_before rows row n (omega (arith, a, was.size))) ∙ was.row n a
    | inr a ↦
        let q : count ≡ n = omega (arith, l, a) in
        subst (λ (k : ℕ). steps_at (rows ++ row ∷ []) k ≡ moves (λ m. cap (get_or node k 0)) (get_or graph k [])) q
        (subst (λ (k : ℕ). steps_at (rows ++ row ∷ []) k ≡ moves (λ m. cap (get_or node count 0)) (get_or graph count [])) was.size
        (ap items_of (get_last rows row) ∙ e))
  ];
}
  where
    get_before : (xs : List (Vec Step Global)) (x : Vec Step Global) (n : ℕ) → n < length xs → slice_get (xs ++ x ∷ []) n ≡ slice_get xs n
    get_before [] x n l = absurd (omega (arith, l))
    get_before (y ∷ xs) x zero l = refl
    get_before (y ∷ xs) x (suc n) l = get_before xs x n (omega (arith, l))

    get_last : (xs : List (Vec Step Global)) (x : Vec Step Global) → slice_get (xs ++ x ∷ []) (length xs) ≡ Some x
    get_last [] x = refl
    get_last (y ∷ xs) x = get_last xs x

-- each node has its edges with plain costs
pub plain_done : (graph : List (List ℕ)) (node : List ℕ) (count : ℕ) (rows : List (Vec Step Global)) → count ≡ length graph → ArePlainUpTo graph node count rows
    → AreStepsOf graph (λ n m. cap (get_or node n 0)) rows
plain_done graph node count rows e was = record {
  count = was.size ∙ e;
  row = λ n. elim (cases_lt n count) [
    | inl a ↦ was.row n a
    | inr a ↦
        ap items_of (slice_get_past rows n (omega (arith, a, was.size)))
        ∙ sym (ap (moves (λ m. cap (get_or node n 0))) (get_or_past graph n [] (omega (arith, a, e))))
  ];
}

-- steps whose costs are the same
pub steps_same : (graph : List (List ℕ)) (f g : ℕ → ℕ → ℕ) (rows : List (Vec Step Global)) → ((n m : ℕ) → f n m ≡ g n m) → AreStepsOf graph f rows
    → AreStepsOf graph g rows
steps_same graph f g rows e are = record { count = are.count; row = λ n. are.row n ∙ moves_same (f n) (g n) (get_or graph n []) (λ m h. e n m) }

-- steps lead to nodes
pub steps_within : (graph : List (List ℕ)) (cost : ℕ → ℕ → ℕ) (rows : List (Vec Step Global))
    → ((n m : ℕ) → has (get_or graph n []) m ≡ true → m < length graph) → AreStepsOf graph cost rows
    → (n k : ℕ) (step : Step) → slice_get (steps_at rows n) k ≡ Some step → step.to < length graph
steps_within graph cost rows within are n k step e =
    within n step.to (there (cost n) (get_or graph n []) k (ap (λ (s : List Step). slice_get s k) (sym (are.row n)) ∙ e))
  where
    there : (f : ℕ → ℕ) (nodes : List ℕ) (k : ℕ) → slice_get (moves f nodes) k ≡ Some step → has nodes step.to ≡ true
    there f [] k e = cc
    there f (m ∷ nodes) zero e = let q : m ≡ step.to =
        ap (λ (s : Step). s.to) (some_step e) in ap (λ (b : Bool). b || has nodes step.to) (eq-eqb step.to m (sym q))
    there f (m ∷ nodes) (suc k) e = or_right (step.to == m) (has nodes step.to) (there f nodes k e)

-- one extra cost more is added
pub one_extra : (f : ℕ) (extra : List (ℕ × ℕ × ℕ)) (i n m : ℕ) (d : ℕ × ℕ × ℕ) → i < length extra
    → cap (f + extra_of (take i extra) n m + extra_at (get_or extra i d) n m) ≡ cap (f + extra_of (take (i + 1) extra) n m)
one_extra f extra i n m d l =
    let e : extra_of (take (i + 1) extra) n m ≡ extra_of (take i extra) n m + extra_at (get_or extra i d) n m = extra_more extra i n m d l in
    ap (λ (c : ℕ). cap c) (together f (extra_of (take i extra) n m) (extra_at (get_or extra i d) n m) (extra_of (take (i + 1) extra) n m) e)
  where
    together : (f a b c : ℕ) → c ≡ a + b → f + a + b ≡ f + c
    together f a b c e = omega (arith, e)
