-- Rows of numbers that rise, and graphs as rows.
use Rattle.std.proofs.Common.{◌≡◌, ℕ, ◌+◌, ◌-◌, ◌<◌, ◌≤◌, ◌==◌, ◌&&◌, ◌||◌, Bool, true, false, List, [], ◌∷◌, length, take, drop, get_or, set, refl, sym}
use Rattle.std.proofs.Common.{◌∙◌, ap, inl, inr, arith, Result, Ok, Err, OnOk, OnErr, subst, Vec, Global}
use Rattle.std.specs.List.{insert}
use Rattle.std.specs.List.Sorted.{IsStrictlyIncreasing}
use Rattle.std.proofs.lemmas.List.{take-append-drop, get_or-set_same, get_or-set_other, length-set, length-map, set-get_or, map-set, get_or-map}
use Rattle.std.proofs.lemmas.List.Edits.{get_or-insert_at, get_or-insert_below, get_or-insert_above, length-insert}
use Rattle.std.proofs.lemmas.List.Folds.{list_any-append, list_any_at}
use Rattle.std.proofs.lemmas.List.Sorted.{IsNonDecreasingBy-from_all_adjacent}
use Rattle.std.proofs.lemmas.Grind.{get_or_default_zero}
use Rattle.std.proofs.lemmas.Bool.{cases_lt, eqb-true, eq-eqb}
use Rattle.std.proofs.lemmas.Bool.Decides.{eqb_tells}
use Rattle.bt_base.specs.Graph.{has, is_edge, is_edge_with, rows_of, IsGraph}

or_rotate : (a b c : Bool) → (a || (b || c)) ≡ ((a || c) || b)
or_rotate true b c = refl
or_rotate false true true = refl
or_rotate false true false = refl
or_rotate false false true = refl
or_rotate false false false = refl

or_kept : (a b : Bool) → (b ≡ true → a ≡ true) → a ≡ (a || b)
or_kept true b h = refl
or_kept false true h = h refl
or_kept false false h = refl

or_false : (a b : Bool) → b ≡ false → (a || b) ≡ a
or_false a b h = rw h (elim a as (λ v. (v || false) ≡ v) [ true ↦ refl | false ↦ refl ])

-- a number put into a list
pub has-insert : (xs : List ℕ) (i y n : ℕ) → has (insert xs i y) n ≡ (has xs n || (n == y))
has-insert xs i y n =
    list_any-append (λ m. n == m) (take i xs) (y ∷ drop i xs)
    ∙ or_rotate (has (take i xs) n) (n == y) (has (drop i xs) n)
    ∙ ap (λ b. b || (n == y)) (sym (list_any-append (λ m. n == m) (take i xs) (drop i xs)) ∙ ap (λ l. has l n) (take-append-drop i xs))

-- a number that is there changes nothing
pub has-there : (xs : List ℕ) (i y : ℕ) → i < length xs → get_or xs i 0 ≡ y → (n : ℕ) → has xs n ≡ (has xs n || (n == y))
has-there xs i y l e n =
    or_kept (has xs n) (n == y) (λ h. list_any_at (λ m. n == m) xs i 0 l (eq-eqb n (get_or xs i 0) (eqb-true n y h ∙ sym e)))

-- numbers that rise are in order
pub rising_apart : (xs : List ℕ) → IsStrictlyIncreasing xs → (i j : ℕ) → i ≤ j → j < length xs → get_or xs i 0 ≤ get_or xs j 0
rising_apart xs up i j le lt =
    IsNonDecreasingBy-from_all_adjacent (λ x. x) xs
    (λ k d l. let a : get_or xs k d ≡ get_or xs k 0 = get_or_default_zero xs k d (omega arith) in
    let b : get_or xs (k + 1) d ≡ get_or xs (k + 1) 0 = get_or_default_zero xs (k + 1) d l in
    omega (arith, a, b, up k l))
    i j 0 le lt

-- a number put between the lower and the higher ones
pub rising-insert : (xs : List ℕ) (i y : ℕ) → IsStrictlyIncreasing xs → i ≤ length xs → ((k : ℕ) → k < i → get_or xs k 0 < y)
    → ((k : ℕ) → i ≤ k → k < length xs → y < get_or xs k 0) → IsStrictlyIncreasing (insert xs i y)
rising-insert xs i y up le low high k l =
    let n : length (insert xs i y) ≡ length xs + 1 = length-insert xs i y le in
    elim (cases_lt (k + 1) i) [
      | inl a ↦
          let e : get_or (insert xs i y) k 0 ≡ get_or xs k 0 = get_or-insert_below xs i y 0 k (omega arith) le in
          let f : get_or (insert xs i y) (k + 1) 0 ≡ get_or xs (k + 1) 0 = get_or-insert_below xs i y 0 (k + 1) a le in
          omega (arith, e, f, up k (omega arith))
      | inr b ↦ elim (cases_lt k i) [
        | inl c ↦
            let s : k + 1 ≡ i = omega arith in
            let e : get_or (insert xs i y) k 0 ≡ get_or xs k 0 = get_or-insert_below xs i y 0 k c le in
            let f : get_or (insert xs i y) (k + 1) 0 ≡ y = ap (λ j. get_or (insert xs i y) j 0) s ∙ get_or-insert_at xs i y 0 le in
            omega (arith, e, f, low k c)
        | inr d ↦
            let f : get_or (insert xs i y) (k + 1) 0 ≡ get_or xs k 0 = get_or-insert_above xs i y 0 k d le in
            elim (cases_lt i k) [
              | inl g ↦
                  let s : k ≡ (k - 1) + 1 = omega arith in
                  let t : (k - 1) + 1 < length xs = omega arith in
                  let e : get_or (insert xs i y) k 0 ≡ get_or xs (k - 1) 0 = ap (λ j. get_or (insert xs i y) j 0) s
                  ∙ get_or-insert_above xs i y 0 (k - 1) (omega arith) le in
                  let u : get_or xs (k - 1) 0 < get_or xs ((k - 1) + 1) 0 = up (k - 1) t in
                  let v : get_or xs ((k - 1) + 1) 0 ≡ get_or xs k 0 = ap (λ j. get_or xs j 0) (sym s) in
                  omega (arith, e, f, u, v)
              | inr g ↦
                  let s : k ≡ i = omega arith in
                  let e : get_or (insert xs i y) k 0 ≡ y = ap (λ j. get_or (insert xs i y) j 0) s ∙ get_or-insert_at xs i y 0 le in
                  omega (arith, e, f, high k d (omega arith))
            ]
      ]
    ]

-- a row in which a number was put, or was there
pub row_edges : (graph : List (List ℕ)) (from to : ℕ) (row : List ℕ) → from < length graph → ((m : ℕ) → has row m ≡ (has (get_or graph from []) m || (m == to)))
    → (n m : ℕ) → is_edge (set graph from row) n m ≡ is_edge_with graph from to n m
row_edges graph from to row l h n m =
    elim (eqb_tells n from) [
      | inl a ↦
          let e : get_or (set graph from row) n [] ≡ row = ap (λ j. get_or (set graph from row) j []) a.1 ∙ get_or-set_same graph from row [] l in
          ap (λ r. has r m) e ∙ h m
          ∙ ap (λ j. has (get_or graph j []) m || (m == to)) (sym a.1)
          ∙ ap (λ b. is_edge graph n m || (b && (m == to))) (sym a.0)
      | inr a ↦
          let e : get_or (set graph from row) n [] ≡ get_or graph n [] = get_or-set_other graph from n row [] a.1 in
          ap (λ r. has r m) e ∙ sym (or_false (is_edge graph n m) ((n == from) && (m == to)) (ap (λ b. b && (m == to)) a.0))
    ]

either_true : (a b : Bool) → (a || b) ≡ true → (C : Type 0) → (a ≡ true → C) → (b ≡ true → C) → C
either_true true b h C f g = f refl
either_true false b h C f g = g h

-- a graph stays one
pub row_graph : (graph : List (List ℕ)) (from to : ℕ) (row : List ℕ) → from < length graph → to < length graph → IsGraph graph → IsStrictlyIncreasing row
    → ((m : ℕ) → has row m ≡ true → (has (get_or graph from []) m || (m == to)) ≡ true) → IsGraph (set graph from row)
row_graph graph from to row l t g up h = record {
  rising = λ n. elim (eqb_tells n from) [
    | inl a ↦
        let e : get_or (set graph from row) n [] ≡ row = ap (λ j. get_or (set graph from row) j []) a.1 ∙ get_or-set_same graph from row [] l in
        rw e up
    | inr a ↦
        let e : get_or (set graph from row) n [] ≡ get_or graph n [] = get_or-set_other graph from n row [] a.1 in
        rw e (g.rising n)
  ];
  within = λ n m edge.
      let size : length (set graph from row) ≡ length graph = length-set graph from row in
      let there : m < length graph = elim (eqb_tells n from) [
        | inl a ↦
            let e : get_or (set graph from row) n [] ≡ row = ap (λ j. get_or (set graph from row) j []) a.1 ∙ get_or-set_same graph from row [] l in
            either_true (has (get_or graph from []) m) (m == to) (h m (sym (ap (λ r. has r m) e) ∙ edge)) (m < length graph)
            (λ old. g.within from m old) (λ new. let s : m ≡ to = eqb-true m to new in omega arith)
        | inr a ↦
            let e : get_or (set graph from row) n [] ≡ get_or graph n [] = get_or-set_other graph from n row [] a.1 in
            g.within n m (sym (ap (λ r. has r m) e) ∙ edge)
      ] in omega arith;
  counted = let size : length (set graph from row) ≡ length graph = length-set graph from row in omega (arith, g.counted);
}

-- the row of a node
pub row_at : (rows : List (Vec ℕ Global)) (n : ℕ) (v : Vec ℕ Global) → n < length rows → v ≡ get_or rows n v → get_or (rows_of rows) n [] ≡ v.items
row_at rows n v l e = get_or-map (λ (w : Vec ℕ Global). w.items) rows n v [] l ∙ ap (λ (w : Vec ℕ Global). w.items) (sym e)

-- each row of a graph rises
pub row_rises : (graph : List (List ℕ)) (n : ℕ) (row : List ℕ) → get_or graph n [] ≡ row → IsGraph graph → IsStrictlyIncreasing row
row_rises graph n row e g = subst IsStrictlyIncreasing e (g.rising n)

-- the rows after a row was changed
rows_set : (rows : List (Vec ℕ Global)) (n : ℕ) (w : Vec ℕ Global) → rows_of (set rows n w) ≡ set (rows_of rows) n w.items
rows_set rows n w = map-set (λ (v : Vec ℕ Global). v.items) rows n w

module _ (rows : List (Vec ℕ Global)) (from to : ℕ) (v w : Vec ℕ Global) (l : from < length rows) (e : v ≡ get_or rows from v) where
  -- the edges are those of before and the new one
  pub edges_after : {E : Type 0} (r : Result (Unit {0}) E) → OnOk r ((m : ℕ) → has w.items m ≡ (has v.items m || (m == to)))
      → OnOk r ((n m : ℕ) → is_edge (rows_of (set rows from w)) n m ≡ is_edge_with (rows_of rows) from to n m)
  edges_after (Ok u) h = λ n m.
      let size : length (rows_of rows) ≡ length rows = length-map rows (λ (x : Vec ℕ Global). x.items) in
      ap (λ g. is_edge g n m) (rows_set rows from w)
      ∙ row_edges (rows_of rows) from to w.items (omega arith) (λ k. h k ∙ ap (λ x. has x k || (k == to)) (sym (row_at rows from v l e))) n m
  edges_after (Err x) h = tt

  -- a graph with an edge more is one
  pub graph_after : to < length rows → IsGraph (rows_of rows) → IsStrictlyIncreasing w.items
      → ((m : ℕ) → has w.items m ≡ true → (has v.items m || (m == to)) ≡ true) → IsGraph (rows_of (set rows from w))
  graph_after t g up h =
      let size : length (rows_of rows) ≡ length rows = length-map rows (λ (x : Vec ℕ Global). x.items) in
      subst IsGraph (sym (rows_set rows from w))
      (row_graph (rows_of rows) from to w.items (omega arith) (omega arith) g up (λ k p. ap (λ x. has x k || (k == to)) (row_at rows from v l e) ∙ h k p))

  -- a row that stays leaves the graph
  pub same_after : {X E : Type 0} (r : Result X E) → OnErr r (w.items ≡ v.items) → OnErr r (rows_of (set rows from w) ≡ rows_of rows)
  same_after (Ok x) h = tt
  same_after (Err x) h =
      rows_set rows from w ∙ ap (λ y. set (rows_of rows) from y) (h ∙ sym (row_at rows from v l e)) ∙ set-get_or (rows_of rows) from []
