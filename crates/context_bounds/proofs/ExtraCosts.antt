-- The costs of edges as a list are those of the edges.
use Rattle.std.proofs.Common.{◌≡◌, ◌==◌, ◌&&◌, ◌||◌, ℕ, zero, suc, ◌+◌, ◌<◌, Bool, true, false, List, [], ◌∷◌, ◌++◌, get_or, refl, sym, ap, subst}
use Rattle.std.proofs.Common.{◌∙◌, arith, zero-add, inl, inr, if◌then◌else◌, Result, Ok, Err, IfOk, Vec, Global}
use Rattle.std.specs.Prelude.{slice_index_or}
use Rattle.std.specs.List.Sorted.{IsStrictlyIncreasing}
use Rattle.std.proofs.lemmas.Bool.{cases_Bool, eq-eqb, eqb-true, false≢true}
use Rattle.bt_base.proofs.RisingLists.{rising_rest, rest_is_above}
use Rattle.bt_base.specs.Graph.{IsGraph, has, is_edge}
use Rattle.path_bound.specs.Places.{extra_at, extra_of}
use Rattle.context_bounds.specs.Extras.{extras_from, extras_of_row}

-- what is said of an edge by two lists, one behind the other
pub extra-append : (xs ys : List (ℕ × ℕ × ℕ)) (n m : ℕ) → extra_of (xs ++ ys) n m ≡ extra_of xs n m + extra_of ys n m
extra-append [] ys n m = sym (zero-add (extra_of ys n m))
extra-append (x ∷ xs) ys n m = let r = extra-append xs ys n m in omega (arith, r)

-- the edges of a node say nothing of those of another
other_row : (c : ℕ → ℕ → ℕ) (n : ℕ) (row : List ℕ) (a m : ℕ) → (n == a) ≡ false → extra_of (extras_of_row c n row) a m ≡ 0
other_row c n [] a m apart = refl
other_row c n (k ∷ row) a m apart =
    let r = other_row c n row a m apart in
    let e : extra_at (n, k, c n k) a m ≡ 0 = ap (λ (b : Bool). if b && (k == m) then c n k else 0) apart in
    omega (arith, r, e)

-- a number below all of a list isn't in it
not_in : (m : ℕ) (row : List ℕ) → IsStrictlyIncreasing (m ∷ row) → has row m ≡ false
not_in m [] rises = refl
not_in m (k ∷ row) rises =
    let above : m < k = rest_is_above m (k ∷ row) k rises (0, omega arith, refl) in
    elim (cases_Bool (m == k)) [
      | inl same ↦ let e : m ≡ k = eqb-true m k same in absurd (omega (arith, above, e))
      | inr apart ↦ ap (λ (b : Bool). b || has row m) apart ∙ not_in m row (skipped m k row rises)
    ]
  where
    skipped : (m k : ℕ) (row : List ℕ) → IsStrictlyIncreasing (m ∷ k ∷ row) → IsStrictlyIncreasing (m ∷ row)
    skipped m k [] rises j within = absurd (omega (arith, within))
    skipped m k (l ∷ row) rises zero within =
        let one : m < k = rest_is_above m (k ∷ l ∷ row) k rises (0, omega arith, refl) in
        let two : k < l = rest_is_above k (l ∷ row) l (rising_rest m (k ∷ l ∷ row) rises) (0, omega arith, refl) in
        omega (arith, one, two)
    skipped m k (l ∷ row) rises (suc j) within =
        let same : suc j + 1 ≡ suc (j + 1) = omega arith in
        subst (λ (i : ℕ). get_or (l ∷ row) j 0 < get_or (m ∷ l ∷ row) i 0) (sym same)
        (rising_rest k (l ∷ row) (rising_rest m (k ∷ l ∷ row) rises) j (omega (arith, within)))

-- the edges of a node say what each costs
own_row : (c : ℕ → ℕ → ℕ) (n : ℕ) (row : List ℕ) → IsStrictlyIncreasing row → (m : ℕ) → extra_of (extras_of_row c n row) n m ≡ (if has row m then c n m else 0)
own_row c n [] rises m = refl
own_row c n (k ∷ row) rises m =
    let rest = own_row c n row (rising_rest k row rises) m in
    let here : (n == n) ≡ true = eq-eqb n n refl in
    elim (cases_Bool (m == k)) [
      | inl same ↦
          let e : m ≡ k = eqb-true m k same in
          let back : (k == m) ≡ true = eq-eqb k m (sym e) in
          let first : extra_at (n, k, c n k) n m ≡ c n m =
          ap (λ (b : Bool). if b && (k == m) then c n k else 0) here ∙ (ap (λ (b : Bool). if b then c n k else 0) back ∙ ap (λ (i : ℕ). c n i) (sym e)) in
          let none : has row m ≡ false = ap (λ (i : ℕ). has row i) e ∙ not_in k row rises in
          let behind : extra_of (extras_of_row c n row) n m ≡ 0 = rest ∙ ap (λ (b : Bool). if b then c n m else 0) none in
          let is : (if has (k ∷ row) m then c n m else 0) ≡ c n m = ap (λ (b : Bool). if b || has row m then c n m else 0) same in
          omega (arith, first, behind, is)
      | inr apart ↦
          let back : (k == m) ≡ false = elim (cases_Bool (k == m)) [
            | inl there ↦ absurd (false≢true (sym apart ∙ eq-eqb m k (sym (eqb-true k m there))))
            | inr out ↦ out
          ] in
          let first : extra_at (n, k, c n k) n m ≡ 0 =
          ap (λ (b : Bool). if b && (k == m) then c n k else 0) here ∙ ap (λ (b : Bool). if b then c n k else 0) back in
          let is : (if has (k ∷ row) m then c n m else 0) ≡ (if has row m then c n m else 0) = ap (λ (b : Bool). if b || has row m then c n m else 0) apart in
          omega (arith, first, rest, is)
    ]

-- the edges of later nodes say nothing of those of an earlier one
below_all : (c : ℕ → ℕ → ℕ) (k : ℕ) (rows : List (List ℕ)) (n m : ℕ) → n < k → extra_of (extras_from c k rows) n m ≡ 0
below_all c k [] n m below = refl
below_all c k (row ∷ rows) n m below =
    let apart : (k == n) ≡ false = elim (cases_Bool (k == n)) [
      | inl same ↦ let e : k ≡ n = eqb-true k n same in absurd (omega (arith, below, e))
      | inr out ↦ out
    ] in
    let first = other_row c k row n m apart in
    let rest = below_all c (suc k) rows n m (omega (arith, below)) in
    let both = extra-append (extras_of_row c k row) (extras_from c (suc k) rows) n m in
    omega (arith, first, rest, both)

-- all rows from a number on, at a number behind it
at_all : (c : ℕ → ℕ → ℕ) (k : ℕ) (rows : List (List ℕ)) → ((i : ℕ) → IsStrictlyIncreasing (slice_index_or rows i [])) → (i n m : ℕ) → n ≡ k + i
    → extra_of (extras_from c k rows) n m ≡ (if has (slice_index_or rows i []) m then c n m else 0)
at_all c k [] rises i n m is = refl
at_all c k (row ∷ rows) rises zero n m is =
    let e : n ≡ k = omega (arith, is) in
    let first : extra_of (extras_of_row c k row) n m ≡ (if has row m then c n m else 0) =
    ap (λ (j : ℕ). extra_of (extras_of_row c k row) j m) e ∙ (own_row c k row (rises 0) m ∙ ap (λ (j : ℕ). if has row m then c j m else 0) (sym e)) in
    let rest = below_all c (suc k) rows n m (omega (arith, e)) in
    let both = extra-append (extras_of_row c k row) (extras_from c (suc k) rows) n m in
    omega (arith, first, rest, both)
at_all c k (row ∷ rows) rises (suc i) n m is =
    let apart : (k == n) ≡ false = elim (cases_Bool (k == n)) [
      | inl same ↦ let e : k ≡ n = eqb-true k n same in absurd (omega (arith, is, e))
      | inr out ↦ out
    ] in
    let first = other_row c k row n m apart in
    let rest = at_all c (suc k) rows (λ j. rises (suc j)) i n m (omega (arith, is)) in
    let both = extra-append (extras_of_row c k row) (extras_from c (suc k) rows) n m in
    omega (arith, first, rest, both)

-- the costs of all edges of a graph, as a list, are those of its edges
pub extras_are : (c : ℕ → ℕ → ℕ) (graph : List (List ℕ)) → IsGraph graph → (n m : ℕ)
    → extra_of (extras_from c 0 graph) n m ≡ (if is_edge graph n m then c n m else 0)
extras_are c graph is n m = at_all c 0 graph is.rising n n m (sym (zero-add n))

-- where the list is there, it says of each edge what that costs, and of other pairs nothing
pub all_extras_are : {E : Type 0} (c : ℕ → ℕ → ℕ) (graph : List (List ℕ)) → IsGraph graph → (r : Result (Vec (ℕ × ℕ × ℕ) Global) E)
    → IfOk r (λ list. list.items ≡ extras_from c 0 graph) → IfOk r (λ list. (n m : ℕ) → extra_of list.items n m ≡ (if is_edge graph n m then c n m else 0))
all_extras_are c graph is (Ok list) same = λ n m. ap (λ (extras : List (ℕ × ℕ × ℕ)). extra_of extras n m) same ∙ extras_are c graph is n m
all_extras_are c graph is (Err e) same = tt
