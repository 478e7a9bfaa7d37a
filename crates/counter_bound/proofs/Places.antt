-- Places of nodes in a body that rises, its marks, and the edges between them.
use Rattle.std.proofs.Common.{◌≡◌, ◌==◌, ◌&&◌, ◌||◌, ◌<◌, inl, inr, ℕ, Bool, true, false, List, length, get_or, set, Ok, Err, refl, sym, ap, ◌∙◌, arith}
use Rattle.std.specs.Ordering.{nat_cmp}
use Rattle.std.specs.List.Sorted.{IsStrictlyIncreasing, IsBinarySearchResult}
use Rattle.std.proofs.lemmas.Bool.{cases_lt, eq-eqb}
use Rattle.std.proofs.lemmas.Bool.Decides.{eqb_tells}
use Rattle.std.proofs.lemmas.List.{get_or-set_same, get_or-set_other}
use Rattle.std.proofs.lemmas.List.Sorted.{searched}
use Rattle.bt_base.specs.Graph.{is_edge, is_edge_with}
use Rattle.bt_base.proofs.Rows.{rising_apart}
use Rattle.counter_bound.specs.Body.{is_marked}
use Rattle.counter_bound.proofs.Bodies.{rising_one}
use Rattle.counter_bound.proofs.Moving.{other_node}

module _ (xs : List ℕ) (up : IsStrictlyIncreasing xs) (x : ℕ) where
  -- a search finds a place of a number
  pub found_at : (i : ℕ) → IsBinarySearchResult (λ y. nat_cmp y x) xs (Ok i) → (i < length xs) × (get_or xs i 0 ≡ x)
  found_at i s = searched xs x (Ok i) s (rising_apart xs up)

  -- its only place
  pub found_tells : (i : ℕ) → IsBinarySearchResult (λ y. nat_cmp y x) xs (Ok i) → (j : ℕ) → j < length xs → (get_or xs j 0 == x) ≡ (j == i)
  found_tells i s j l = let f = found_at i s in elim (eqb_tells j i) [
    | inl a ↦ eq-eqb (get_or xs j 0) x (ap (λ (k : ℕ). get_or xs k 0) a.1 ∙ f.1) ∙ sym a.0
    | inr a ↦ other_node (get_or xs j 0) x (λ e. a.1 (rising_one xs up j i l f.0 (e ∙ sym f.1))) ∙ sym a.0
  ]

  -- or none
  pub none_tells : (i : ℕ) → IsBinarySearchResult (λ y. nat_cmp y x) xs (Err i) → (j : ℕ) → j < length xs → (get_or xs j 0 == x) ≡ false
  none_tells i s j l = let f = searched xs x (Err i) s (rising_apart xs up) in other_node (get_or xs j 0) x (λ e. elim (cases_lt j i) [
    | inl a ↦ let b : get_or xs j 0 < x = f.1 j a in omega (arith, b, e)
    | inr a ↦ let b : x < get_or xs j 0 = f.2 j a l in omega (arith, b, e)
  ])

pub or_none : (a b : Bool) → b ≡ false → a ≡ (a || b)
or_none true b e = refl
or_none false b e = sym e

or_true : (a : Bool) → (a || true) ≡ true
or_true true = refl
or_true false = refl

-- a place is marked
pub mark_at : (marks : List Bool) (p i : ℕ) (same : Bool) → p < length marks → same ≡ (i == p) → is_marked (set marks p true) i ≡ (is_marked marks i || same)
mark_at marks p i same l e = elim (eqb_tells i p) [
  | inl a ↦
      ap (is_marked (set marks p true)) a.1 ∙ (get_or-set_same marks p true false l ∙ sym (ap (λ (b : Bool). is_marked marks i || b) (e ∙ a.0) ∙ or_true (is_marked marks i)))
  | inr a ↦ get_or-set_other marks p i true false a.1 ∙ or_none (is_marked marks i) same (e ∙ a.0)
]

-- an edge more changes the row of its place
pub with_row : (old new : List (List ℕ)) (place to : ℕ) → ((n m : ℕ) → is_edge new n m ≡ is_edge_with old place to n m) → (j : ℕ) (same : Bool) → same ≡ (j == to)
    → is_edge new place j ≡ (is_edge old place j || same)
with_row old new place to edges j same e =
    edges place j ∙ (ap (λ (b : Bool). is_edge old place j || (b && (j == to))) (eq-eqb place place refl) ∙ ap (λ (b : Bool). is_edge old place j || b) (sym e))
