-- The least sum of a turn, by labels that meet all that is asked of them.
use Rattle.std.proofs.Common.{◌≡◌, ℕ, zero, suc, ◌+◌, ◌<◌, ◌≤◌, inl, inr, Bool, true, List, [], ◌∷◌, length}
use Rattle.std.proofs.Common.{Option, Some, None, refl, sym, ap, subst, ◌∙◌, arith}
use Rattle.std.specs.Prelude.{min, slice_set, replicate, slice_index_or}
use Rattle.std.proofs.lemmas.Bool.{cases_lt}
use Rattle.std.proofs.lemmas.Bool.Decides.{eqb_tells}
use Rattle.std.proofs.lemmas.List.{get_or_past, get_or-set_same, get_or-set_other, length-replicate}
use Rattle.bt_base.specs.Graph.{has, is_edge}
use Rattle.graph_laws.specs.Walk.{IsWalk, AreInside, end_of, total}
use Rattle.graph_laws.specs.Counter.{Changes}
use Rattle.graph_laws.proofs.Walks.{walk-append, walk_front, walk_back}
use Rattle.turn_sums.specs.Label.{label, least_of}
use Rattle.turn_sums.specs.Search.{sum_before, HasPath, AreFound, AreSettled, IsLow, base, HasTurnSum, IsLeastTurn, IsLeastSoFar, all_nodes}
use Rattle.turn_sums.proofs.Paths.{total_is_before}
use Rattle.turn_sums.proofs.Settled.{low_along}

some_is : {a b : ℕ} → ◌≡◌ {A = Option ℕ} (Some a) (Some b) → a ≡ b
some_is e = cc

all_inside : (xs : List ℕ) → AreInside all_nodes xs
all_inside [] = tt
all_inside (x ∷ xs) = (refl, all_inside xs)

-- a node with an edge is one of the graph
pub leaves_node : (graph : List (List ℕ)) (n m : ℕ) → is_edge graph n m ≡ true → n < length graph
leaves_node graph n m e = elim (cases_lt n (length graph)) [
  | inl l ↦ l
  | inr l ↦ absurd (let f : slice_index_or graph n [] ≡ [] = get_or_past graph n [] l in let g : has [] m ≡ true =
      subst (λ (row : List ℕ). has row m ≡ true) f e in cc)
]

turn_sum : (behind sum up down ups downs all_up all_down : ℕ) → behind + down ≡ sum + up → sum + downs ≡ base + ups → all_up ≡ ups + up
    → all_down ≡ downs + down
    → behind + all_down ≡ base + all_up
turn_sum behind sum up down ups downs all_up all_down a b c d = omega (arith, a, b, c, d)

abbrev none_labels : ℕ → List (Option ℕ)
none_labels count = replicate count None

all_none : (count n : ℕ) → label (replicate count None) n ≡ None
all_none zero n = get_or_past [] n None (omega arith)
all_none (suc count) zero = refl
all_none (suc count) (suc n) = all_none count n

module _ (edge : ℕ → ℕ → Bool) (head : ℕ) (changes : Changes) where
  head_is : (count : ℕ) → head < count → label (slice_set (replicate count None) head (Some base)) head ≡ Some base
  head_is count l = get_or-set_same (none_labels count) head (Some base) None (let e : length (none_labels count) ≡ count = length-replicate count None in
      omega (arith, e, l))

  -- the same node
  at_same : (labels : List (Option ℕ)) (n m sum v behind : ℕ) → n ≡ m → label labels n ≡ Some sum → label labels m ≡ Some v
      → behind + changes.down n ≤ sum + changes.up n
      → behind + changes.down m ≤ v + changes.up m
  at_same labels n m sum v behind s e h l =
      let same : sum ≡ v = some_is (sym e ∙ (ap (label labels) s ∙ h)) in
      let up : changes.up n ≡ changes.up m = ap changes.up s in
      let down : changes.down n ≡ changes.down m = ap changes.down s in
      omega (arith, same, up, down, l)

  -- the turn that ends at a node with a label
  pub turn_at : (labels : List (Option ℕ)) → AreFound edge head changes labels → (n sum behind : ℕ) → edge n head ≡ true → label labels n ≡ Some sum
      → behind + changes.down n ≡ sum + changes.up n → HasTurnSum edge all_nodes head changes behind
  turn_at labels f n sum behind leads e b =
      let p : HasPath edge head changes n sum = f.paths n sum e in
      let up : total changes.up (head ∷ p.rest) ≡ sum_before changes.up head p.rest + changes.up (end_of head p.rest) =
      total_is_before changes.up head p.rest in
      let down : total changes.down (head ∷ p.rest) ≡ sum_before changes.down head p.rest + changes.down (end_of head p.rest) =
      total_is_before changes.down head p.rest in
      let up_is : changes.up (end_of head p.rest) ≡ changes.up n = ap changes.up p.ends in
      let down_is : changes.down (end_of head p.rest) ≡ changes.down n = ap changes.down p.ends in
      let is : sum + sum_before changes.down head p.rest ≡ base + sum_before changes.up head p.rest = p.is in
      record {
        between = p.rest;
        turn = record {
          walk = walk-append edge head p.rest (head ∷ []) p.walk (subst (λ (x : ℕ). IsWalk edge x (head ∷ [])) (sym p.ends) (leads, tt));
          inside = all_inside p.rest;
          once = p.once;
        };
        is = turn_sum behind sum (changes.up n) (changes.down n) (sum_before changes.up head p.rest) (sum_before changes.down head p.rest) (total changes.up
            (head ∷ p.rest)) (total changes.down (head ∷ p.rest)) b is
            (let x : total changes.up (head ∷ p.rest) ≡ sum_before changes.up head p.rest + changes.up n = omega (arith, up, up_is) in x)
            (let x : total changes.down (head ∷ p.rest) ≡ sum_before changes.down head p.rest + changes.down n = omega (arith, down, down_is) in x);
      }

  -- a node more
  pub least_more : (labels : List (Option ℕ)) → AreFound edge head changes labels → (n sum behind : ℕ) (best : Option ℕ)
      → IsLeastSoFar edge head changes labels n best → edge n head ≡ true
      → label labels n ≡ Some sum → behind + changes.down n ≡ sum + changes.up n → IsLeastSoFar edge head changes labels (n + 1) (least_of best behind)
  least_more labels f n sum behind None so leads e b = (
    turn_at labels f n sum behind leads e b,
    (λ m v l g h. elim (cases_lt m n) [
      | inl k ↦ absurd (so m v k g h)
      | inr k ↦ at_same labels n m sum v behind (let s : n ≡ m = omega (arith, l, k) in s) e h (let x : behind + changes.down n ≤ sum + changes.up n =
          omega (arith, b) in x)
    ]),
  )
  least_more labels f n sum behind (Some old) so leads e b = elim (cases_lt old behind) [
    | inl k ↦
        let is : old ≡ min old behind = omega (arith, k) in
        let lower : old + changes.down n ≤ sum + changes.up n = omega (arith, k, b) in
        subst (λ (x : ℕ). IsLeastSoFar edge head changes labels (n + 1) (Some x)) is (
          so.0,
          (λ m v l g h. elim (cases_lt m n) [
            | inl j ↦ so.1 m v j g h
            | inr j ↦ at_same labels n m sum v old (let s : n ≡ m = omega (arith, l, j) in s) e h lower
          ]),
        )
    | inr k ↦
        let is : behind ≡ min old behind = omega (arith, k) in
        subst (λ (x : ℕ). IsLeastSoFar edge head changes labels (n + 1) (Some x)) is (
          turn_at labels f n sum behind leads e b,
          (λ m v l g h. elim (cases_lt m n) [
            | inl j ↦ let low : old + changes.down m ≤ v + changes.up m = so.1 m v j g h in omega (arith, low, k)
            | inr j ↦ at_same labels n m sum v behind (let s : n ≡ m = omega (arith, l, j) in s) e h (let x : behind + changes.down n ≤ sum + changes.up n =
                omega (arith, b) in x)
          ]),
        )
  ]

  -- a node without an edge to the head, or without a label
  pub least_skip : (labels : List (Option ℕ)) (n : ℕ) (best : Option ℕ) → IsLeastSoFar edge head changes labels n best → ((sum : ℕ) → edge n head ≡ true
      → label labels n ≡ Some sum → ⊥)
      → IsLeastSoFar edge head changes labels (n + 1) best
  least_skip labels n None so none = λ m v l g h. elim (cases_lt m n) [
    | inl k ↦ so m v k g h
    | inr k ↦
        let s : m ≡ n = omega (arith, l, k) in
        none v (subst (λ (x : ℕ). edge x head ≡ true) s g) (subst (λ (x : ℕ). label labels x ≡ Some v) s h)
  ]
  least_skip labels n (Some best) so none = (
    so.0,
    (λ m v l g h. elim (cases_lt m n) [
      | inl k ↦ so.1 m v k g h
      | inr k ↦
          let s : m ≡ n = omega (arith, l, k) in
          absurd (none v (subst (λ (x : ℕ). edge x head ≡ true) s g) (subst (λ (x : ℕ). label labels x ≡ Some v) s h))
    ]),
  )

  -- all nodes gone through
  pub least_all : (labels : List (Option ℕ)) (count : ℕ) (best : Option ℕ) → ((n m : ℕ) → edge n m ≡ true → n < count) → AreFound edge head changes labels
      → AreSettled edge head changes labels
      → IsLeastSoFar edge head changes labels count best → IsLeastTurn edge all_nodes head changes best
  least_all labels count None below f s so = λ between t.
      let low : IsLow (label labels (end_of head between)) (sum_before changes.down head between) (base + sum_before changes.up head between) =
      low_along edge head changes labels s head base between f.head_label (walk_front edge head between (head ∷ []) t.walk) t.once in
      let leads = walk_back edge head between (head ∷ []) t.walk in
      so (end_of head between) low.value (below (end_of head between) head leads.0) leads.0 low.is
  least_all labels count (Some best) below f s so = (
    so.0,
    (λ between t.
        let low : IsLow (label labels (end_of head between)) (sum_before changes.down head between) (base + sum_before changes.up head between) =
        low_along edge head changes labels s head base between f.head_label (walk_front edge head between (head ∷ []) t.walk) t.once in
        let leads = walk_back edge head between (head ∷ []) t.walk in
        let b : best + changes.down (end_of head between) ≤ low.value + changes.up (end_of head between) =
        so.1 (end_of head between) low.value (below (end_of head between) head leads.0) leads.0 low.is in
        let up : total changes.up (head ∷ between) ≡ sum_before changes.up head between + changes.up (end_of head between) =
        total_is_before changes.up head between in
        let down : total changes.down (head ∷ between) ≡ sum_before changes.down head between + changes.down (end_of head between) =
        total_is_before changes.down head between in
        let l : low.value + sum_before changes.down head between ≤ base + sum_before changes.up head between = low.low in
        omega (arith, b, up, down, l)),
  )

  -- the labels to begin with
  first_label : (count n v : ℕ) → head < count → label (slice_set (replicate count None) head (Some base)) n ≡ Some v → (head ≡ n) × (base ≡ v)
  first_label count n v l e = elim (eqb_tells n head) [
    | inl a ↦
        let s : head ≡ n = sym a.1 in
        let here : label (slice_set (replicate count None) head (Some base)) head ≡ Some v =
        subst (λ (x : ℕ). label (slice_set (replicate count None) head (Some base)) x ≡ Some v) a.1 e in
        (s, some_is (sym (head_is count l) ∙ here))
    | inr a ↦
        let other : label (slice_set (replicate count None) head (Some base)) n ≡ label (replicate count None) n =
        get_or-set_other (replicate count None) head n (Some base) None a.1 in
        absurd (let f : label (replicate count None) n ≡ Some v = sym other ∙ e in let g : label (replicate count None) n ≡ None = all_none count n in cc)
  ]

  pub first_found : (count : ℕ) → head < count → AreFound edge head changes (slice_set (replicate count None) head (Some base))
  first_found count l = record {
    head_label = head_is count l;
    paths = λ n v e. let h = first_label count n v l e in
        record { rest = []; walk = tt; ends = h.0; once = refl; is = (let b : base ≡ v = h.1 in omega (arith, b)) };
  }
