-- The loops of a graph are determined, but for how they are stored.
use Rattle.std.proofs.Common.{◌≡◌, ◌==◌, ℕ, zero, suc, ◌+◌, ◌<◌, Bool, true, false, cond, List, [], ◌∷◌, length, get_or, map, Option, Some, Contains, inl, inr, refl, sym, ap, ◌∙◌, arith}
use Rattle.std.specs.Prelude.{slice_get, slice_index}
use Rattle.std.specs.List.Sorted.{IsStrictlyIncreasing}
use Rattle.std.proofs.lemmas.Bool.{false≢true, eq-eqb, ltb-true, ltb-false}
use Rattle.std.proofs.lemmas.List.{length-map}
use Rattle.std.proofs.lemmas.Option.{slice_get-get_or, slice_get_past}
use Rattle.bt_base.proofs.RisingLists.{same_rising}
use Rattle.bt_base.specs.Graph.{has}
use Rattle.context_answers.proofs.Lists.{at_among, get_there, mapped_at, none_some, some_same}
use Rattle.graph_laws.proofs.Nests.{one_nest}
use Rattle.graph_laws.proofs.Stretches.{tells}
use Rattle.graph_laws.specs.Nest.{AreSame}
use Rattle.loop_nest.proofs.Lists.{or_cases, or_left, or_right, same_number}
use Rattle.loop_nest.specs.LoopNest.{HeadsRise, IsLoopNest, IsLoopOf, is_head}
use Rattle.loop_nest.specs.declared.natural_loop.Loop.{Loop}
use Rattle.path_bound.proofs.Placed.{IsLoopAt, head_place, place_reads}
use Rattle.path_bound.specs.Places.{bound_in, held, loops_in, place_of}

abbrev pub heads_of : List Loop → List ℕ
heads_of loops = map (λ one. one.head) loops

-- the heads of a list are those that it has
head_among : (loops : List Loop) (h : ℕ) → Contains (heads_of loops) h → is_head loops h ≡ true
head_among loops h has = at (at_among (heads_of loops) h has) where
  found : (list : List Loop) (k : ℕ) → slice_get (heads_of list) k ≡ Some h → is_head list h ≡ true
  found [] k there = absurd (none_some there)
  found (one ∷ list) zero there = or_left (h == one.head) (is_head list h) (eq-eqb h one.head (sym (some_same there)))
  found (one ∷ list) (suc k) there = or_right (h == one.head) (is_head list h) (found list k there)

  at : (k : ℕ) × (slice_get (heads_of loops) k ≡ Some h) → is_head loops h ≡ true
  at place = found loops place.0 place.1

behind : (x : ℕ) (xs : List ℕ) (h : ℕ) → Contains xs h → Contains (x ∷ xs) h
behind x xs h (k, low, is) = (suc k, omega (arith, low), is)

among_head : (loops : List Loop) (h : ℕ) → is_head loops h ≡ true → Contains (heads_of loops) h
among_head [] h is = absurd (false≢true is)
among_head (one ∷ loops) h is = elim (or_cases (h == one.head) (is_head loops h) is) [
  | inl here ↦ (0, omega arith, sym (same_number h one.head here))
  | inr rest ↦ behind one.head (heads_of loops) h (among_head loops h rest)
]

-- heads that rise are a rising list
heads_rise : (loops : List Loop) → HeadsRise loops → IsStrictlyIncreasing (heads_of loops)
heads_rise loops rise k low =
    let long : length (heads_of loops) ≡ length loops = length-map loops (λ one. one.head) in
    let one = get_there loops k (omega (arith, low, long)) in
    let two = get_there loops (k + 1) (omega (arith, low, long)) in
    let less : one.0.head < two.0.head = rise k (k + 1) one.0 two.0 (omega arith) one.1 two.1 in
    let here : get_or (heads_of loops) k 0 ≡ one.0.head =
    some_same (sym (slice_get-get_or (heads_of loops) k 0 (omega (arith, low))) ∙ mapped_at (λ (l : Loop). l.head) loops k one.0 one.1) in
    let next : get_or (heads_of loops) (k + 1) 0 ≡ two.0.head =
    some_same (sym (slice_get-get_or (heads_of loops) (k + 1) 0 low) ∙ mapped_at (λ (l : Loop). l.head) loops (k + 1) two.0 two.1) in
    omega (arith, less, here, next)

-- the place of a head is found among the heads
place_among : List ℕ → ℕ → ℕ
place_among [] h = 0
place_among (x ∷ xs) h = cond (h == x) 0 (suc (place_among xs h))

place_by_heads : (loops : List Loop) (h : ℕ) → place_of loops h ≡ place_among (heads_of loops) h
unfolding place_among
place_by_heads [] h = refl
place_by_heads (one ∷ loops) h = ap (λ (n : ℕ). cond (h == one.head) 0 (suc n)) (place_by_heads loops h)

-- the body of a head, and none of what is no head
module _ (edge : ℕ → ℕ → Bool) (entry : ℕ) (loops : List Loop) (is : IsLoopNest edge entry loops) where
  body_there : (h n : ℕ) → is_head loops h ≡ true → (loops_in loops).body h n ≡ is.nest.body h n
  body_there h n there =
      let l : IsLoopAt loops (place_of loops h) h =
      place_reads loops h (ltb-true (place_of loops h) (length loops) (sym (head_place loops h) ∙ there)) in
      let o : IsLoopOf is.nest l.one = is.each (place_of loops h) l.one l.at in
      ap (λ (x : Option Loop). held x n) l.at ∙ (o.body n ∙ ap (λ (x : ℕ). is.nest.body x n) l.head)

  body_none : (h n : ℕ) → is_head loops h ≡ false → (loops_in loops).body h n ≡ false
  body_none h n none =
      ap (λ (x : Option Loop). held x n)
      (slice_get_past loops (place_of loops h) (ltb-false (place_of loops h) (length loops) (sym (head_place loops h) ∙ none)))

module _ (edge : ℕ → ℕ → Bool) (entry : ℕ) (one two : List Loop) (is : IsLoopNest edge entry one) (too : IsLoopNest edge entry two) where
  nests : AreSame is.nest too.nest
  nests = one_nest edge entry is.nest too.nest is.is too.is

  same_head : (h : ℕ) → is_head one h ≡ is_head two h
  same_head h = sym (is.heads h) ∙ (nests.has h ∙ too.heads h)

  same_body : (h n : ℕ) → (loops_in one).body h n ≡ (loops_in two).body h n
  same_body h n = elim (tells (is_head one h)) [
    | inl there ↦
        body_there edge entry one is h n there
        ∙ (nests.body h n (is.heads h ∙ there) ∙ sym (body_there edge entry two too h n (sym (same_head h) ∙ there)))
    | inr none ↦ body_none edge entry one is h n none ∙ sym (body_none edge entry two too h n (sym (same_head h) ∙ none))
  ]

  -- both have the same heads with the same bodies
  pub same_loops : loops_in one ≡ loops_in two
  same_loops = λ i. record { has = λ h. same_head h i; body = λ h n. same_body h n i }

  -- in the same order
  pub same_heads : heads_of one ≡ heads_of two
  same_heads = same_rising (heads_of one) (heads_of two) (heads_rise one is.rising) (heads_rise two too.rising)
      (λ h has. among_head two h (sym (same_head h) ∙ head_among one h has)) (λ h has. among_head one h (same_head h ∙ head_among two h has))

  pub same_count : length one ≡ length two
  same_count = sym (length-map one (λ l. l.head)) ∙ (ap length same_heads ∙ length-map two (λ l. l.head))

  pub head_at : (k : ℕ) (l m : Loop) → slice_get one k ≡ Some l → slice_get two k ≡ Some m → l.head ≡ m.head
  head_at k l m at there =
      some_same (sym (mapped_at (λ (x : Loop). x.head) one k l at)
      ∙ (ap (λ (xs : List ℕ). slice_get xs k) same_heads ∙ mapped_at (λ (x : Loop). x.head) two k m there))

  -- and so the same bounds stand for the same heads
  pub same_bounds : (bounds : List ℕ) → bound_in one bounds ≡ bound_in two bounds
  same_bounds bounds = λ i h.
      (ap (λ (k : ℕ). slice_index bounds k)
      (place_by_heads one h ∙ (ap (λ (xs : List ℕ). place_among xs h) same_heads ∙ sym (place_by_heads two h)))) i
