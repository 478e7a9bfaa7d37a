-- The rank of lists of values: the heights together rise, or the lists are the same.
use Rattle.std.proofs.Common.{◌≡◌, ℕ, ◌+◌, ◌*◌, ◌<◌, ◌≤◌, ◌⊎◌, true, List, [], ◌∷◌, length, refl, ap, inl, inr, arith}
use Rattle.std.proofs.lemmas.Bool.{and_parts, and_from, false≢true, cases_Bool, both_ways}
use Rattle.std.specs.List.{list_all}
use Rattle.value_lattice.specs.Height.{height, heights, are_at_most}
use Rattle.value_lattice.specs.Test.{is_over, is_at_most, AreOrdered}
use Rattle.value_lattice.specs.declared.value.Value.{Value}
use Rattle.value_lattice.proofs.HeightLemmas.{rise, bound}
use Rattle.value_lattice.proofs.TestLemmas.{over_decides, ordered, at_most_from, the_order_is_one}

-- a greater value is higher, or it is at most back
pub height_or_back : (t : List ℕ) (a b : Value) → is_over t a ≡ true → is_over t b ≡ true → is_at_most a b ≡ true
    → (height t a < height t b) ⊎ (is_at_most b a ≡ true)
height_or_back t a b over_a over_b up =
    let there : AreOrdered a b = ordered a b up in
    elim (cases_Bool (is_at_most b a)) [
      | inl back ↦ inr back
      | inr apart ↦ inl (rise t a b ((over_decides t a).0 over_a) ((over_decides t b).0 over_b)
          (record { up = there.up; apart = λ down. both_ways (is_at_most b a) apart (at_most_from b a there.right there.left down) }))
    ]

-- lists of values that are at most each other are the same
pub lists_are_same : (vs us : List Value) → are_at_most vs us ≡ true → are_at_most us vs ≡ true → vs ≡ us
lists_are_same [] [] up down = refl
lists_are_same [] (u ∷ us) up down = absurd (false≢true up)
lists_are_same (v ∷ vs) [] up down = absurd (false≢true up)
lists_are_same (v ∷ vs) (u ∷ us) up down =
    let first = and_parts (is_at_most v u) (are_at_most vs us) up in
    let back = and_parts (is_at_most u v) (are_at_most us vs) down in
    let head : v ≡ u = the_order_is_one.both_ways v u first.0 back.0 in
    let rest : vs ≡ us = lists_are_same vs us first.1 back.1 in
    cc

-- the heights of a greater list are more, or it is at most back
pub heights_rise : (t : List ℕ) (vs us : List Value) → list_all (is_over t) vs ≡ true → list_all (is_over t) us ≡ true → are_at_most vs us ≡ true
    → (heights t vs < heights t us) ⊎ (are_at_most us vs ≡ true)
heights_rise t [] [] over_vs over_us up = inr refl
heights_rise t [] (u ∷ us) over_vs over_us up = absurd (false≢true up)
heights_rise t (v ∷ vs) [] over_vs over_us up = absurd (false≢true up)
heights_rise t (v ∷ vs) (u ∷ us) over_vs over_us up =
    let first = and_parts (is_over t v) (list_all (is_over t) vs) over_vs in
    let second = and_parts (is_over t u) (list_all (is_over t) us) over_us in
    let both = and_parts (is_at_most v u) (are_at_most vs us) up in
    elim (height_or_back t v u first.0 second.0 both.0) [
      | inl higher ↦
          elim (heights_rise t vs us first.1 second.1 both.1) [
            | inl more ↦ inl (omega (arith, higher, more))
            | inr back ↦ let same : heights t vs ≡ heights t us = ap (heights t) (lists_are_same vs us both.1 back) in inl (omega (arith, higher, same))
          ]
      | inr down ↦
          elim (heights_rise t vs us first.1 second.1 both.1) [
            | inl more ↦ let same : height t v ≡ height t u = ap (height t) (the_order_is_one.both_ways v u both.0 down) in inl (omega (arith, same, more))
            | inr back ↦ inr (and_from (is_at_most u v) (are_at_most us vs) down back)
          ]
    ]

-- the heights of a list are bounded by its length and the thresholds
pub heights_bound : (t : List ℕ) (vs : List Value) → list_all (is_over t) vs ≡ true → heights t vs ≤ length vs * (128 + length t)
heights_bound t [] over = omega arith
heights_bound t (v ∷ vs) over =
    let parts = and_parts (is_over t v) (list_all (is_over t) vs) over in
    let here : height t v ≤ 128 + length t = bound t v ((over_decides t v).0 parts.0) in
    let rest : heights t vs ≤ length vs * (128 + length t) = heights_bound t vs parts.1 in
    grind (arith, here, rest)
