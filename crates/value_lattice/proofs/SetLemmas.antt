-- Rising lists of words, and how many words they have.
use Rattle.std.proofs.Common.{◌≡◌, ℕ, ◌+◌, ◌-◌, ◌^◌, ◌<◌, ◌≤◌, Bool, true, false, zero, suc, eqb, List, [], ◌∷◌, length, get_or, refl, sym, ap, subst, ◌∙◌}
use Rattle.std.proofs.Common.{inl, inr, arith, map, All, Contains, count_by, cond}
use Rattle.std.proofs.lemmas.List.Sums.{sum_by-cons}
use Rattle.std.proofs.lemmas.Bool.{ne_eqb, cases_lt, cases_Bool, both_ways}
use Rattle.std.proofs.lemmas.Bool.Decides.{Decides-eqb}
use Rattle.std.proofs.lemmas.List.{get_or-map, length-map}
use Rattle.std.proofs.lemmas.List.Elements.{All-contains, All-contains_itself, recursion_from_All, All-weaker}
use Rattle.std.proofs.lemmas.List.FromFn.{get_or-map-range_with_len, length-map-range_with_len}
use Rattle.std.proofs.lemmas.List.Kept.{AllPairs-from_increasing}
use Rattle.std.proofs.lemmas.Map.Keys.{IsDistinct-from_apart, IsDistinct-cons}
use Rattle.std.proofs.lemmas.Map.Made.{length-le_from_is_member, is_member-Decides}
use Rattle.std.proofs.lemmas.Map.Steps.{le-length_from_below}
use Rattle.std.proofs.lemmas.Map.Views.{list_any-from_Contains}
use Rattle.std.specs.Cmp.{nat_eq_equiv}
use Rattle.std.specs.List.{range_with_len, IsDistinct}
use Rattle.std.specs.List.Sorted.{IsStrictlyIncreasing}
use Rattle.std.specs.Set.{is_member}
use Rattle.value_lattice.specs.Order.{place_of, word_at}
use Rattle.value_lattice.specs.Value.{IsBetween}

-- the place of the word at a place
pub place_of-word_at : (k : ℕ) → k < 2 ^ 32 → place_of (word_at k) ≡ k
place_of-word_at k h = omega arith

-- the word at the place of a word
pub word_at-place_of : (w : ℕ) → w < 2 ^ 32 → word_at (place_of w) ≡ w
word_at-place_of w h = omega arith

-- a word at a place fits 32 bits
pub word_at_below : (k : ℕ) → word_at k < 2 ^ 32
word_at_below k = omega arith

-- a place fits 32 bits
pub place_of_below : (w : ℕ) → place_of w < 2 ^ 32
place_of_below w = omega arith

-- what a mapped list has
pub Contains-map : (f : ℕ → ℕ) (xs : List ℕ) (x : ℕ) → Contains xs x → Contains (map f xs) (f x)
Contains-map f xs x h =
    let within : h.0 < length (map f xs) = rw length-map h.1 in
    (h.0, within, get_or-map f xs h.0 x (f x) h.1 ∙ ap f h.2)

-- numbers that rise differ
pub distinct_from_rising : (xs : List ℕ) → IsStrictlyIncreasing xs → IsDistinct eqb xs
distinct_from_rising xs rises =
    IsDistinct-from_apart eqb xs
    (λ i j d below within. ne_eqb _ _ (λ same. let up : get_or xs i d < get_or xs j d = AllPairs-from_increasing xs rises i j d below within in omega
    arith))

-- a list that has all of a rising list is at least as long
pub length_rising_in : (xs ys : List ℕ) → IsStrictlyIncreasing xs → ((w : ℕ) → Contains xs w → Contains ys w) → length xs ≤ length ys
length_rising_in xs ys rises in_ys =
    length-le_from_is_member nat_eq_equiv xs ys (distinct_from_rising xs rises)
    (λ q member. (is_member-Decides Decides-eqb ys q).1 (in_ys q ((is_member-Decides Decides-eqb xs q).0 member)))

-- a list that has all words between two places that are far apart is long
pub between_is_long : (xs : List ℕ) (low high : ℕ) → low + 128 ≤ high → high < 2 ^ 32 → ((w : ℕ) → w < 2 ^ 32 → IsBetween low high w → Contains xs w)
    → 128 < length xs
between_is_long xs low high far fits has =
    let f : ℕ → ℕ = λ w. place_of w - low in
    let all : (q : ℕ) → q < 129 → Contains (map f xs) q =
    λ q below.
    let at : place_of (word_at (low + q)) ≡ low + q = place_of-word_at (low + q) (omega arith) in
    let one : f (word_at (low + q)) ≡ q = omega arith in
    subst (Contains (map f xs)) one (Contains-map f xs (word_at (low + q)) (has (word_at (low + q)) (word_at_below (low + q)) (omega arith, omega arith))) in
    let long : 129 ≤ length (map f xs) = le-length_from_below (map f xs) 129 (λ q below. list_any-from_Contains nat_eq_equiv q (map f xs) (all q below)) in
    omega (arith, long, length-map xs f)

-- many words are far apart
pub long_is_wide : (xs : List ℕ) (low high : ℕ) → IsStrictlyIncreasing xs → All (λ w. w < 2 ^ 32) xs → 128 < length xs
    → ((w : ℕ) → Contains xs w → IsBetween low high w) → low + 128 ≤ high
long_is_wide xs low high rises fits many between =
    elim (cases_lt high (low + 128)) [
      | inl near ↦
          let few : length xs ≤ length (map word_at (range_with_len low 128)) =
          length_rising_in xs (map word_at (range_with_len low 128)) rises (λ w member.
          let word : w < 2 ^ 32 = All-contains (λ w. w < 2 ^ 32) xs w fits member in
          let within : IsBetween low high w = between w member in
          let index : place_of w - low < 128 = omega arith in
          let length_is : length (map word_at (range_with_len low 128)) ≡ 128 = length-map-range_with_len word_at low 128 in (
            place_of w - low,
            omega arith,
            get_or-map-range_with_len word_at low 128 (place_of w - low) (place_of w) w index (omega arith) ∙ word_at-place_of w
                word,
          )) in
          absurd (omega (arith, few, length-map-range_with_len word_at low 128))
      | inr far ↦ far
    ]

-- a list that has all of a rising list and another word is longer
pub length_rising_below : (xs ys : List ℕ) (w : ℕ) → IsStrictlyIncreasing xs → ((v : ℕ) → Contains xs v → Contains ys v) → Contains ys w → (Contains xs w → ⊥)
    → length xs < length ys
length_rising_below xs ys w rises in_ys has lacks =
    let apart : All (λ y. eqb w y ≡ false) xs =
    All-weaker (Contains xs) (λ y. eqb w y ≡ false) (λ y has_y. ne_eqb w y (λ same. lacks (subst (Contains xs) (sym same) has_y))) xs
    (All-contains_itself xs) in
    let longer : length (w ∷ xs) ≤ length ys =
    length-le_from_is_member nat_eq_equiv (w ∷ xs) ys
    (IsDistinct-cons eqb w xs (recursion_from_All (λ y. eqb w y ≡ false) xs apart) (distinct_from_rising xs rises))
    (λ q member. (is_member-Decides Decides-eqb ys q).1 (in_both q ((is_member-Decides Decides-eqb (w ∷ xs) q).0 member))) in
    omega arith where
      in_both : (q : ℕ) → Contains (w ∷ xs) q → Contains ys q
      in_both q (zero, within, is) = subst (Contains ys) is has
      in_both q (suc k, within, is) = in_ys q (k, omega arith, is)

-- a rising list that is not longer than one of its parts has no more than that part
pub rising_in_part : (xs ys : List ℕ) → IsStrictlyIncreasing xs → ((w : ℕ) → Contains xs w → Contains ys w) → length ys ≤ length xs → (w : ℕ) → Contains ys w
    → Contains xs w
rising_in_part xs ys rises in_ys short w has =
    elim (cases_Bool (is_member eqb xs w)) [
      | inl member ↦ (is_member-Decides Decides-eqb xs w).0 member
      | inr no_member ↦ absurd
          (omega (
            arith,
            short,
            length_rising_below xs ys w rises in_ys has
                (λ has_w. both_ways (is_member eqb xs w) no_member ((is_member-Decides Decides-eqb xs w).1 has_w)),
          ))
    ]

count_by-cons : (p : ℕ → Bool) (x : ℕ) (xs : List ℕ) → count_by p (x ∷ xs) ≡ cond (p x) 1 0 + count_by p xs
count_by-cons p x xs = sum_by-cons (λ y. cond (p y) 1 0) x xs

-- a test that lets more pass counts at least as many, and more where it lets one of the list pass that the other holds back
pub count_by-le : (p q : ℕ → Bool) → ((x : ℕ) → p x ≡ true → q x ≡ true) → (xs : List ℕ) → count_by p xs ≤ count_by q xs
count_by-le p q more [] = omega arith
count_by-le p q more (x ∷ xs) =
    let rest : count_by p xs ≤ count_by q xs = count_by-le p q more xs in
    let here : p x ≡ true → q x ≡ true = more x in
    grind (arith, rest, here, count_by-cons p x xs, count_by-cons q x xs)

-- a test that passes one more counts more
pub count_by-lt : (p q : ℕ → Bool) → ((x : ℕ) → p x ≡ true → q x ≡ true) → (xs : List ℕ) (w : ℕ) → Contains xs w → p w ≡ false → q w ≡ true
    → count_by p xs < count_by q xs
count_by-lt p q more [] w has held passed = absurd (omega (arith, has.1))
count_by-lt p q more (x ∷ xs) w (zero, within, is) held passed =
    let rest : count_by p xs ≤ count_by q xs = count_by-le p q more xs in
    let no_x : p x ≡ false = subst (λ (v : ℕ). p v ≡ false) (sym is) held in
    let yes_x : q x ≡ true = subst (λ (v : ℕ). q v ≡ true) (sym is) passed in
    grind (arith, rest, no_x, yes_x, count_by-cons p x xs, count_by-cons q x xs)
count_by-lt p q more (x ∷ xs) w (suc k, within, is) held passed =
    let rest : count_by p xs < count_by q xs = count_by-lt p q more xs w (k, omega arith, is) held passed in
    let here : p x ≡ true → q x ≡ true = more x in
    grind (arith, rest, here, count_by-cons p x xs, count_by-cons q x xs)

-- the words at places one after the other are those between the first and the last
pub listed_are_between : (words : List ℕ) (low high w : ℕ) → low ≤ high → high < 2 ^ 32 → words ≡ map word_at (range_with_len low (high - low + 1))
    → Contains words w → IsBetween low high w
listed_are_between words low high w up fits is has =
    let listed : Contains (map word_at (range_with_len low (high - low + 1))) w = subst (λ (ws : List ℕ). Contains ws w) is has in
    let within : listed.0 < high - low + 1 = omega (arith, listed.1, length-map-range_with_len word_at low (high - low + 1)) in
    let same : w ≡ word_at (low + listed.0) = sym listed.2 ∙ get_or-map-range_with_len word_at low (high - low + 1) listed.0 (low + listed.0) w within refl in
    let at : place_of (word_at (low + listed.0)) ≡ low + listed.0 = place_of-word_at (low + listed.0) (omega arith) in
    rw same (omega arith, omega arith)

-- the words between two places are those at the places between
pub between_are_listed : (words : List ℕ) (low high w : ℕ) → low ≤ high → words ≡ map word_at (range_with_len low (high - low + 1)) → w < 2 ^ 32
    → IsBetween low high w → Contains words w
between_are_listed words low high w up is word between =
    let index : place_of w - low < high - low + 1 = omega arith in
    let length_is : length (map word_at (range_with_len low (high - low + 1))) ≡ high - low + 1 = length-map-range_with_len word_at low (high - low + 1) in
    subst (λ (ws : List ℕ). Contains ws w) (sym is) (
      place_of w - low,
      omega arith,
      get_or-map-range_with_len word_at low (high - low + 1) (place_of w - low)
          (place_of w) w index (omega arith) ∙ word_at-place_of w word,
    )
