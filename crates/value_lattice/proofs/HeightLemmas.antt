-- Heights of values.
use Rattle.std.proofs.Common.{◌≡◌, ℕ, ◌+◌, ◌^◌, ◌<◌, ◌≤◌, true, false, List, [], ◌∷◌, length, refl, inl, inr, arith, Contains, count_by, nat_le}
use Rattle.std.proofs.lemmas.Bool.{cases_lt, le-leb, lt-leb, leb-true, and_from, and_parts, and_left, and_right}
use Rattle.std.proofs.lemmas.List.Elements.{All-contains}
use Rattle.std.proofs.lemmas.List.Sums.{count_by-le-length}
use Rattle.std.specs.Prelude.{ℤ}
use Rattle.value_lattice.specs.Height.{is_between, height, IsBelow, IsChain, IsChainFrom}
use Rattle.value_lattice.specs.Order.{rank_of}
use Rattle.value_lattice.specs.Value.{IsValue, IsOver}
use Rattle.value_lattice.specs.declared.value.Value.{Value}
use Rattle.value_lattice.specs.declared.value.Value.TheVariants.{Words, Range, Ret}
use Rattle.value_lattice.proofs.SetLemmas.{rising_in_part, count_by-lt}
use Rattle.value_lattice.proofs.ValueLemmas.{no_range_in_set, no_set_in_ret, no_range_in_ret, range_in_range}
use Rattle.value_lattice.proofs.JoinLemmas.{no_ret_in_set}

between_yes : (low high k : ℕ) → low ≤ k → k ≤ high → is_between low high k ≡ true
between_yes low high k up down = and_from (nat_le low k) (nat_le k high) (le-leb low k up) (le-leb k high down)

between_below : (low high k : ℕ) → k < low → is_between low high k ≡ false
between_below low high k below = and_left (nat_le low k) (nat_le k high) (lt-leb low k below)

between_above : (low high k : ℕ) → high < k → is_between low high k ≡ false
between_above low high k above = and_right (nat_le low k) (nat_le k high) (lt-leb k high above)

between_wider : (low high first last : ℕ) → first ≤ low → high ≤ last → (k : ℕ) → is_between low high k ≡ true → is_between first last k ≡ true
between_wider low high first last down up k passes =
    let parts = and_parts (nat_le low k) (nat_le k high) passes in
    between_yes first last k (omega (arith, leb-true low k parts.0)) (omega (arith, leb-true k high parts.1))

-- a set has more words than a part of it
set_rises : (xs ys : List ℕ) → IsValue (Words xs) → IsValue (Words ys) → IsBelow (Words xs) (Words ys) → length xs < length ys
set_rises xs ys a b below =
    elim (cases_lt (length xs) (length ys)) [
      | inl longer ↦ longer
      | inr short ↦
          let in_ys : (w : ℕ) → Contains xs w
          → Contains ys w = λ w has. below.up.words w 0 (All-contains (λ w. w < 2 ^ 32) xs w a.fits has) (omega arith) has in
          absurd (below.apart (record { words = λ w ra word address has. rising_in_part xs ys a.rising in_ys short w has }))
    ]

-- a range has more thresholds than a part of it
range_rises : (t : List ℕ) (lo hi first last : ℤ) → IsOver t (Range lo hi) → IsOver t (Range first last) → IsBelow (Range lo hi) (Range first last)
    → count_by (is_between (rank_of lo) (rank_of hi)) t < count_by (is_between (rank_of first) (rank_of last)) t
range_rises t lo hi first last a b below =
    let inside : (rank_of first ≤ rank_of lo) × (rank_of hi ≤ rank_of last) = range_in_range lo hi first last a.value below.up in
    let wider = between_wider (rank_of lo) (rank_of hi) (rank_of first) (rank_of last) inside.0 inside.1 in
    let far : rank_of first + 128 ≤ rank_of last = b.value.2 in
    elim (cases_lt (rank_of first) (rank_of lo)) [
      | inl lower ↦ count_by-lt (is_between (rank_of lo) (rank_of hi)) (is_between (rank_of first) (rank_of last)) wider t (rank_of first) b.ends.0
          (between_below (rank_of lo) (rank_of hi) (rank_of first) lower)
          (between_yes (rank_of first) (rank_of last) (rank_of first) (omega arith) (omega arith))
      | inr same_low ↦
          elim (cases_lt (rank_of hi) (rank_of last)) [
            | inl higher ↦ count_by-lt (is_between (rank_of lo) (rank_of hi)) (is_between (rank_of first) (rank_of last)) wider t (rank_of last) b.ends.1
                (between_above (rank_of lo) (rank_of hi) (rank_of last) higher)
                (between_yes (rank_of first) (rank_of last) (rank_of last) (omega arith) (omega arith))
            | inr same_high ↦ absurd (below.apart (record { words = λ w ra word address has. (omega arith, omega arith) }))
          ]
    ]

-- a range has a threshold
range_counts : (t : List ℕ) (lo hi : ℤ) → IsOver t (Range lo hi) → 0 < count_by (is_between (rank_of lo) (rank_of hi)) t
range_counts t lo hi over =
    let far : rank_of lo + 128 ≤ rank_of hi = over.value.2 in
    let none : (k : ℕ) → false ≡ true → is_between (rank_of lo) (rank_of hi) k ≡ true = λ k no. cc in
    let more : count_by (λ (k : ℕ). false) t < count_by (is_between (rank_of lo) (rank_of hi)) t =
    count_by-lt (λ k. false) (is_between (rank_of lo) (rank_of hi)) none t (rank_of lo) over.ends.0 refl
    (between_yes (rank_of lo) (rank_of hi) (rank_of lo) (omega arith) (omega arith)) in
    omega (arith, more)

-- a value below another has less height
pub rise : (t : List ℕ) (a b : Value) → IsOver t a → IsOver t b → IsBelow a b → height t a < height t b
rise t (Words xs) (Words ys) a b below = set_rises xs ys a.value b.value below
rise t (Words xs) (Range lo hi) a b below = omega (arith, a.value.few, range_counts t lo hi b)
rise t (Words xs) Ret a b below = absurd (no_set_in_ret xs a.value below.up)
rise t (Range lo hi) (Words ys) a b below = absurd (no_range_in_set lo hi ys a.value b.value below.up)
rise t (Range lo hi) (Range first last) a b below = omega (arith, range_rises t lo hi first last a b below)
rise t (Range lo hi) Ret a b below = absurd (no_range_in_ret lo hi a.value below.up)
rise t Ret (Words ys) a b below = absurd (no_ret_in_set ys b.value below.up)
rise t Ret (Range lo hi) a b below = omega arith
rise t Ret Ret a b below = absurd (below.apart below.up)

-- no value is higher than 128 and the number of thresholds
pub bound : (t : List ℕ) (v : Value) → IsOver t v → height t v ≤ 128 + length t
bound t (Words words) over = omega (arith, over.value.few)
bound t (Range lo hi) over = omega (arith, count_by-le-length (is_between (rank_of lo) (rank_of hi)) t)
bound t Ret over = omega arith

-- every value but none has a height
positive : (t : List ℕ) (v : Value) → IsOver t v → 0 < height t v
positive t (Words words) over = over.value.some
positive t (Range lo hi) over = omega arith
positive t Ret over = omega arith

chain_from : (t : List ℕ) (v : Value) (vs : List Value) → IsOver t v → IsChainFrom t v vs → height t v + length vs ≤ 128 + length t
chain_from t v [] over chain = omega (arith, bound t v over)
chain_from t v (u ∷ us) over chain = omega (arith, chain_from t u us chain.0 chain.2, rise t v u over chain.0 chain.1)

-- a chain of rising values is short
pub chain_is_short : (t : List ℕ) (values : List Value) → IsChain t values → length values ≤ 128 + length t
chain_is_short t [] chain = omega arith
chain_is_short t (v ∷ vs) chain = omega (arith, chain_from t v vs chain.0 chain.1, positive t v chain.0)
