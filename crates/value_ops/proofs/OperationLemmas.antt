-- Operations on values cover the results on words, and are monotone.
use Rattle.std.proofs.Common.{◌≡◌, ℕ, zero, suc, ◌%◌, ◌^◌, ◌<◌, ◌≤◌, ◌⊎◌, ◌&&◌, Bool, true, false, cond, List, [], ◌∷◌, Option, Some, None, MatchOption}
use Rattle.std.proofs.Common.{refl, sym, ap, subst, ◌∙◌, inl, inr, arith, All, Contains}
use Rattle.std.specs.Prelude.{bit_and, bit_or, bit_xor}
use Rattle.std.specs.List.Sorted.{IsStrictlyIncreasing}
use Rattle.std.proofs.Math.Nat.{div-le_self}
use Rattle.std.proofs.lemmas.Bool.{false≢true, true≢false, both_ways, and_parts, and_from, eqb-true}
use Rattle.std.proofs.lemmas.Nat.{and_le_l, and_le_r, or_of_32, xor_of_32, or_disjoint}
use Rattle.std.proofs.lemmas.List.Elements.{All-contains}
use Rattle.value_lattice.specs.Ends.{AreEnds, AreEndsOf}
use Rattle.value_lattice.specs.Laws.{AreMore}
use Rattle.value_lattice.specs.Order.{place_of, word_at, rank_of}
use Rattle.value_lattice.specs.Set.{IsSet}
use Rattle.value_lattice.specs.Value.{Has, AtMost, IsValue, IsOver, IsLeast, one_of, is_zero_word, is_zero}
use Rattle.value_lattice.specs.declared.value.Value.{Value}
use Rattle.value_lattice.specs.declared.value.Value.TheVariants.{Words, Range, Ret}
use Rattle.value_lattice.proofs.JoinLemmas.{between_ends, ends_inside, no_ret_in_set}
use Rattle.value_lattice.proofs.SetLemmas.{place_of-word_at, word_at_below}
use Rattle.value_lattice.proofs.ValueLemmas.{no_range_in_set, over_more, same_value}
use Rattle.value_ops.specs.Operation.{result_of, carried_of, copies_left, copies_right, IsPointwise, IsSpanned, IsComputed, IsStep, IsTwice, IsApplied}
use Rattle.value_ops.specs.Row.{IsFilled, all, shifts, row_of, left_shifts, right_shifts, signed_shifts}
use Rattle.value_ops.specs.declared.op.Op.{Op}
use Rattle.value_ops.specs.declared.op.Op.TheVariants.{Add, Sub, And, Or, Xor, Andn, Orn, Xnor, Sll, Srl, Sra, Addx, Subx, Mul}
use Rattle.value_ops.specs.declared.rows.Span.{Span}
use Rattle.value_ops.proofs.RowLemmas.{IsIn, IsWider, in_all, all_is_wider, in_sums, in_differences, in_conjunctions, in_left_conjunctions, in_left_shifts}
use Rattle.value_ops.proofs.RowLemmas.{in_right_shifts, in_signed_shifts, sums_widen, differences_widen, conjunctions_widen, left_conjunctions_widen}
use Rattle.value_ops.proofs.RowLemmas.{left_shifts_widen, right_shifts_widen, signed_shifts_widen, left_shifts_fit, right_shifts_fit, signed_shifts_fit}
use Rattle.value_ops.proofs.ProductLemmas.{in_products, products_widen}
use Rattle.word_ops.specs.Word.{sum_of, difference_of, complement_of, bit_of, shifted_left, shifted_right, shifted_right_signed}

complement_is_word : (x : ℕ) → x < 2 ^ 32 → complement_of x < 2 ^ 32
complement_is_word x word = xor_of_32 x 4294967295 word (omega arith)

-- the result on words is a word
pub result_is_word : (op : Op) (carry : Bool) (x y : ℕ) → x < 2 ^ 32 → y < 2 ^ 32 → result_of op carry x y < 2 ^ 32
result_is_word Add carry x y xw yw = omega arith
result_is_word Sub carry x y xw yw = omega arith
result_is_word And carry x y xw yw = omega (arith, and_le_l x y)
result_is_word Or carry x y xw yw = or_of_32 x y xw yw
result_is_word Xor carry x y xw yw = xor_of_32 x y xw yw
result_is_word Andn carry x y xw yw = omega (arith, and_le_l x (complement_of y))
result_is_word Orn carry x y xw yw = or_of_32 x (complement_of y) xw (complement_is_word y yw)
result_is_word Xnor carry x y xw yw = complement_is_word (bit_xor x y) (xor_of_32 x y xw yw)
result_is_word Sll carry x y xw yw = omega arith
result_is_word Srl carry x y xw yw = omega (arith, div-le_self x (2 ^ (y % 32)))
result_is_word Sra carry x y xw yw = omega arith
result_is_word Addx carry x y xw yw = omega arith
result_is_word Subx carry x y xw yw = omega arith
result_is_word Mul carry x y xw yw = omega arith

-- a value that is one word has no other
pub one_word : (v : Value) (y ra n : ℕ) → one_of v ≡ Some n → Has v y ra → y ≡ n
one_word (Words []) y ra n is has = cc
one_word (Words (w ∷ [])) y ra n is (zero, within, at) = cc
one_word (Words (w ∷ [])) y ra n is (suc k, within, at) = absurd (omega arith)
one_word (Words (w ∷ v ∷ rest)) y ra n is has = cc
one_word (Range lo hi) y ra n is has = cc
one_word Ret y ra n is has = cc

zero_is_one : (o : Option ℕ) → is_zero_word o ≡ true → o ≡ Some 0
zero_is_one None is = absurd (false≢true is)
zero_is_one (Some w) is = ap (λ (n : ℕ). Some n) (eqb-true w 0 is)

zero_word : (v : Value) (y ra : ℕ) → is_zero v ≡ true → Has v y ra → y ≡ 0
zero_word v y ra is has = one_word v y ra 0 (zero_is_one (one_of v) is) has

-- the results of words are in the row of their spans
shift_in : (by : ℕ → Span → Span) (of : ℕ → ℕ → ℕ) (o : Option ℕ) (a : Span) (x y : ℕ) → ((n : ℕ) → o ≡ Some n → y ≡ n)
    → ((n : ℕ) → IsIn (by (n % 32) a) (of x n)) → IsIn (shifts by o a) (of x y)
shift_in by of None a x y one each = in_all (of x y)
shift_in by of (Some n) a x y one each = subst (λ (m : ℕ). IsIn (by (n % 32) a) (of x m)) (sym (one n refl)) (each n)

-- a row has the result for words of its sources
pub row_covers : (op : Op) (o : Option ℕ) (a b : Span) (carry : Bool) (x y : ℕ) → a.high < 2 ^ 32 → b.high < 2 ^ 32 → x < 2 ^ 32 → y < 2 ^ 32 → IsIn a x
    → IsIn b y → ((n : ℕ) → o ≡ Some n → y ≡ n) → IsIn (row_of op o a b) (result_of op carry x y)
row_covers Add o a b carry x y fa fb xw yw in_a in_b one = in_sums a b x y xw yw in_a in_b
row_covers Sub o a b carry x y fa fb xw yw in_a in_b one = in_differences a b x y xw yw in_a in_b
row_covers And o a b carry x y fa fb xw yw in_a in_b one = in_conjunctions a b x y xw yw in_a in_b
row_covers Andn o a b carry x y fa fb xw yw in_a in_b one = in_left_conjunctions a x (complement_of y) xw in_a
row_covers Sll o a b carry x y fa fb xw yw in_a in_b one = shift_in left_shifts shifted_left o a x y one (λ n. in_left_shifts (n % 32) a x xw in_a)
row_covers Srl o a b carry x y fa fb xw yw in_a in_b one = shift_in right_shifts shifted_right o a x y one
    (λ n. in_right_shifts (n % 32) a x (omega arith) xw in_a)
row_covers Sra o a b carry x y fa fb xw yw in_a in_b one = shift_in signed_shifts shifted_right_signed o a x y one
    (λ n. in_signed_shifts (n % 32) a x (omega arith) in_a)
row_covers Or o a b carry x y fa fb xw yw in_a in_b one = in_all (result_of Or carry x y)
row_covers Xor o a b carry x y fa fb xw yw in_a in_b one = in_all (result_of Xor carry x y)
row_covers Orn o a b carry x y fa fb xw yw in_a in_b one = in_all (result_of Orn carry x y)
row_covers Xnor o a b carry x y fa fb xw yw in_a in_b one = in_all (result_of Xnor carry x y)
row_covers Addx o a b carry x y fa fb xw yw in_a in_b one = in_all (result_of Addx carry x y)
row_covers Subx o a b carry x y fa fb xw yw in_a in_b one = in_all (result_of Subx carry x y)
row_covers Mul o a b carry x y fa fb xw yw in_a in_b one = in_products a b x y fa fb xw yw in_a in_b

-- what a value has is in its span
pub in_span : (v : Value) (s : Span) (x ra : ℕ) → AreEnds v s.low s.high → x < 2 ^ 32 → Has v x ra → IsIn s x
in_span v s x ra ends word has = let between = between_ends v s.low s.high x ra ends word has in record { above = between.0; below = between.1 }

spanned_covers : (t : List ℕ) (op : Op) (a b v : Value) (x y ra : ℕ) → IsSpanned t op a b v → x < 2 ^ 32 → y < 2 ^ 32 → ra < 2 ^ 32 → Has a x ra → Has b y ra
    → Has v (result_of op false x y) ra
spanned_covers t op a b v x y ra s xw yw address has_x has_y =
    let within : IsIn (row_of op (one_of b) s.from s.by) (result_of op false x y) = row_covers op (one_of b) s.from s.by false x y s.left_word s.right_word xw
    yw (in_span a s.from x ra s.left xw has_x) (in_span b s.by y ra s.right yw has_y) (λ n is. one_word b y ra n is has_y) in
    s.span.each.words (result_of op false x y) ra (result_is_word op false x y xw yw) address (within.above, within.below)

computed_covers : (t : List ℕ) (op : Op) (a b v : Value) (x y ra : ℕ) → IsComputed t op a b v → x < 2 ^ 32 → y < 2 ^ 32 → ra < 2 ^ 32 → Has a x ra
    → Has b y ra → Has v (result_of op false x y) ra
computed_covers t op (Words xs) (Words ys) v x y ra least xw yw address has_x has_y =
    least.each.words (result_of op false x y) ra (result_is_word op false x y xw yw) address
    (record { first = x; second = y; left = has_x; right = has_y; is = refl })
computed_covers t op (Words xs) (Range lo hi) v x y ra s xw yw address has_x has_y = spanned_covers t op (Words xs)
    (Range lo hi) v x y ra s xw yw address has_x has_y
computed_covers t op (Words xs) Ret v x y ra s xw yw address has_x has_y = spanned_covers t op (Words xs) Ret v x y ra s xw yw address has_x has_y
computed_covers t op (Range lo hi) b v x y ra s xw yw address has_x has_y = spanned_covers t op (Range lo hi) b v x y ra s xw yw address has_x has_y
computed_covers t op Ret b v x y ra s xw yw address has_x has_y = spanned_covers t op Ret b v x y ra s xw yw address has_x has_y

-- what a step came by
copy_cases : {V : Type 0} (l r : Bool) (a b v : V) (C : Type 0) → MatchOption (cond l (Some a) (cond r (Some b) None)) C (λ c. v ≡ c)
    → ((l ≡ true) × (v ≡ a)) ⊎ (((r ≡ true) × (v ≡ b)) ⊎ ((l ≡ false) × (r ≡ false) × C))
copy_cases true r a b v C h = inl (refl, h)
copy_cases false true a b v C h = inr (inl (refl, h))
copy_cases false false a b v C h = inr (inr (refl, refl, h))

pub step_cases : (t : List ℕ) (op : Op) (a b v : Value) → IsStep t op a b v
    → (((copies_left op && is_zero b) ≡ true) × (v ≡ a)) ⊎
    ((((copies_right op && is_zero a) ≡ true) × (v ≡ b)) ⊎ (((copies_left op && is_zero b) ≡ false) × ((copies_right op && is_zero a) ≡ false) × IsComputed t
    op a b v))
step_cases t op a b v step = copy_cases (copies_left op && is_zero b) (copies_right op && is_zero a) a b v (IsComputed t op a b v) step

or_zero : (x : ℕ) → bit_or x 0 ≡ x
or_zero x = let none : bit_and x 0 ≡ 0 = omega (arith, and_le_r x 0) in or_disjoint x 0 none ∙ omega arith

zero_or : (y : ℕ) → bit_or 0 y ≡ y
zero_or y = let none : bit_and 0 y ≡ 0 = omega (arith, and_le_l 0 y) in or_disjoint 0 y none ∙ omega arith

left_stays : (op : Op) (x : ℕ) → copies_left op ≡ true → x < 2 ^ 32 → result_of op false x 0 ≡ x
left_stays Add x copies word = omega arith
left_stays Or x copies word = or_zero x
left_stays Sub x copies word = omega arith
left_stays And x copies word = absurd (false≢true copies)
left_stays Xor x copies word = absurd (false≢true copies)
left_stays Andn x copies word = absurd (false≢true copies)
left_stays Orn x copies word = absurd (false≢true copies)
left_stays Xnor x copies word = absurd (false≢true copies)
left_stays Sll x copies word = absurd (false≢true copies)
left_stays Srl x copies word = absurd (false≢true copies)
left_stays Sra x copies word = absurd (false≢true copies)
left_stays Addx x copies word = absurd (false≢true copies)
left_stays Subx x copies word = absurd (false≢true copies)
left_stays Mul x copies word = absurd (false≢true copies)

right_stays : (op : Op) (y : ℕ) → copies_right op ≡ true → y < 2 ^ 32 → result_of op false 0 y ≡ y
right_stays Add y copies word = omega arith
right_stays Or y copies word = zero_or y
right_stays Sub y copies word = absurd (false≢true copies)
right_stays And y copies word = absurd (false≢true copies)
right_stays Xor y copies word = absurd (false≢true copies)
right_stays Andn y copies word = absurd (false≢true copies)
right_stays Orn y copies word = absurd (false≢true copies)
right_stays Xnor y copies word = absurd (false≢true copies)
right_stays Sll y copies word = absurd (false≢true copies)
right_stays Srl y copies word = absurd (false≢true copies)
right_stays Sra y copies word = absurd (false≢true copies)
right_stays Addx y copies word = absurd (false≢true copies)
right_stays Subx y copies word = absurd (false≢true copies)
right_stays Mul y copies word = absurd (false≢true copies)

pub step_covers : (t : List ℕ) (op : Op) (a b v : Value) (x y ra : ℕ) → IsStep t op a b v → x < 2 ^ 32 → y < 2 ^ 32 → ra < 2 ^ 32 → Has a x ra → Has b y ra
    → Has v (result_of op false x y) ra
step_covers t op a b v x y ra step xw yw address has_x has_y =
    elim (step_cases t op a b v step) [
      | inl left ↦
          let parts = and_parts (copies_left op) (is_zero b) left.0 in
          let none : y ≡ 0 = zero_word b y ra parts.1 has_y in
          let is : result_of op false x y ≡ x = ap (result_of op false x) none ∙ left_stays op x parts.0 xw in
          rw (is, left.1) has_x
      | inr (inl right) ↦
          let parts = and_parts (copies_right op) (is_zero a) right.0 in
          let none : x ≡ 0 = zero_word a x ra parts.1 has_x in
          let is : result_of op false x y ≡ y = ap (λ (n : ℕ). result_of op false n y) none ∙ right_stays op y parts.0 yw in
          rw (is, right.1) has_y
      | inr (inr computed) ↦ computed_covers t op a b v x y ra computed.2 xw yw address has_x has_y
    ]

-- what is computed is over the thresholds
computed_over : (t : List ℕ) (op : Op) (a b v : Value) → IsComputed t op a b v → IsOver t v
computed_over t op (Words xs) (Words ys) v least = least.over
computed_over t op (Words xs) (Range lo hi) v s = s.span.over
computed_over t op (Words xs) Ret v s = s.span.over
computed_over t op (Range lo hi) b v s = s.span.over
computed_over t op Ret b v s = s.span.over

-- an operation that reads no carry gives a value over the thresholds
pub step_over : (t : List ℕ) (op : Op) (a b v : Value) → IsOver t a → IsOver t b → IsStep t op a b v → IsOver t v
step_over t op a b v over_a over_b step =
    elim (step_cases t op a b v step) [
      | inl left ↦ rw left.1 over_a
      | inr (inl right) ↦ rw right.1 over_b
      | inr (inr computed) ↦ computed_over t op a b v computed.2
    ]

-- 0 or 1
pub carry_set : IsSet (0 ∷ 1 ∷ [])
carry_set = record { some = omega arith; few = omega arith; rising = rises; fits = fit } where
  rises : IsStrictlyIncreasing (0 ∷ 1 ∷ [])
  rises zero within = omega arith
  rises (suc k) within = absurd (omega arith)

  fit : All (λ w. w < 2 ^ 32) (0 ∷ 1 ∷ [])
  fit zero d within = omega arith
  fit (suc zero) d within = omega arith
  fit (suc (suc k)) d within = absurd (omega arith)

has_carry : (carry : Bool) → Contains (0 ∷ 1 ∷ []) (bit_of carry)
has_carry false = (0, omega arith, refl)
has_carry true = (1, omega arith, refl)

carried_sum : (carry : Bool) (x y : ℕ) → sum_of (sum_of x y false) (bit_of carry) false ≡ sum_of x y carry
carried_sum false x y = omega arith
carried_sum true x y = omega arith

carried_difference : (carry : Bool) (x y : ℕ) → x < 2 ^ 32 → y < 2 ^ 32 → difference_of (difference_of x y false) (bit_of carry) false ≡ difference_of x y carry
carried_difference false x y xw yw = omega arith
carried_difference true x y xw yw = omega arith

bit_is_word : (carry : Bool) → bit_of carry < 2 ^ 32
bit_is_word false = omega arith
bit_is_word true = omega arith

pub twice_covers : (t : List ℕ) (op : Op) (a b v : Value) (carry : Bool) (x y ra : ℕ) → IsTwice t op a b v → x < 2 ^ 32 → y < 2 ^ 32 → ra < 2 ^ 32
    → Has a x ra → Has b y ra → Has v (result_of op false (result_of op false x y) (bit_of carry)) ra
twice_covers t op a b v carry x y ra twice xw yw address has_x has_y =
    step_covers t op twice.between (Words (0 ∷ 1 ∷ [])) v (result_of op false x y) (bit_of carry) ra twice.second (result_is_word op false x y xw yw)
    (bit_is_word carry) address (step_covers t op a b twice.between x y ra twice.first xw yw address has_x has_y) (has_carry carry)

-- the result for words of the sides, with any carry, is one of the result
pub applied_covers : (t : List ℕ) (op : Op) (a b v : Value) (carry : Bool) (x y ra : ℕ) → IsOver t a → IsOver t b → IsApplied t op a b v → x < 2 ^ 32
    → y < 2 ^ 32 → ra < 2 ^ 32 → Has a x ra → Has b y ra → Has v (result_of op carry x y) ra
applied_covers t Add a b v carry x y ra over_a over_b step xw yw address has_x has_y = step_covers t Add a b v x y ra step xw yw address has_x has_y
applied_covers t Sub a b v carry x y ra over_a over_b step xw yw address has_x has_y = step_covers t Sub a b v x y ra step xw yw address has_x has_y
applied_covers t And a b v carry x y ra over_a over_b step xw yw address has_x has_y = step_covers t And a b v x y ra step xw yw address has_x has_y
applied_covers t Or a b v carry x y ra over_a over_b step xw yw address has_x has_y = step_covers t Or a b v x y ra step xw yw address has_x has_y
applied_covers t Xor a b v carry x y ra over_a over_b step xw yw address has_x has_y = step_covers t Xor a b v x y ra step xw yw address has_x has_y
applied_covers t Andn a b v carry x y ra over_a over_b step xw yw address has_x has_y = step_covers t Andn a b v x y ra step xw yw address has_x has_y
applied_covers t Orn a b v carry x y ra over_a over_b step xw yw address has_x has_y = step_covers t Orn a b v x y ra step xw yw address has_x has_y
applied_covers t Xnor a b v carry x y ra over_a over_b step xw yw address has_x has_y = step_covers t Xnor a b v x y ra step xw yw address has_x has_y
applied_covers t Sll a b v carry x y ra over_a over_b step xw yw address has_x has_y = step_covers t Sll a b v x y ra step xw yw address has_x has_y
applied_covers t Srl a b v carry x y ra over_a over_b step xw yw address has_x has_y = step_covers t Srl a b v x y ra step xw yw address has_x has_y
applied_covers t Sra a b v carry x y ra over_a over_b step xw yw address has_x has_y = step_covers t Sra a b v x y ra step xw yw address has_x has_y
applied_covers t Addx a b v carry x y ra over_a over_b twice xw yw address has_x has_y = subst (λ (w : ℕ). Has v w ra) (carried_sum carry x y)
    (twice_covers t Add a b v carry x y ra twice xw yw address has_x has_y)
applied_covers t Mul a b v carry x y ra over_a over_b step xw yw address has_x has_y = step_covers t Mul a b v x y ra step xw yw address has_x has_y
applied_covers t Subx a b v carry x y ra over_a over_b twice xw yw address has_x has_y = subst (λ (w : ℕ). Has v w ra) (carried_difference carry x y xw yw)
    (twice_covers t Sub a b v carry x y ra twice xw yw address has_x has_y)

-- monotone

-- whether two values are both sets
abbrev are_sets : Value → Value → Bool
are_sets (Words xs) (Words ys) = true
are_sets (Words xs) (Range lo hi) = false
are_sets (Words xs) Ret = false
are_sets (Range lo hi) b = false
are_sets Ret b = false

spanned_unless_sets : (t : List ℕ) (op : Op) (a b v : Value) → are_sets a b ≡ false → IsComputed t op a b v → IsSpanned t op a b v
spanned_unless_sets t op (Words xs) (Words ys) v apart computed = absurd (true≢false apart)
spanned_unless_sets t op (Words xs) (Range lo hi) v apart s = s
spanned_unless_sets t op (Words xs) Ret v apart s = s
spanned_unless_sets t op (Range lo hi) b v apart s = s
spanned_unless_sets t op Ret b v apart s = s

-- what is at most a set is one
data IsWords (v : Value) : Type 0 where
  words_are : (words : List ℕ) → v ≡ Words words → IsWords v

set_below : (c : Value) (xs : List ℕ) → IsValue c → IsSet xs → AtMost c (Words xs) → IsWords c
set_below (Words words) xs value set below = words_are words refl
set_below (Range lo hi) xs value set below = absurd (no_range_in_set lo hi xs value set below)
set_below Ret xs value set below = absurd (no_ret_in_set xs set below)

no_sets_below : (a b c d : Value) → IsValue a → IsValue b → IsValue c → IsValue d → AtMost c a → AtMost d b → are_sets c d ≡ false → are_sets a b ≡ false
no_sets_below (Words xs) (Words ys) c d va vb vc vd left right apart =
    elim (set_below c xs vc va left) [
      | words_are cs c_is ↦
          elim (set_below d ys vd vb right) [
            | words_are ds d_is ↦ absurd
                (true≢false (ap (λ (v : Value). are_sets (Words cs) v) (sym d_is) ∙ ap (λ (v : Value). are_sets v d) (sym c_is) ∙ apart))
          ]
    ]
no_sets_below (Words xs) (Range lo hi) c d va vb vc vd left right apart = refl
no_sets_below (Words xs) Ret c d va vb vc vd left right apart = refl
no_sets_below (Range lo hi) b c d va vb vc vd left right apart = refl
no_sets_below Ret b c d va vb vc vd left right apart = refl

-- what is at most one word is that word
one_below : (d b : Value) (n : ℕ) → IsValue d → IsValue b → AtMost d b → one_of b ≡ Some n → one_of d ≡ Some n
one_below (Words []) b n vd vb below is = absurd (omega (arith, vd.some))
one_below (Words (w ∷ [])) b n vd vb below is =
    let word : w < 2 ^ 32 = vd.fits 0 0 (omega arith) in
    let same : w ≡ n = one_word b w 0 n is (below.words w 0 word (omega arith) (0, omega arith, refl)) in
    ap (λ (m : ℕ). Some m) same
one_below (Words (w ∷ v ∷ rest)) b n vd vb below is =
    let first_word : w < 2 ^ 32 = vd.fits 0 0 (omega arith) in
    let second_word : v < 2 ^ 32 = vd.fits 1 0 (omega arith) in
    let first : w ≡ n = one_word b w 0 n is (below.words w 0 first_word (omega arith) (0, omega arith, refl)) in
    let second : v ≡ n = one_word b v 0 n is (below.words v 0 second_word (omega arith) (1, omega arith, refl)) in
    let up : w < v = vd.rising 0 (omega arith) in
    absurd (omega arith)
one_below (Range lo hi) (Words ys) n vd vb below is = absurd (no_range_in_set lo hi ys vd vb below)
one_below (Range lo hi) (Range first last) n vd vb below is = cc
one_below (Range lo hi) Ret n vd vb below is = cc
one_below Ret (Words ys) n vd vb below is = absurd (no_ret_in_set ys vb below)
one_below Ret (Range first last) n vd vb below is = cc
one_below Ret Ret n vd vb below is = cc

zero_below : (d b : Value) → IsValue d → IsValue b → AtMost d b → is_zero b ≡ true → is_zero d ≡ true
zero_below d b vd vb below is = ap is_zero_word (one_below d b 0 vd vb below (zero_is_one (one_of b) is))

-- the ends of what is at most a value are between its own
ends_widen : (t : List ℕ) (a c : Value) (low high least greatest : ℕ) → IsValue a → IsOver t c → AtMost c a → AreEnds c low high → high < 2 ^ 32 → low ≤ high
    → AreEnds a least greatest → (least ≤ low) × (high ≤ greatest)
ends_widen t (Words xs) c low high least greatest va oc below ends fits filled wide =
    elim (set_below c xs oc.value va below) [
      | words_are ws is ↦
          let inner : AreEndsOf ws low high = subst (λ (v : Value). AreEnds v low high) is ends in
          let at_low : place_of (word_at low) ≡ low = place_of-word_at low (omega arith) in
          let at_high : place_of (word_at high) ≡ high = place_of-word_at high fits in
          let under = subst (λ (v : Value). AtMost v (Words xs)) is below in
          let low_in : Contains xs (word_at low) = under.words (word_at low) 0 (word_at_below low) (omega arith) inner.least in
          let high_in : Contains xs (word_at high) = under.words (word_at high) 0 (word_at_below high) (omega arith) inner.greatest in
          let low_between = wide.between (word_at low) low_in in
          let high_between = wide.between (word_at high) high_in in
          (omega (arith, low_between, at_low), omega (arith, high_between, at_high))
    ]
ends_widen t (Range lo hi) c low high least greatest va oc below ends fits filled wide =
    let inside : (rank_of lo ≤ low) × (high ≤ rank_of hi) = ends_inside t c low high lo hi oc ends (omega arith) fits below in
    (omega (arith, inside, wide), omega (arith, inside, wide))
ends_widen t Ret c low high least greatest va oc below ends fits filled wide = (omega (arith, wide), omega (arith, wide))

-- the ends of a value are in order
pub ends_filled : (v : Value) (low high : ℕ) → IsValue v → AreEnds v low high → low ≤ high
ends_filled (Words []) low high value ends = absurd (omega (arith, value.some))
ends_filled (Words (w ∷ rest)) low high value ends = let between = ends.between w (0, omega arith, refl) in omega (arith, between)
ends_filled (Range lo hi) low high value ends = omega (arith, ends, value.2)
ends_filled Ret low high value ends = omega (arith, ends)

-- wider spans give wider rows
shifts_widen : (by : ℕ → Span → Span) (wide narrow : Option ℕ) (a c : Span) → ((n : ℕ) → wide ≡ Some n → narrow ≡ Some n)
    → ((n : ℕ) → IsWider (by (n % 32) c) (by (n % 32) a)) → ((n : ℕ) → (by (n % 32) c).high < 2 ^ 32) → IsWider (shifts by narrow c) (shifts by wide a)
shifts_widen by None None a c same each fits = all_is_wider all (omega arith)
shifts_widen by None (Some n) a c same each fits = all_is_wider (by (n % 32) c) (fits n)
shifts_widen by (Some n) narrow a c same each fits = rw (same n refl) (each n)

row_widens : (op : Op) (wide narrow : Option ℕ) (a b c d : Span) → ((n : ℕ) → wide ≡ Some n → narrow ≡ Some n) → IsFilled a → IsFilled b → IsFilled c
    → IsFilled d → a.high < 2 ^ 32 → b.high < 2 ^ 32 → c.high < 2 ^ 32 → d.high < 2 ^ 32 → IsWider c a → IsWider d b
    → IsWider (row_of op narrow c d) (row_of op wide a b)
row_widens Add wide narrow a b c d same fa fb fc fd wa wb wc wd ca db = sums_widen a b c d fa fb fc fd ca db
row_widens Sub wide narrow a b c d same fa fb fc fd wa wb wc wd ca db = differences_widen a b c d fa fb fc fd ca db
row_widens And wide narrow a b c d same fa fb fc fd wa wb wc wd ca db = conjunctions_widen a b c d wc wd ca db
row_widens Andn wide narrow a b c d same fa fb fc fd wa wb wc wd ca db = left_conjunctions_widen a c wc ca
row_widens Sll wide narrow a b c d same fa fb fc fd wa wb wc wd ca db = shifts_widen left_shifts wide narrow a c same
    (λ n. left_shifts_widen (n % 32) a c fc ca) (λ n. left_shifts_fit (n % 32) c)
row_widens Srl wide narrow a b c d same fa fb fc fd wa wb wc wd ca db = shifts_widen right_shifts wide narrow a c same
    (λ n. right_shifts_widen (n % 32) a c (omega arith) fc wc ca) (λ n. right_shifts_fit (n % 32) c wc)
row_widens Sra wide narrow a b c d same fa fb fc fd wa wb wc wd ca db = shifts_widen signed_shifts wide narrow a c same
    (λ n. signed_shifts_widen (n % 32) a c ca) (λ n. signed_shifts_fit (n % 32) c (omega arith) wc)
row_widens Or wide narrow a b c d same fa fb fc fd wa wb wc wd ca db = all_is_wider all (omega arith)
row_widens Xor wide narrow a b c d same fa fb fc fd wa wb wc wd ca db = all_is_wider all (omega arith)
row_widens Orn wide narrow a b c d same fa fb fc fd wa wb wc wd ca db = all_is_wider all (omega arith)
row_widens Xnor wide narrow a b c d same fa fb fc fd wa wb wc wd ca db = all_is_wider all (omega arith)
row_widens Addx wide narrow a b c d same fa fb fc fd wa wb wc wd ca db = all_is_wider all (omega arith)
row_widens Subx wide narrow a b c d same fa fb fc fd wa wb wc wd ca db = all_is_wider all (omega arith)
row_widens Mul wide narrow a b c d same fa fb fc fd wa wb wc wd ca db = products_widen a b c d wa wb fc fd ca db

-- two results computed from ends
spanned_is_monotone : (t more : List ℕ) (op : Op) (a b c d v u : Value) → AreMore t more → IsOver t a → IsOver t b → IsOver more c → IsOver more d
    → AtMost c a → AtMost d b → IsSpanned t op a b v → IsSpanned more op c d u → AtMost u v
spanned_is_monotone t more op a b c d v u in_more oa ob oc od left right wide narrow =
    let fc : narrow.from.low ≤ narrow.from.high = ends_filled c narrow.from.low narrow.from.high oc.value narrow.left in
    let fd : narrow.by.low ≤ narrow.by.high = ends_filled d narrow.by.low narrow.by.high od.value narrow.right in
    let fa : wide.from.low ≤ wide.from.high = ends_filled a wide.from.low wide.from.high oa.value wide.left in
    let fb : wide.by.low ≤ wide.by.high = ends_filled b wide.by.low wide.by.high ob.value wide.right in
    let ca = ends_widen more a c narrow.from.low narrow.from.high wide.from.low wide.from.high oa.value oc left narrow.left narrow.left_word fc wide.left in
    let db = ends_widen more b d narrow.by.low narrow.by.high wide.by.low wide.by.high ob.value od right narrow.right narrow.right_word fd wide.right in
    let wider : IsWider (row_of op (one_of d) narrow.from narrow.by) (row_of op (one_of b) wide.from wide.by) =
    row_widens op (one_of b) (one_of d) wide.from wide.by narrow.from narrow.by
    (λ n is. one_below d b n od.value ob.value right is) fa fb fc fd wide.left_word wide.right_word narrow.left_word narrow.right_word
    (record { low = ca.0; high = ca.1 }) (record { low = db.0; high = db.1 }) in
    narrow.span.least v (over_more t more v in_more.thresholds wide.span.over)
    (record {
      words = λ w ra word address between. wide.span.each.words w ra word address
          (omega (arith, between, wider.low), omega (arith, between, wider.high));
    })

-- a result for words of two sets is in what is computed from more
pointwise_in : {more : List ℕ} (t : List ℕ) (op : Op) (a b v : Value) (xs ys : List ℕ) (w ra : ℕ) → IsOver more (Words xs) → IsOver more (Words ys)
    → AtMost (Words xs) a → AtMost (Words ys) b → IsComputed t op a b v → ra < 2 ^ 32 → IsPointwise op xs ys w → Has v w ra
pointwise_in t op a b v xs ys w ra oc od left right wide address pair =
    let x_word : pair.first < 2 ^ 32 = All-contains (λ w. w < 2 ^ 32) xs pair.first oc.value.fits pair.left in
    let y_word : pair.second < 2 ^ 32 = All-contains (λ w. w < 2 ^ 32) ys pair.second od.value.fits pair.right in
    subst (λ (r : ℕ). Has v r ra) (sym pair.is) (computed_covers t op a b v pair.first pair.second ra wide x_word y_word address
    (left.words pair.first ra x_word address pair.left) (right.words pair.second ra y_word address pair.right))

-- a result computed from two values is at most one computed from others
computed_is_monotone : (t more : List ℕ) (op : Op) (a b c d v u : Value) → AreMore t more → IsOver t a → IsOver t b → IsOver more c → IsOver more d
    → AtMost c a → AtMost d b → IsComputed t op a b v → IsComputed more op c d u → AtMost u v
computed_is_monotone t more op a b (Words xs) (Words ys) v u in_more oa ob oc od left right wide narrow =
    narrow.least v (over_more t more v in_more.thresholds (computed_over t op a b v wide))
    (record { words = λ w ra word address pair. pointwise_in t op a b v xs ys w ra oc od left right wide address pair })
computed_is_monotone t more op a b (Words xs) (Range lo hi) v u in_more oa ob oc od left right wide narrow =
    spanned_is_monotone t more op a b (Words xs) (Range lo hi) v u in_more oa ob oc od left right
    (spanned_unless_sets t op a b v (no_sets_below a b (Words xs) (Range lo hi) oa.value ob.value oc.value od.value left right refl) wide) narrow
computed_is_monotone t more op a b (Words xs) Ret v u in_more oa ob oc od left right wide narrow =
    spanned_is_monotone t more op a b (Words xs) Ret v u in_more oa ob oc od left right
    (spanned_unless_sets t op a b v (no_sets_below a b (Words xs) Ret oa.value ob.value oc.value od.value left right refl) wide) narrow
computed_is_monotone t more op a b (Range lo hi) d v u in_more oa ob oc od left right wide narrow =
    spanned_is_monotone t more op a b (Range lo hi) d v u in_more oa ob oc od left right
    (spanned_unless_sets t op a b v (no_sets_below a b (Range lo hi) d oa.value ob.value oc.value od.value left right refl) wide) narrow
computed_is_monotone t more op a b Ret d v u in_more oa ob oc od left right wide narrow =
    spanned_is_monotone t more op a b Ret d v u in_more oa ob oc od left right
    (spanned_unless_sets t op a b v (no_sets_below a b Ret d oa.value ob.value oc.value od.value left right refl) wide) narrow

-- a value that is exactly 0 has the word 0
zero_has : (v : Value) (ra : ℕ) → IsValue v → is_zero v ≡ true → Has v 0 ra
zero_has (Words []) ra value is = absurd (false≢true is)
zero_has (Words (w ∷ [])) ra value is = (0, omega arith, eqb-true w 0 is)
zero_has (Words (w ∷ v ∷ rest)) ra value is = absurd (false≢true is)
zero_has (Range lo hi) ra value is = absurd (false≢true is)
zero_has Ret ra value is = absurd (false≢true is)

pub step_is_monotone : (t more : List ℕ) (op : Op) (a b c d v u : Value) → AreMore t more → IsOver t a → IsOver t b → IsOver more c → IsOver more d
    → AtMost c a → AtMost d b → IsStep t op a b v → IsStep more op c d u → AtMost u v
step_is_monotone t more op a b c d v u in_more oa ob oc od left right wide narrow =
    elim (step_cases more op c d u narrow) [
      | inl copied ↦
          let parts = and_parts (copies_left op) (is_zero d) copied.0 in
          record {
            words = λ w ra word address has.
                let none = zero_has d ra od.value parts.1 in
                let covers : Has v (result_of op false w 0) ra = step_covers t op a b v w 0 ra wide word (omega arith) address
                (left.words w ra word address (subst (λ (s : Value). Has s w ra) copied.1 has)) (right.words 0 ra (omega arith) address none) in
                subst (λ (r : ℕ). Has v r ra) (left_stays op w parts.0 word) covers;
          }
      | inr (inl copied) ↦
          let parts = and_parts (copies_right op) (is_zero c) copied.0 in
          record {
            words = λ w ra word address has.
                let none = zero_has c ra oc.value parts.1 in
                let covers : Has v (result_of op false 0 w) ra = step_covers t op a b v 0 w ra wide (omega arith) word address
                (left.words 0 ra (omega arith) address none) (right.words w ra word address (subst (λ (s : Value). Has s w ra) copied.1 has)) in
                subst (λ (r : ℕ). Has v r ra) (right_stays op w parts.0 word) covers;
          }
      | inr (inr computed) ↦
          elim (step_cases t op a b v wide) [
            | inl copied ↦
                let parts = and_parts (copies_left op) (is_zero b) copied.0 in
                absurd (both_ways (copies_left op && is_zero d) computed.0 (and_from (copies_left op) (is_zero d) parts.0
                (zero_below d b od.value ob.value right parts.1)))
            | inr (inl copied) ↦
                let parts = and_parts (copies_right op) (is_zero a) copied.0 in
                absurd (both_ways (copies_right op && is_zero c) computed.1 (and_from (copies_right op) (is_zero c) parts.0
                (zero_below c a oc.value oa.value left parts.1)))
            | inr (inr other) ↦ computed_is_monotone t more op a b c d v u in_more oa ob oc od left right other.2 computed.2
          ]
    ]

-- the set of 0 and 1 is over any thresholds
pub carry_over : (t : List ℕ) → IsOver t (Words (0 ∷ 1 ∷ []))
carry_over t = record { value = carry_set; ends = tt }

pub twice_is_monotone : (t more : List ℕ) (op : Op) (a b c d v u : Value) → AreMore t more → IsOver t a → IsOver t b → IsOver more c → IsOver more d
    → AtMost c a → AtMost d b → IsTwice t op a b v → IsTwice more op c d u → AtMost u v
twice_is_monotone t more op a b c d v u in_more oa ob oc od left right wide narrow =
    let between : AtMost narrow.between wide.between = step_is_monotone t more op a b c d wide.between narrow.between in_more oa ob oc od left right
    wide.first narrow.first in
    step_is_monotone t more op wide.between (Words (0 ∷ 1 ∷ [])) narrow.between (Words (0 ∷ 1 ∷ [])) v u in_more
    (step_over t op a b wide.between oa ob wide.first) (carry_over t) (step_over more op c d narrow.between oc od narrow.first) (carry_over more) between
    (record { words = λ w ra word address has. has }) wide.second narrow.second

applied_by : (o : Option Op) (t more : List ℕ) (op : Op) (a b c d v u : Value) → AreMore t more → IsOver t a → IsOver t b → IsOver more c → IsOver more d
    → AtMost c a → AtMost d b
    → MatchOption o (IsStep t op a b v) (λ base. IsTwice t base a b v) → MatchOption o (IsStep more op c d u) (λ base. IsTwice more base c d u) → AtMost u v
applied_by None t more op a b c d v u in_more oa ob oc od left right wide narrow = step_is_monotone t more op a b
    c d v u in_more oa ob oc od left right wide narrow
applied_by (Some base) t more op a b c d v u in_more oa ob oc od left right wide narrow = twice_is_monotone t more base a b
    c d v u in_more oa ob oc od left right wide narrow

-- of lesser sides, over more thresholds, a result is at most what it was
pub applied_is_monotone : (t more : List ℕ) (op : Op) (a b c d v u : Value) → AreMore t more → IsOver t a → IsOver t b → IsOver more c → IsOver more d
    → AtMost c a → AtMost d b → IsApplied t op a b v → IsApplied more op c d u → AtMost u v
applied_is_monotone t more op a b c d v u in_more oa ob oc od left right wide narrow = applied_by (carried_of op) t more op a b
    c d v u in_more oa ob oc od left right wide narrow

-- what covers 0 and 1 is the set of both
pub carry_is : (t : List ℕ) (v : Value) → IsLeast t (Contains (0 ∷ 1 ∷ [])) v → v ≡ Words (0 ∷ 1 ∷ [])
carry_is t v least =
    same_value v (Words (0 ∷ 1 ∷ [])) least.over.value carry_set
    (least.least (Words (0 ∷ 1 ∷ [])) (carry_over t) (record { words = λ w ra word address has. has }))
    (record { words = λ w ra word address has. least.each.words w ra word address has })
