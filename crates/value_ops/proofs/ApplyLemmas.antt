-- What an operation comes to, as a function: it is what the relation says, and covers and falls with it.
use Rattle.std.proofs.Common.{◌≡◌, ℕ, ◌^◌, ◌<◌, ◌≤◌, Bool, true, false, List, get_or, Option, Some, None, MatchOption, refl, ap}
use Rattle.std.proofs.Common.{subst, ◌∙◌, arith, Contains}
use Rattle.std.proofs.lemmas.List.Elements.{All-contains, Contains-get_or}
use Rattle.value_lattice.specs.Ends.{AreEnds}
use Rattle.value_lattice.specs.Laws.{AreMore}
use Rattle.value_lattice.specs.Least.{cover}
use Rattle.value_lattice.specs.Test.{is_over, is_at_most}
use Rattle.value_lattice.specs.Thresholds.{IsThresholds}
use Rattle.value_lattice.specs.Value.{Has, IsValue, IsOver, IsLeast, IsBetween, one_of}
use Rattle.value_lattice.specs.declared.value.Value.{Value}
use Rattle.value_lattice.specs.declared.value.Value.TheVariants.{Words, Range, Ret}
use Rattle.value_lattice.proofs.FunctionLemmas.{least_value_is_one, cover_is_least, span_is_least}
use Rattle.value_lattice.proofs.LeastLemmas.{ends_exist, high_fits, value_ends}
use Rattle.value_lattice.proofs.MayLemmas.{HasOne, some_word_of}
use Rattle.value_lattice.proofs.TestLemmas.{over_decides, ordered, at_most_from}
use Rattle.value_ops.specs.Operation.{result_of, carried_of, copied_of, IsPointwise, IsSpanned, IsComputed, IsStep, IsTwice, IsApplied, results, ends_of}
use Rattle.value_ops.specs.Operation.{spanned, computed, found_or, step, carry_value, once_or_twice, apply}
use Rattle.value_ops.specs.Row.{row_of}
use Rattle.value_ops.specs.declared.op.Op.{Op}
use Rattle.value_ops.specs.declared.rows.Span.{Span}
use Rattle.value_ops.proofs.OperationLemmas.{result_is_word, one_word, row_covers, in_span, ends_filled, step_over, carry_over, applied_covers}
use Rattle.value_ops.proofs.OperationLemmas.{applied_is_monotone}
use Rattle.value_ops.proofs.PointwiseLemmas.{pointwise_is_least, pairs_are_results}
use Rattle.value_ops.proofs.RowLemmas.{IsIn}

-- the row of two values has a word
record IsRow (s : Span) : Type 0 where
  up : s.low ≤ s.high
  fits : s.low < 2 ^ 32

row_has_some : (op : Op) (a b : Value) → IsValue a → IsValue b → IsRow (row_of op (one_of b) (ends_of a) (ends_of b))
row_has_some op a b va vb =
    let x : HasOne a = some_word_of a va in
    let y : HasOne b = some_word_of b vb in
    let within : IsIn (row_of op (one_of b) (ends_of a) (ends_of b)) (result_of op false x.word y.word) =
    row_covers op (one_of b) (ends_of a) (ends_of b) false x.word y.word (high_fits a va) (high_fits b vb) x.fits y.fits
    (in_span a (ends_of a) x.word x.word (ends_exist a va) x.fits x.has)
    (in_span b (ends_of b) y.word y.word (ends_exist b vb) y.fits y.has) (λ n is. one_word b y.word y.word n is y.has) in
    record { up = omega (arith, within.above, within.below); fits = omega (arith, within.above) }

spanned_is : (t : List ℕ) (op : Op) (a b : Value) → IsThresholds t → IsValue a → IsValue b → IsSpanned t op a b (spanned t op a b)
spanned_is t op a b is va vb =
    let row : IsRow (row_of op (one_of b) (ends_of a) (ends_of b)) = row_has_some op a b va vb in
    record {
      from = ends_of a;
      by = ends_of b;
      left = ends_exist a va;
      left_word = high_fits a va;
      right = ends_exist b vb;
      right_word = high_fits b vb;
      span = span_is_least t (row_of op (one_of b) (ends_of a) (ends_of b)).low (row_of op (one_of b) (ends_of a) (ends_of b)).high is row.up row.fits;
    }

-- the ends of a value are one
ends_are : (v : Value) (s : Span) → IsValue v → AreEnds v s.low s.high → s.high < 2 ^ 32 → s ≡ ends_of v
ends_are v s value ends fits =
    let same = value_ends v s.low s.high value ends (omega (arith, fits, ends_filled v s.low s.high value ends)) fits in
    λ i. record { low = same.0 i; high = same.1 i }

spanned_is_one : (t : List ℕ) (op : Op) (a b v : Value) → IsThresholds t → IsValue a → IsValue b → IsSpanned t op a b v → v ≡ spanned t op a b
unfolding spanned_is
spanned_is_one t op a b v is va vb s =
    let from : s.from ≡ ends_of a = ends_are a s.from va s.left s.left_word in
    let by : s.by ≡ ends_of b = ends_are b s.by vb s.right s.right_word in
    let first : IsLeast t (IsBetween (row_of op (one_of b) (ends_of a) s.by).low (row_of op (one_of b) (ends_of a) s.by).high) v =
    subst (λ (x : Span). IsLeast t (IsBetween (row_of op (one_of b) x s.by).low (row_of op (one_of b) x s.by).high) v) from s.span in
    let both : IsLeast t (IsBetween (row_of op (one_of b) (ends_of a) (ends_of b)).low (row_of op (one_of b) (ends_of a) (ends_of b)).high) v =
    subst (λ (x : Span). IsLeast t (IsBetween (row_of op (one_of b) (ends_of a) x).low (row_of op (one_of b) (ends_of a) x).high) v) by first in
    least_value_is_one t (IsBetween (row_of op (one_of b) (ends_of a) (ends_of b)).low (row_of op (one_of b) (ends_of a) (ends_of b)).high) v
    (spanned t op a b) both (spanned_is t op a b is va vb).span

-- the results of two sets
cover_of_results : (t : List ℕ) (op : Op) (xs ys : List ℕ) → IsThresholds t → IsValue (Words xs) → IsValue (Words ys)
    → IsLeast t (IsPointwise op xs ys) (cover t (results op xs ys))
cover_of_results t op xs ys is vx vy =
    let has_x : Contains xs (get_or xs 0 0) = Contains-get_or xs 0 0 vx.some in
    let has_y : Contains ys (get_or ys 0 0) = Contains-get_or ys 0 0 vy.some in
    let word : result_of op false (get_or xs 0 0) (get_or ys 0 0) < 2 ^ 32 =
    result_is_word op false (get_or xs 0 0) (get_or ys 0 0) (All-contains (λ w. w < 2 ^ 32) xs (get_or xs 0 0) vx.fits has_x)
    (All-contains (λ w. w < 2 ^ 32) ys (get_or ys 0 0) vy.fits has_y) in
    let there : Contains (results op xs ys) (result_of op false (get_or xs 0 0) (get_or ys 0 0)) =
    pairs_are_results op xs ys (result_of op false (get_or xs 0 0) (get_or ys 0 0))
    (record { first = get_or xs 0 0; second = get_or ys 0 0; left = has_x; right = has_y; is = refl }) in
    pointwise_is_least t op xs ys (cover t (results op xs ys))
    (cover_is_least t (results op xs ys) (result_of op false (get_or xs 0 0) (get_or ys 0 0)) is word there)

computed_is : (t : List ℕ) (op : Op) (a b : Value) → IsThresholds t → IsValue a → IsValue b → IsComputed t op a b (computed t op a b)
unfolding computed
computed_is t op (Words xs) (Words ys) is va vb = cover_of_results t op xs ys is va vb
computed_is t op (Words xs) (Range lo hi) is va vb = spanned_is t op (Words xs) (Range lo hi) is va vb
computed_is t op (Words xs) Ret is va vb = spanned_is t op (Words xs) Ret is va vb
computed_is t op (Range lo hi) b is va vb = spanned_is t op (Range lo hi) b is va vb
computed_is t op Ret b is va vb = spanned_is t op Ret b is va vb

computed_is_one : (t : List ℕ) (op : Op) (a b v : Value) → IsThresholds t → IsValue a → IsValue b → IsComputed t op a b v → v ≡ computed t op a b
unfolding computed
computed_is_one t op (Words xs) (Words ys) v is va vb least = least_value_is_one t (IsPointwise op xs ys) v (cover t (results op xs ys)) least
    (cover_of_results t op xs ys is va vb)
computed_is_one t op (Words xs) (Range lo hi) v is va vb s = spanned_is_one t op (Words xs) (Range lo hi) v is va vb s
computed_is_one t op (Words xs) Ret v is va vb s = spanned_is_one t op (Words xs) Ret v is va vb s
computed_is_one t op (Range lo hi) b v is va vb s = spanned_is_one t op (Range lo hi) b v is va vb s
computed_is_one t op Ret b v is va vb s = spanned_is_one t op Ret b v is va vb s

-- a copy, or what is computed
copied_is : (o : Option Value) (made : Value) (C : Value → Type 0) → C made → MatchOption o (C (found_or o made)) (λ c. found_or o made ≡ c)
copied_is None made C is = is
copied_is (Some c) made C is = refl

copied_is_one : (o : Option Value) (made v : Value) (C : Value → Type 0) → ((u : Value) → C u → u ≡ made) → MatchOption o (C v) (λ c. v ≡ c)
    → v ≡ found_or o made
copied_is_one None made v C one is = one v is
copied_is_one (Some c) made v C one is = is

pub step_is : (t : List ℕ) (op : Op) (a b : Value) → IsThresholds t → IsValue a → IsValue b → IsStep t op a b (step t op a b)
unfolding step
step_is t op a b is va vb = copied_is (copied_of op a b) (computed t op a b) (IsComputed t op a b) (computed_is t op a b is va vb)

pub step_is_one : (t : List ℕ) (op : Op) (a b v : Value) → IsThresholds t → IsValue a → IsValue b → IsStep t op a b v → v ≡ step t op a b
unfolding step
step_is_one t op a b v is va vb s = copied_is_one (copied_of op a b) (computed t op a b) v (IsComputed t op a b)
    (λ u made. computed_is_one t op a b u is va vb made) s

twice_is : (t : List ℕ) (op : Op) (a b : Value) → IsThresholds t → IsOver t a → IsOver t b → IsTwice t op a b (step t op (step t op a b) carry_value)
twice_is t op a b is oa ob =
    let first : IsStep t op a b (step t op a b) = step_is t op a b is oa.value ob.value in
    let over : IsOver t (step t op a b) = step_over t op a b (step t op a b) oa ob first in
    record { between = step t op a b; first = first; second = step_is t op (step t op a b) carry_value is over.value (carry_over t).value }

twice_is_one : (t : List ℕ) (op : Op) (a b v : Value) → IsThresholds t → IsOver t a → IsOver t b → IsTwice t op a b v
    → v ≡ step t op (step t op a b) carry_value
twice_is_one t op a b v is oa ob twice =
    let same : twice.between ≡ step t op a b = step_is_one t op a b twice.between is oa.value ob.value twice.first in
    let over : IsOver t twice.between = step_over t op a b twice.between oa ob twice.first in
    step_is_one t op twice.between carry_value v is over.value (carry_over t).value twice.second ∙ ap (λ (m : Value). step t op m carry_value) same

by_carry : (o : Option Op) (t : List ℕ) (op : Op) (a b : Value) → IsThresholds t → IsOver t a → IsOver t b
    → MatchOption o (IsStep t op a b (once_or_twice o t op a b)) (λ base. IsTwice t base a b (once_or_twice o t op a b))
by_carry None t op a b is oa ob = step_is t op a b is oa.value ob.value
by_carry (Some base) t op a b is oa ob = twice_is t base a b is oa ob

by_carry_one : (o : Option Op) (t : List ℕ) (op : Op) (a b v : Value) → IsThresholds t → IsOver t a → IsOver t b
    → MatchOption o (IsStep t op a b v) (λ base. IsTwice t base a b v) → v ≡ once_or_twice o t op a b
by_carry_one None t op a b v is oa ob s = step_is_one t op a b v is oa.value ob.value s
by_carry_one (Some base) t op a b v is oa ob s = twice_is_one t base a b v is oa ob s

pub applied_is : (t : List ℕ) (op : Op) (a b : Value) → IsThresholds t → IsOver t a → IsOver t b → IsApplied t op a b (apply t op a b)
unfolding apply
applied_is t op a b is oa ob = by_carry (carried_of op) t op a b is oa ob

-- what is a result of an operation is what the function gives
pub applied_is_one : (t : List ℕ) (op : Op) (a b v : Value) → IsThresholds t → IsOver t a → IsOver t b → IsApplied t op a b v → v ≡ apply t op a b
unfolding apply
applied_is_one t op a b v is oa ob s = by_carry_one (carried_of op) t op a b v is oa ob s

-- an operation with a carry is two steps, and any other one
pub applied_by_carry : (o : Option Op) (t : List ℕ) (op : Op) (a b v : Value) → o ≡ carried_of op
    → MatchOption o (IsStep t op a b v) (λ base. IsTwice t base a b v) → IsApplied t op a b v
applied_by_carry o t op a b v same s = subst (λ (p : Option Op). MatchOption p (IsStep t op a b v) (λ base. IsTwice t base a b v)) same s

over_by_carry : (o : Option Op) (t : List ℕ) (op : Op) (a b v : Value) → IsOver t a → IsOver t b
    → MatchOption o (IsStep t op a b v) (λ base. IsTwice t base a b v) → IsOver t v
over_by_carry None t op a b v oa ob s = step_over t op a b v oa ob s
over_by_carry (Some base) t op a b v oa ob s = step_over t base s.between carry_value v (step_over t base a b s.between oa ob s.first) (carry_over t) s.second

-- the function, by tests

-- what the function gives is a result of the operation
pub apply_is : (t : List ℕ) (op : Op) (a b : Value) → IsThresholds t → is_over t a ≡ true → is_over t b ≡ true → IsApplied t op a b (apply t op a b)
apply_is t op a b is over_a over_b = applied_is t op a b is ((over_decides t a).0 over_a) ((over_decides t b).0 over_b)

-- what is a result of an operation is what the function gives, by the tests
pub apply_is_one : (t : List ℕ) (op : Op) (a b v : Value) → IsThresholds t → is_over t a ≡ true → is_over t b ≡ true → IsApplied t op a b v → v ≡ apply t op a b
apply_is_one t op a b v is over_a over_b s = applied_is_one t op a b v is ((over_decides t a).0 over_a) ((over_decides t b).0 over_b) s

-- the function gives values over the thresholds
pub apply_over : (t : List ℕ) (op : Op) (a b : Value) → IsThresholds t → is_over t a ≡ true → is_over t b ≡ true → is_over t (apply t op a b) ≡ true
apply_over t op a b is over_a over_b =
    (over_decides t (apply t op a b)).1
    (over_by_carry (carried_of op) t op a b (apply t op a b) ((over_decides t a).0 over_a) ((over_decides t b).0 over_b)
    (apply_is t op a b is over_a over_b))

-- the result for words of the sides, with any carry, is one of the function's
pub apply_covers : (t : List ℕ) (op : Op) (a b : Value) (carry : Bool) (x y ra : ℕ) → IsThresholds t → is_over t a ≡ true → is_over t b ≡ true → x < 2 ^ 32
    → y < 2 ^ 32 → ra < 2 ^ 32 → Has a x ra → Has b y ra → Has (apply t op a b) (result_of op carry x y) ra
apply_covers t op a b carry x y ra is over_a over_b xw yw address has_x has_y =
    applied_covers t op a b (apply t op a b) carry x y ra ((over_decides t a).0 over_a) ((over_decides t b).0 over_b)
    (apply_is t op a b is over_a over_b) xw yw address has_x has_y

-- lesser sides over more thresholds have a lesser result
pub apply_falls : (t more : List ℕ) (op : Op) (a b c d : Value) → IsThresholds t → IsThresholds more → AreMore t more → is_over t a ≡ true
    → is_over t b ≡ true → is_over more c ≡ true → is_over more d ≡ true → is_at_most c a ≡ true → is_at_most d b ≡ true
    → is_at_most (apply more op c d) (apply t op a b) ≡ true
apply_falls t more op a b c d is is_more in_more over_a over_b over_c over_d left right =
    let wide : IsOver t (apply t op a b) = (over_decides t (apply t op a b)).0 (apply_over t op a b is over_a over_b) in
    let narrow : IsOver more (apply more op c d) = (over_decides more (apply more op c d)).0 (apply_over more op c d is_more over_c over_d) in
    at_most_from (apply more op c d) (apply t op a b) narrow.value wide.value
    (applied_is_monotone t more op a b c d (apply t op a b) (apply more op c d) in_more ((over_decides t a).0 over_a) ((over_decides t b).0 over_b)
    ((over_decides more c).0 over_c) ((over_decides more d).0 over_d) (ordered c a left).up (ordered d b right).up
    (apply_is t op a b is over_a over_b) (apply_is more op c d is_more over_c over_d))
