-- What is left of a value, as functions: they are what the relations say, and cover and fall with them.
use Rattle.std.proofs.Common.{◌≡◌, ℕ, ◌^◌, ◌<◌, ◌&&◌, Bool, true, false, List, Option, Some, None, refl, sym, subst, ◌∙◌}
use Rattle.std.proofs.lemmas.Bool.{cond-true, cond-false, cond_both, and_parts, and_from, true≢false, not-true}
use Rattle.std.proofs.lemmas.Bool.{not_from_false}
use Rattle.value_lattice.specs.Laws.{AreMore}
use Rattle.value_lattice.specs.Least.{least_of}
use Rattle.value_lattice.specs.Passing.{passes_some}
use Rattle.value_lattice.specs.Test.{is_placed, is_over, is_over_or_none, is_at_most, is_less, may_have}
use Rattle.value_lattice.specs.Thresholds.{IsThresholds}
use Rattle.value_lattice.specs.Value.{Has, IsValue, IsOver, IsBetween, MayHave, IsLeastOrNone, HasSome, is_ret, is_some_ret}
use Rattle.value_lattice.specs.declared.value.Value.{Value}
use Rattle.value_lattice.specs.declared.value.Value.TheVariants.{Ret}
use Rattle.value_lattice.proofs.FunctionLemmas.{least_of_kind, least_is_no_ret, is_less_from_least}
use Rattle.value_lattice.proofs.MayLemmas.{least_is_one, all_is_left}
use Rattle.value_lattice.proofs.TestLemmas.{over_decides, may_have_decides, placed_decides, ordered, less_decides}
use Rattle.value_lattice.proofs.WordsBelowLemmas.{IsPassed, passed, passes_from}
use Rattle.value_refine.specs.Refinement.{IsPossible, IsWithin, IsRefined, is_left_alone, answers, makes, is_possible, refine, is_within, within}
use Rattle.value_refine.proofs.LawLemmas.{refined_is_one, refined_covers, refined_is_monotone, within_covers, within_monotone}
use Rattle.word_ops.specs.Condition.{holds_of}
use Rattle.word_ops.specs.Flags.{difference_flags_of}

answers_is : (b truth : Bool) → answers b truth ≡ true → b ≡ truth
answers_is b true e = e
answers_is b false e = not-true b e

is_answers : (b truth : Bool) → b ≡ truth → answers b truth ≡ true
is_answers b true e = e
is_answers b false e = not_from_false b e

pub possible : (condition : ℕ) (truth : Bool) (a b : Value) (x : ℕ) → x < 2 ^ 32 → is_possible condition truth a b x ≡ true → IsPossible condition truth a b x
possible condition truth a b x word e =
    let parts = and_parts (may_have a x) (passes_some (λ y. may_have b y && makes condition truth x y)) e in
    let one : IsPassed (λ y. may_have b y && makes condition truth x y) = passed (λ y. may_have b y && makes condition truth x y) parts.1 in
    let both = and_parts (may_have b one.word) (makes condition truth x one.word) one.passes in
    record {
      has = (may_have_decides a x word).0 parts.0;
      other = one.word;
      fits = one.fits;
      there = (may_have_decides b one.word one.fits).0 both.0;
      is = answers_is (holds_of condition (difference_flags_of x one.word false)) truth both.1;
    }

pub from_possible : (condition : ℕ) (truth : Bool) (a b : Value) (x : ℕ) → x < 2 ^ 32 → IsPossible condition truth a b x
    → is_possible condition truth a b x ≡ true
from_possible condition truth a b x word is =
    and_from (may_have a x) (passes_some (λ y. may_have b y && makes condition truth x y)) ((may_have_decides a x word).1 is.has)
    (passes_from (λ y. may_have b y && makes condition truth x y) is.other is.fits
    (and_from (may_have b is.other) (makes condition truth x is.other) ((may_have_decides b is.other is.fits).1 is.there)
    (is_answers (holds_of condition (difference_flags_of x is.other false)) truth is.is)))

least_possible : (t : List ℕ) (condition : ℕ) (truth : Bool) (a b : Value) → IsThresholds t
    → IsLeastOrNone t (IsPossible condition truth a b) (least_of t (is_possible condition truth a b))
least_possible t condition truth a b is = least_of_kind t (is_possible condition truth a b) (IsPossible condition truth a b) is
    (λ w word e. possible condition truth a b w word e) (λ w word h. from_possible condition truth a b w word h)

-- what `refine` gives is what is left
pub refine_is : (t : List ℕ) (condition : ℕ) (truth : Bool) (a b : Value) → IsThresholds t → IsRefined t condition truth a b (refine t condition truth a b)
unfolding refine
refine_is t condition truth a b is = record {
  alone = λ e. cond-true (is_left_alone condition b) (Some a) (least_of t (is_possible condition truth a b)) e;
  rest = λ e. subst (IsLeastOrNone t (IsPossible condition truth a b))
      (sym (cond-false (is_left_alone condition b) (Some a) (least_of t (is_possible condition truth a b)) e)) (least_possible t condition truth a b is);
}

-- what is left is what `refine` gives
pub refine_one : (t : List ℕ) (condition : ℕ) (truth : Bool) (a b : Value) (r : Option Value) → IsThresholds t → IsRefined t condition truth a b r
    → r ≡ refine t condition truth a b
refine_one t condition truth a b r is refined = refined_is_one t condition truth a b r (refine t condition truth a b) refined
    (refine_is t condition truth a b is)

-- what `within` gives is what is left between two places
pub within_is : (t : List ℕ) (a : Value) (low high : ℕ) → IsThresholds t → IsLeastOrNone t (IsWithin a low high) (within t a low high)
unfolding within
within_is t a low high is =
    least_of_kind t (is_within a low high) (IsWithin a low high) is
    (λ w word e. let parts = and_parts (may_have a w) (is_placed low high w) e in record
    { has = (may_have_decides a w word).0 parts.0; between = (placed_decides low high w).0 parts.1 })
    (λ w word h. and_from (may_have a w) (is_placed low high w) ((may_have_decides a w word).1 h.has) ((placed_decides low high w).1 h.between))

-- what is left between two places is what `within` gives
pub within_one : (t : List ℕ) (a : Value) (low high : ℕ) (r : Option Value) → IsThresholds t → IsLeastOrNone t (IsWithin a low high) r → r ≡ within t a low high
within_one t a low high r is least = least_is_one t (IsWithin a low high) r (within t a low high) least (within_is t a low high is)

-- over the thresholds
least_over : (t : List ℕ) (kind : ℕ → Type 0) (r : Option Value) → IsLeastOrNone t kind r → is_over_or_none t r ≡ true
least_over t kind None none = refl
least_over t kind (Some v) least = (over_decides t v).1 least.over

-- what `refine` gives is over the thresholds
pub refine_over : (t : List ℕ) (condition : ℕ) (truth : Bool) (a b : Value) → IsThresholds t → is_over t a ≡ true
    → is_over_or_none t (refine t condition truth a b) ≡ true
unfolding refine
refine_over t condition truth a b is over =
    cond_both (is_left_alone condition b) (Some a) (least_of t (is_possible condition truth a b)) (λ (r : Option Value). is_over_or_none t r ≡ true)
    (λ alone. over)
    (λ rest. least_over t (IsPossible condition truth a b) (least_of t (is_possible condition truth a b)) (least_possible t condition truth a b is))

-- what `within` gives is over the thresholds
pub within_over : (t : List ℕ) (a : Value) (low high : ℕ) → IsThresholds t → is_over_or_none t (within t a low high) ≡ true
within_over t a low high is = least_over t (IsWithin a low high) (within t a low high) (within_is t a low high is)

-- at most the left side
not_ret : (a : Value) → is_ret a ≡ false → a ≡ Ret → ⊥
not_ret a words same = true≢false (sym (subst (λ (v : Value). is_ret v ≡ true) (sym same) refl) ∙ words)

-- what `refine` gives is at most a left side that isn't the return address
pub refine_left : (t : List ℕ) (condition : ℕ) (truth : Bool) (a b : Value) → IsThresholds t → is_over t a ≡ true → is_ret a ≡ false
    → is_less (refine t condition truth a b) (Some a) ≡ true
unfolding refine
refine_left t condition truth a b is over words =
    let o : IsOver t a = (over_decides t a).0 over in
    let all : IsLeastOrNone t (MayHave a) (Some a) = all_is_left t a o (not_ret a words) in
    let same : AreMore t t = record { thresholds = λ k has. has } in
    cond_both (is_left_alone condition b) (Some a) (least_of t (is_possible condition truth a b)) (λ (r : Option Value). is_less r (Some a) ≡ true)
    (λ alone. is_less_from_least t t (MayHave a) (MayHave a) (Some a) (Some a) same (λ w word may. may) all all)
    (λ rest. is_less_from_least t t (IsPossible condition truth a b) (MayHave a) (Some a) (least_of t (is_possible condition truth a b)) same
    (λ w word may. may.has) all (least_possible t condition truth a b is))

-- what `within` gives is at most a value that isn't the return address
pub within_left : (t : List ℕ) (a : Value) (low high : ℕ) → IsThresholds t → is_over t a ≡ true → is_ret a ≡ false
    → is_less (within t a low high) (Some a) ≡ true
within_left t a low high is over words =
    let o : IsOver t a = (over_decides t a).0 over in
    let all : IsLeastOrNone t (MayHave a) (Some a) = all_is_left t a o (not_ret a words) in
    is_less_from_least t t (IsWithin a low high) (MayHave a) (Some a) (within t a low high) (record { thresholds = λ k has. has }) (λ w word may. may.has) all
    (within_is t a low high is)

-- the return address comes only of the return address
pub refine_address : (t : List ℕ) (condition : ℕ) (truth : Bool) (a b : Value) → is_ret a ≡ false → is_some_ret (refine t condition truth a b) ≡ false
unfolding refine
refine_address t condition truth a b words =
    cond_both (is_left_alone condition b) (Some a) (least_of t (is_possible condition truth a b)) (λ (r : Option Value). is_some_ret r ≡ false)
    (λ alone. words) (λ rest. least_is_no_ret t (is_possible condition truth a b))

-- `within` never gives the return address
pub within_address : (t : List ℕ) (a : Value) (low high : ℕ) → is_some_ret (within t a low high) ≡ false
unfolding within
within_address t a low high = least_is_no_ret t (is_within a low high)

-- over more thresholds
some_value : (t : List ℕ) (r : Option Value) (v : Value) → is_over_or_none t r ≡ true → r ≡ Some v → IsValue v
some_value t r v over is = let found : is_over t v ≡ true = subst (λ (s : Option Value). is_over_or_none t s ≡ true) is over in
    ((over_decides t v).0 found).value

-- lesser sides over more thresholds leave less
pub refine_falls : (t more : List ℕ) (condition : ℕ) (truth : Bool) (a b c d : Value) → IsThresholds t → IsThresholds more → AreMore t more
    → is_over t a ≡ true → is_over t b ≡ true → is_over more c ≡ true → is_over more d ≡ true → is_ret a ≡ false → is_at_most c a ≡ true
    → is_at_most d b ≡ true → is_less (refine more condition truth c d) (refine t condition truth a b) ≡ true
refine_falls t more condition truth a b c d is is_more in_more over_a over_b over_c over_d words left right =
    less_decides (refine more condition truth c d) (refine t condition truth a b)
    (λ v same. some_value more (refine more condition truth c d) v (refine_over more condition truth c d is_more over_c) same)
    (λ v same. some_value t (refine t condition truth a b) v (refine_over t condition truth a b is over_a) same)
    (refined_is_monotone t more condition truth a b c d (refine t condition truth a b) (refine more condition truth c d) in_more ((over_decides t a).0 over_a)
    ((over_decides t b).0 over_b) ((over_decides more c).0 over_c) ((over_decides more d).0 over_d) (not_ret a words)
    (ordered c a left).up (ordered d b right).up (refine_is t condition truth a b is) (refine_is more condition truth c d is_more))

-- a lesser value over more thresholds has less between two places
pub within_falls : (t more : List ℕ) (a c : Value) (low high : ℕ) → IsThresholds t → IsThresholds more → AreMore t more → is_at_most c a ≡ true
    → is_less (within more c low high) (within t a low high) ≡ true
within_falls t more a c low high is is_more in_more left =
    less_decides (within more c low high) (within t a low high)
    (λ v same. some_value more (within more c low high) v (within_over more c low high is_more) same)
    (λ v same. some_value t (within t a low high) v (within_over t a low high is) same)
    (within_monotone t more low high a c (within t a low high) (within more c low high) in_more (ordered c a left).up (within_is t a low high is)
    (within_is more c low high is_more))

-- words that make the condition so are in what `refine` gives
pub refine_covers : (t : List ℕ) (condition : ℕ) (truth : Bool) (a b : Value) (x y ra : ℕ) → IsThresholds t → x < 2 ^ 32 → y < 2 ^ 32 → ra < 2 ^ 32
    → Has a x ra → Has b y ra → holds_of condition (difference_flags_of x y false) ≡ truth → HasSome (refine t condition truth a b) x ra
refine_covers t condition truth a b x y ra is xw yw address has_x has_y holds = refined_covers t condition truth a b (refine t condition truth a b) x y ra
    (refine_is t condition truth a b is) xw yw address has_x has_y holds

-- a word of a value between two places is in what `within` gives
pub within_has : (t : List ℕ) (a : Value) (low high x ra : ℕ) → IsThresholds t → x < 2 ^ 32 → ra < 2 ^ 32 → Has a x ra → IsBetween low high x
    → HasSome (within t a low high) x ra
within_has t a low high x ra is word address has between = within_covers t low high a (within t a low high) x ra
    (within_is t a low high is) word address has between
