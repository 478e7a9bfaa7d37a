-- The tests of values decide what they are named after.
use Rattle.std.proofs.Common.{◌≡◌, ℕ, zero, suc, ◌+◌, ◌^◌, ◌<◌, ◌≤◌, ◌&&◌, Bool, true, eqb, List, [], ◌∷◌, length, Decides, refl, arith, All}
use Rattle.std.proofs.Common.{Contains, nat_lt, nat_le, Option, Some, None}
use Rattle.std.proofs.lemmas.Bool.{false≢true, leb-true, le-leb, lt-ltb, ltb-true, and_parts, and_from}
use Rattle.std.proofs.lemmas.Bool.Decides.{Decides-eqb, Decides-ltb, Decides-and, Decides-like, Decides-by_and}
use Rattle.std.specs.Bool.{one_answer}
use Rattle.std.proofs.lemmas.Map.Made.{is_member-Decides}
use Rattle.std.specs.Int.{w32}
use Rattle.std.specs.List.{list_all}
use Rattle.std.specs.List.Sorted.{IsStrictlyIncreasing}
use Rattle.std.specs.Prelude.{ℤ, pos, negsuc, FitsSigned}
use Rattle.std.specs.Set.{is_member}
use Rattle.value_lattice.specs.Order.{place_of, rank_of}
use Rattle.value_lattice.specs.Set.{IsSet, is_set, rises, rises_from}
use Rattle.value_lattice.specs.Test.{fits_word, is_placed, is_value, has_ends_in, is_over, is_inside, is_at_most, is_less, may_have, AreOrdered, TheOrderIsOne}
use Rattle.value_lattice.specs.Value.{AtMost, IsValue, HasEndsIn, IsOver, IsBetween, MayHave, IsLess}
use Rattle.value_lattice.specs.declared.value.Value.{Value}
use Rattle.value_lattice.specs.declared.value.Value.TheVariants.{Words, Range, Ret}
use Rattle.value_lattice.proofs.CompareLemmas.{iff_trans, set_in_set, set_in_range, between_in_range, ret_in_range}
use Rattle.value_lattice.proofs.JoinLemmas.{no_ret_in_set}
use Rattle.value_lattice.proofs.MayLemmas.{below_zero, may_be_any}
use Rattle.bt_base.proofs.RisingLists.{rising_rest}
use Rattle.value_lattice.proofs.SetLemmas.{place_of_below}
use Rattle.value_lattice.proofs.ValueLemmas.{no_range_in_set, no_set_in_ret, no_range_in_ret, range_in_range, same_value}

Decides-leb : (a b : ℕ) → Decides (nat_le a b) (a ≤ b)
Decides-leb a b = (leb-true a b, le-leb a b)

all_decides : (p : ℕ → Bool) (P : ℕ → Type 0) → ((w : ℕ) → Decides (p w) (P w)) → (words : List ℕ) → Decides (list_all p words) (All P words)
all_decides p P each words = Decides-by_and p P (list_all p) each refl (λ x xs. refl) words

rises_more : (x y : ℕ) (ys : List ℕ) → x < y → IsStrictlyIncreasing (y ∷ ys) → IsStrictlyIncreasing (x ∷ y ∷ ys)
rises_more x y ys up rest zero within = up
rises_more x y ys up rest (suc k) within = let next : suc k + 1 ≡ suc (k + 1) = omega arith in rw next (rest k (omega arith))

rises_from_decides : (x : ℕ) (xs : List ℕ) → Decides (rises_from x xs) (IsStrictlyIncreasing (x ∷ xs))
rises_from_decides x [] = (λ e k within. absurd (omega arith), λ h. refl)
rises_from_decides x (y ∷ ys) =
    Decides-like (nat_lt x y && rises_from y ys) (λ (h : (x < y) × IsStrictlyIncreasing (y ∷ ys)). rises_more x y ys h.0 h.1)
    (λ (rising : IsStrictlyIncreasing (x ∷ y ∷ ys)). (rising 0 (omega arith), rising_rest x (y ∷ ys) rising))
    (Decides-and (nat_lt x y) (rises_from y ys) (Decides-ltb x y) (rises_from_decides y ys))

rises_decides : (xs : List ℕ) → Decides (rises xs) (IsStrictlyIncreasing xs)
rises_decides [] = (λ e k within. absurd (omega arith), λ h. refl)
rises_decides (x ∷ xs) = rises_from_decides x xs

pub set_decides : (words : List ℕ) → Decides (is_set words) (IsSet words)
unfolding is_set
set_decides words =
    let fits : Decides (list_all (λ w. nat_lt w (2 ^ 32)) words) (All (λ w. w < 2 ^ 32) words) = all_decides (λ w. nat_lt w (2 ^ 32)) (λ w. w < 2 ^ 32)
    (λ w. Decides-ltb w (2 ^ 32)) words in
    Decides-like (nat_lt 0 (length words) && (nat_le (length words) 128 && (rises words && list_all (λ w. nat_lt w (2 ^ 32)) words)))
    (λ (h : (0 < length words) × ((length words ≤ 128) × (IsStrictlyIncreasing words × All (λ w. w < 2 ^ 32) words))). record
    { some = h.0; few = h.1.0; rising = h.1.1.0; fits = h.1.1.1 })
    (λ (set : IsSet words). (set.some, (set.few, (set.rising, set.fits))))
    (Decides-and (nat_lt 0 (length words)) (nat_le (length words) 128 && (rises words && list_all (λ w. nat_lt w (2 ^ 32)) words))
    (Decides-ltb 0 (length words))
    (Decides-and (nat_le (length words) 128) (rises words && list_all (λ w. nat_lt w (2 ^ 32)) words) (Decides-leb (length words) 128)
    (Decides-and (rises words) (list_all (λ w. nat_lt w (2 ^ 32)) words) (rises_decides words) fits)))

fits_decides : (z : ℤ) → Decides (fits_word z) (FitsSigned w32 z)
fits_decides (pos n) = (λ e. record { sfits = ltb-true n (2 ^ 31) e }, λ f. lt-ltb n (2 ^ 31) f.sfits)
fits_decides (negsuc n) = (λ e. record { sfits = ltb-true n (2 ^ 31) e }, λ f. lt-ltb n (2 ^ 31) f.sfits)

-- the test of places decides what is between two
pub placed_decides : (low high w : ℕ) → Decides (is_placed low high w) (IsBetween low high w)
placed_decides low high w = Decides-and (nat_le low (place_of w)) (nat_le (place_of w) high) (Decides-leb low (place_of w)) (Decides-leb (place_of w) high)

-- the test of values decides what a value is
pub value_decides : (v : Value) → Decides (is_value v) (IsValue v)
unfolding is_value
value_decides (Words words) = set_decides words
value_decides (Range lo hi) =
    Decides-like (fits_word lo && (fits_word hi && nat_le (rank_of lo + 128) (rank_of hi)))
    (λ (h : FitsSigned w32 lo × (FitsSigned w32 hi × (rank_of lo + 128 ≤ rank_of hi))). (h.0, h.1.0, h.1.1)) (λ (v : IsValue (Range lo hi)). (v.0, (v.1, v.2)))
    (Decides-and (fits_word lo) (fits_word hi && nat_le (rank_of lo + 128) (rank_of hi)) (fits_decides lo)
    (Decides-and (fits_word hi) (nat_le (rank_of lo + 128) (rank_of hi)) (fits_decides hi) (Decides-leb (rank_of lo + 128) (rank_of hi))))
value_decides Ret = (λ e. tt, λ h. refl)

-- the test of members decides what a list contains
pub member_decides : (xs : List ℕ) (w : ℕ) → Decides (is_member eqb xs w) (Contains xs w)
member_decides xs w = is_member-Decides Decides-eqb xs w

ends_decide : (t : List ℕ) (v : Value) → Decides (has_ends_in t v) (HasEndsIn t v)
ends_decide t (Words words) = (λ e. tt, λ h. refl)
ends_decide t (Range lo hi) = Decides-and (is_member eqb t (rank_of lo)) (is_member eqb t (rank_of hi)) (member_decides t (rank_of lo))
    (member_decides t (rank_of hi))
ends_decide t Ret = (λ e. tt, λ h. refl)

-- the test of thresholds decides what is over them
pub over_decides : (t : List ℕ) (v : Value) → Decides (is_over t v) (IsOver t v)
unfolding is_over
over_decides t v =
    Decides-like (is_value v && has_ends_in t v) (λ (h : IsValue v × HasEndsIn t v). record { value = h.0; ends = h.1 })
    (λ (over : IsOver t v). (over.value, over.ends))
    (Decides-and (is_value v) (has_ends_in t v) (value_decides v) (ends_decide t v))

inside_decides : (a b : Value) → IsValue a → IsValue b → Decides (is_inside a b) (AtMost a b)
inside_decides (Words xs) (Words ys) va vb =
    Decides-like (list_all (is_member eqb ys) xs) (set_in_set xs ys va).0 (set_in_set xs ys va).1
    (all_decides (is_member eqb ys) (Contains ys) (member_decides ys) xs)
inside_decides (Words xs) (Range lo hi) va vb =
    Decides-like (list_all (is_placed (rank_of lo) (rank_of hi)) xs) (set_in_range xs lo hi va).0 (set_in_range xs lo hi va).1
    (all_decides (is_placed (rank_of lo) (rank_of hi)) (IsBetween (rank_of lo) (rank_of hi)) (placed_decides (rank_of lo) (rank_of hi)) xs)
inside_decides (Words xs) Ret va vb = (λ e. absurd (false≢true e), λ up. absurd (no_set_in_ret xs va up))
inside_decides (Range lo hi) (Words ys) va vb = (λ e. absurd (false≢true e), λ up. absurd (no_range_in_set lo hi ys va vb up))
inside_decides (Range lo hi) (Range first last) va vb =
    Decides-like (nat_le (rank_of first) (rank_of lo) && nat_le (rank_of hi) (rank_of last))
    (λ (h : (rank_of first ≤ rank_of lo) × (rank_of hi ≤ rank_of last)). record
    { words = λ w ra word address has. (omega (arith, h, has), omega (arith, h, has)) })
    (range_in_range lo hi first last va)
    (Decides-and (nat_le (rank_of first) (rank_of lo)) (nat_le (rank_of hi) (rank_of last)) (Decides-leb (rank_of first) (rank_of lo))
    (Decides-leb (rank_of hi) (rank_of last)))
inside_decides (Range lo hi) Ret va vb = (λ e. absurd (false≢true e), λ up. absurd (no_range_in_ret lo hi va up))
inside_decides Ret (Words ys) va vb = (λ e. absurd (false≢true e), λ up. absurd (no_ret_in_set ys vb up))
inside_decides Ret (Range lo hi) va vb =
    let same = iff_trans (between_in_range 0 4294967295 lo hi (omega arith) (omega arith)) (ret_in_range lo hi) in
    Decides-like (nat_le (rank_of lo) 0 && nat_le 4294967295 (rank_of hi)) same.0 same.1
    (Decides-and (nat_le (rank_of lo) 0) (nat_le 4294967295 (rank_of hi)) (Decides-leb (rank_of lo) 0) (Decides-leb 4294967295 (rank_of hi)))
inside_decides Ret Ret va vb = (λ e. record { words = λ w ra word address has. has }, λ up. refl)

-- the test of the order decides the order of values
pub at_most_decides : (a b : Value) → Decides (is_at_most a b) (AreOrdered a b)
unfolding is_at_most
at_most_decides a b = (there, back) where
  there : (is_value a && (is_value b && is_inside a b)) ≡ true → AreOrdered a b
  there e =
      let first = and_parts (is_value a) (is_value b && is_inside a b) e in
      let second = and_parts (is_value b) (is_inside a b) first.1 in
      let left : IsValue a = (value_decides a).0 first.0 in
      let right : IsValue b = (value_decides b).0 second.0 in
      record { left = left; right = right; up = (inside_decides a b left right).0 second.1 }

  back : AreOrdered a b → (is_value a && (is_value b && is_inside a b)) ≡ true
  back o =
      and_from (is_value a) (is_value b && is_inside a b) ((value_decides a).1 o.left)
      (and_from (is_value b) (is_inside a b) ((value_decides b).1 o.right) ((inside_decides a b o.left o.right).1 o.up))

-- the test of words decides what a value may have
pub may_have_decides : (v : Value) (w : ℕ) → w < 2 ^ 32 → Decides (may_have v w) (MayHave v w)
unfolding may_have
may_have_decides (Words words) w word = Decides-like (is_member eqb words w)
    (λ (has : Contains words w). record { address = 0; fits = omega arith; has = has }) (λ (may : MayHave (Words words) w). may.has) (member_decides words w)
may_have_decides (Range lo hi) w word =
    Decides-like (is_placed (rank_of lo) (rank_of hi) w)
    (λ (has : IsBetween (rank_of lo) (rank_of hi) w). record { address = 0; fits = omega arith; has = has }) (λ (may : MayHave (Range lo hi) w). may.has)
    (placed_decides (rank_of lo) (rank_of hi) w)
may_have_decides Ret w word = (λ e. may_be_any w word, λ may. lt-ltb w (2 ^ 32) word)

-- the order as a test: its parts, and how to get it

-- where the test of the order holds, both are values and ordered
pub ordered : (a b : Value) → is_at_most a b ≡ true → AreOrdered a b
ordered a b e = (at_most_decides a b).0 e

-- values that are ordered pass the test of the order
pub at_most_from : (a b : Value) → IsValue a → IsValue b → AtMost a b → is_at_most a b ≡ true
at_most_from a b left right up = (at_most_decides a b).1 (record { left = left; right = right; up = up })

-- what decides the order of two values is the test
pub is_order : (r : Bool) (a b : Value) → IsValue a → IsValue b → Decides r (AtMost a b) → r ≡ is_at_most a b
is_order r a b left right decides = one_answer r (is_at_most a b) decides (λ e. (ordered a b e).up, λ up. at_most_from a b left right up)

-- what is over thresholds is a value
pub is_over-value : (t : List ℕ) (v : Value) → is_over t v ≡ true → is_value v ≡ true
is_over-value t v over = let o : IsOver t v = (over_decides t v).0 over in (value_decides v).1 o.value

top_fits : IsValue (Range (negsuc 2147483647) (pos 2147483647))
top_fits = (record { sfits = omega arith }, record { sfits = omega arith }, omega arith)

-- each value is at most any word
pub under_any : (a : Value) → AtMost a (Range (negsuc 2147483647) (pos 2147483647))
under_any a = record { words = λ w ra word address has. let below : place_of w < 2 ^ 32 = place_of_below w in (omega arith, omega arith) }

-- the order as a test: values are at most themselves and any word, it goes on from one to the next, values that are at
-- most each other are the same, and what is at most the word 0 is the word 0
pub the_order_is_one : TheOrderIsOne
the_order_is_one = record {
  same = λ a value. let is : IsValue a = (value_decides a).0 value in at_most_from a a is is (record { words = λ w ra word address has. has });
  onward = λ a b c first second.
      let one : AreOrdered a b = ordered a b first in
      let two : AreOrdered b c = ordered b c second in
      at_most_from a c one.left two.right (record { words = λ w ra word address has. two.up.words w ra word address (one.up.words w ra word address has) });
  both_ways = λ a b first second.
      let one : AreOrdered a b = ordered a b first in
      let two : AreOrdered b a = ordered b a second in
      same_value a b one.left one.right one.up two.up;
  under_top = λ a value. at_most_from a (Range (negsuc 2147483647) (pos 2147483647)) ((value_decides a).0 value) top_fits (under_any a);
  under_zero = λ a first. let one : AreOrdered a (Words (0 ∷ [])) = ordered a (Words (0 ∷ [])) first in below_zero a one.left one.up;
}

-- of what is left
pub less_decides : (r s : Option Value) → ((v : Value) → r ≡ Some v → IsValue v) → ((v : Value) → s ≡ Some v → IsValue v) → IsLess r s → is_less r s ≡ true
less_decides None s left right less = refl
less_decides (Some u) None left right less = absurd less
less_decides (Some u) (Some v) left right less = at_most_from u v (left u refl) (right v refl) less
