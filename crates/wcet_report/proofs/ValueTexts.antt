-- Texts of values tell the values, and have no byte but their own.
use Rattle.std.proofs.Common.{◌≡◌, ℕ, ◌^◌, ◌<◌, ℤ, Bool, false, List, [], ◌∷◌, ◌++◌, refl, ap, sym, ◌∙◌, subst, arith, codes, append_assoc}
use Rattle.std.proofs.lemmas.Bool.{false≢true, and_parts}
use Rattle.std.proofs.lemmas.Bool.Decides.{nat_tests}
use Rattle.std.proofs.lemmas.Fmt.{signed_decimal_injective}
use Rattle.std.proofs.lemmas.Int.{of_z-to_z}
use Rattle.std.proofs.lemmas.List.Elements.{All-head, All-tail}
use Rattle.std.proofs.lemmas.List.Sorted.{IsPermutation-filter_both, IsPermutation-sym, Contains-permutation, All-permutation}
use Rattle.std.specs.Fmt.{signed_decimal}
use Rattle.std.specs.Int.{w32, cast_signed, cast_unsigned}
use Rattle.std.specs.Int.Signed.{mag}
use Rattle.std.specs.List.Sorted.{IsStrictlyIncreasing, IsPermutation}
use Rattle.std.specs.Prelude.{◌==◌, ◌||◌, not, All, Contains, FitsSigned, nat_le, nat_lt}
use Rattle.bt_base.proofs.RisingLists.{same_rising}
use Rattle.value_lattice.specs.Set.{IsSet}
use Rattle.value_lattice.specs.Value.{IsValue}
use Rattle.value_lattice.specs.declared.value.Value.{Value}
use Rattle.value_lattice.specs.declared.value.Value.TheVariants.{Words, Range, Ret}
use Rattle.wcet_report.proofs.Cuts.{lacks, Lacks, lacks-append, cut_once, first_byte, bytes_behind}
use Rattle.wcet_report.proofs.Numbers.{NoDigit, lacks_one, lacks_signed}
use Rattle.wcet_report.specs.Value.{by_sign, parted, value_text}

-- a word ends at a comma or at the closing brace
abbrev ends_member : ℕ → Bool
ends_member b = b == 44 || (b == 125)

-- members behind their separators, the closing brace, and what follows
abbrev closing : ℕ → List ℕ → List ℕ → List ℕ
closing before [] text = 125 ∷ text
closing before (w ∷ ws) text = before ∷ (signed_decimal (cast_signed w32 w) ++ closing 44 ws text)

closing_is : (before : ℕ) (words text : List ℕ) → parted before words ++ (125 ∷ text) ≡ closing before words text
closing_is before [] text = refl
closing_is before (w ∷ ws) text = ap (λ more. before ∷ more)
    (append_assoc (signed_decimal (cast_signed w32 w)) (parted 44 ws) (125 ∷ text)
    ∙ ap (λ more. signed_decimal (cast_signed w32 w) ++ more) (closing_is 44 ws text))

stop_free : NoDigit ends_member
stop_free = record {
  decimal = λ d less. grind (arith, nat_tests);
  hexadecimal = λ d less. grind (arith, nat_tests);
  sign = refl;
}

mag_small : (w : ℕ) → w < 2 ^ 32 → mag (cast_signed w32 w) < 2 ^ 63
mag_small w less = grind (arith, nat_tests)

member_tells : (v w : ℕ) → v < 2 ^ 32 → w < 2 ^ 32 → signed_decimal (cast_signed w32 v) ≡ signed_decimal (cast_signed w32 w) → v ≡ w
member_tells v w v_less w_less same =
    let signed : cast_signed w32 v ≡ cast_signed w32 w =
    signed_decimal_injective (cast_signed w32 v) (cast_signed w32 w) (mag_small v v_less) (mag_small w w_less) same in
    sym (of_z-to_z w32 v v_less) ∙ ap (cast_unsigned w32) signed ∙ of_z-to_z w32 w w_less

-- words below 2 ^ 32, for recursion
abbrev AreWords : List ℕ → Type 0
AreWords [] = Unit {0}
AreWords (w ∷ ws) = (w < 2 ^ 32) × AreWords ws

signed_free : (w : ℕ) → w < 2 ^ 32 → Lacks ends_member (signed_decimal (cast_signed w32 w))
signed_free w less = lacks_signed ends_member stop_free (cast_signed w32 w) (mag_small w less)

-- members behind a first separator that isn't the closing brace tell the words
members_tell : (before : ℕ) (xs ys : List ℕ) → (before ≡ 125 → ⊥) → AreWords xs → AreWords ys
    → closing before xs [] ≡ closing before ys [] → xs ≡ ys
unfolding first_byte bytes_behind
members_tell before [] [] other xs_less ys_less same = refl
members_tell before [] (y ∷ ys) other xs_less ys_less same = absurd (other (sym (ap first_byte same)))
members_tell before (x ∷ xs) [] other xs_less ys_less same = absurd (other (ap first_byte same))
members_tell before (x ∷ []) (y ∷ []) other xs_less ys_less same =
    let cut = cut_once ends_member _ _ [] [] 125 125 (signed_free x xs_less.0) (signed_free y ys_less.0) refl refl (ap bytes_behind same) in
    let one : x ≡ y = member_tells x y xs_less.0 ys_less.0 cut.0 in cc one
members_tell before (x ∷ []) (y ∷ z ∷ zs) other xs_less ys_less same =
    let cut : (signed_decimal (cast_signed w32 x) ≡ signed_decimal (cast_signed w32 y))
    × (125 ∷ [] ≡ 44 ∷ (signed_decimal (cast_signed w32 z) ++ closing 44 zs [])) =
    cut_once ends_member _ _ [] _ 125 44 (signed_free x xs_less.0) (signed_free y ys_less.0) refl refl (ap bytes_behind same) in
    let wrong : 125 ≡ 44 = ap first_byte cut.1 in absurd (omega (arith, wrong))
members_tell before (x ∷ z ∷ zs) (y ∷ []) other xs_less ys_less same =
    let cut : (signed_decimal (cast_signed w32 x) ≡ signed_decimal (cast_signed w32 y))
    × (44 ∷ (signed_decimal (cast_signed w32 z) ++ closing 44 zs []) ≡ 125 ∷ []) =
    cut_once ends_member _ _ _ [] 44 125 (signed_free x xs_less.0) (signed_free y ys_less.0) refl refl (ap bytes_behind same) in
    let wrong : 44 ≡ 125 = ap first_byte cut.1 in absurd (omega (arith, wrong))
members_tell before (x ∷ v ∷ vs) (y ∷ w ∷ ws) other xs_less ys_less same =
    let cut : (signed_decimal (cast_signed w32 x) ≡ signed_decimal (cast_signed w32 y)) × (closing 44 (v ∷ vs) [] ≡ closing 44 (w ∷ ws) []) =
    cut_once ends_member _ _ _ _ 44 44 (signed_free x xs_less.0) (signed_free y ys_less.0) refl refl (ap bytes_behind same) in
    let one : x ≡ y = member_tells x y xs_less.0 ys_less.0 cut.0 in
    let rest : v ∷ vs ≡ w ∷ ws = members_tell 44 (v ∷ vs) (w ∷ ws) (λ e. omega (arith, e)) xs_less.1 ys_less.1 cut.1 in
    cc (one, rest)

abbrev is_high : ℕ → Bool
is_high w = nat_le (2 ^ 31) w

abbrev is_low : ℕ → Bool
is_low w = nat_lt w (2 ^ 31)

one_or_other : (w : ℕ) → is_low w ≡ not (is_high w)
one_or_other w = grind (arith, nat_tests)

-- the words by their sign are the same words
by_sign_same : (xs : List ℕ) → IsPermutation xs (by_sign xs)
by_sign_same xs = IsPermutation-filter_both is_high is_low one_or_other xs

by_sign_from : (xs ys : List ℕ) → by_sign xs ≡ by_sign ys → (w : ℕ) → Contains xs w → Contains ys w
by_sign_from xs ys same w has =
    Contains-permutation (by_sign ys) ys w (IsPermutation-sym ys (by_sign ys) (by_sign_same ys))
    (subst (λ list. Contains list w) same (Contains-permutation xs (by_sign xs) w (by_sign_same xs) has))

by_sign_tells : (xs ys : List ℕ) → IsStrictlyIncreasing xs → IsStrictlyIncreasing ys → by_sign xs ≡ by_sign ys → xs ≡ ys
by_sign_tells xs ys xs_rise ys_rise same =
    same_rising xs ys xs_rise ys_rise (by_sign_from xs ys same) (by_sign_from ys xs (sym same))

words_of_all : (xs : List ℕ) → All (λ w. w < 2 ^ 32) xs → AreWords xs
words_of_all [] all = tt
words_of_all (x ∷ xs) all = (All-head (λ w. w < 2 ^ 32) x xs all, words_of_all xs (All-tail (λ w. w < 2 ^ 32) x xs all))

by_sign_words : (xs : List ℕ) → IsSet xs → AreWords (by_sign xs)
by_sign_words xs set =
    words_of_all (by_sign xs) (All-permutation (λ w. w < 2 ^ 32) xs (by_sign xs) (by_sign_same xs) set.fits)

sets_tell : (xs ys : List ℕ) → IsSet xs → IsSet ys → value_text (Words xs) ≡ value_text (Words ys) → xs ≡ ys
unfolding value_text
sets_tell xs ys xs_set ys_set same =
    by_sign_tells xs ys xs_set.rising ys_set.rising
    (members_tell 123 (by_sign xs) (by_sign ys) (λ e. omega (arith, e)) (by_sign_words xs xs_set) (by_sign_words ys ys_set)
    (sym (closing_is 123 (by_sign xs) []) ∙ same ∙ closing_is 123 (by_sign ys) []))

abbrev is_dot : ℕ → Bool
is_dot b = b == 46

dot_free : NoDigit is_dot
dot_free = record {
  decimal = λ d less. grind (arith, nat_tests);
  hexadecimal = λ d less. grind (arith, nat_tests);
  sign = refl;
}

ends_tell : (a b c d : ℤ) → mag a < 2 ^ 63 → mag b < 2 ^ 63 → mag c < 2 ^ 63 → mag d < 2 ^ 63
    → signed_decimal a ++ (codes ".." ++ signed_decimal b) ≡ signed_decimal c ++ (codes ".." ++ signed_decimal d) → (a ≡ c) × (b ≡ d)
unfolding bytes_behind
ends_tell a b c d a_less b_less c_less d_less same =
    let cut : (signed_decimal a ≡ signed_decimal c) × (46 ∷ 46 ∷ signed_decimal b ≡ 46 ∷ 46 ∷ signed_decimal d) =
    cut_once is_dot (signed_decimal a) (signed_decimal c) (46 ∷ signed_decimal b) (46 ∷ signed_decimal d) 46 46
    (lacks_signed is_dot dot_free a a_less) (lacks_signed is_dot dot_free c c_less) refl refl same in (
      signed_decimal_injective a c a_less c_less cut.0,
      signed_decimal_injective b d b_less d_less (ap (λ text. bytes_behind (bytes_behind text)) cut.1),
    )

-- no range is written with a closing brace or a letter
abbrev is_other : ℕ → Bool
is_other b = b == 125 || (b == 114)

other_free : NoDigit is_other
other_free = record {
  decimal = λ d less. grind (arith, nat_tests);
  hexadecimal = λ d less. grind (arith, nat_tests);
  sign = refl;
}

range_free : (lo hi : ℤ) → mag lo < 2 ^ 63 → mag hi < 2 ^ 63 → Lacks is_other (value_text (Range lo hi))
unfolding value_text
range_free lo hi lo_less hi_less =
    lacks-append is_other (signed_decimal lo) (codes ".." ++ signed_decimal hi) (lacks_signed is_other other_free lo lo_less)
    (lacks-append is_other (codes "..") (signed_decimal hi) (record { is = refl }) (lacks_signed is_other other_free hi hi_less))

lacks_right : (stops : ℕ → Bool) (xs ys : List ℕ) → Lacks stops (xs ++ ys) → Lacks stops ys
lacks_right stops [] ys free = free
lacks_right stops (x ∷ xs) ys free =
    lacks_right stops xs ys (record { is = (and_parts (not (stops x)) (lacks stops (xs ++ ys)) free.is).1 })

set_not_free : (xs : List ℕ) → Lacks is_other (value_text (Words xs)) → ⊥
unfolding value_text
set_not_free xs free = false≢true (lacks_right is_other (parted 123 (by_sign xs)) (codes "}") free).is

ret_not_free : Lacks is_other (value_text Ret) → ⊥
unfolding value_text
ret_not_free free = false≢true free.is

abbrev is_brace : ℕ → Bool
is_brace b = b == 125

set_not_ret : (xs : List ℕ) → value_text (Words xs) ≡ value_text Ret → ⊥
unfolding value_text
set_not_ret xs same =
    let free : Lacks is_brace (value_text Ret) = record { is = refl } in
    let also : Lacks is_brace (parted 123 (by_sign xs) ++ codes "}") = subst (λ text. Lacks is_brace text) (sym same) free in
    false≢true (lacks_right is_brace (parted 123 (by_sign xs)) (codes "}") also).is

fits_small : (z : ℤ) → FitsSigned w32 z → mag z < 2 ^ 63
fits_small z fits = omega (arith, fits.sfits)

ranges_tell : (a b c d : ℤ) → mag a < 2 ^ 63 → mag b < 2 ^ 63 → mag c < 2 ^ 63 → mag d < 2 ^ 63
    → value_text (Range a b) ≡ value_text (Range c d) → (a ≡ c) × (b ≡ d)
unfolding value_text
ranges_tell a b c d a_less b_less c_less d_less same = ends_tell a b c d a_less b_less c_less d_less same

-- the text of a value tells it
pub value_tells : (a b : Value) → IsValue a → IsValue b → value_text a ≡ value_text b → a ≡ b
value_tells (Words xs) (Words ys) at_a at_b same = ap Words (sets_tell xs ys at_a at_b same)
value_tells (Words xs) (Range lo hi) at_a at_b same =
    absurd (set_not_free xs (subst (λ text. Lacks is_other text) (sym same) (range_free lo hi (fits_small lo at_b.0) (fits_small hi at_b.1))))
value_tells (Words xs) Ret at_a at_b same = absurd (set_not_ret xs same)
value_tells (Range lo hi) (Words ys) at_a at_b same =
    absurd (set_not_free ys (subst (λ text. Lacks is_other text) same (range_free lo hi (fits_small lo at_a.0) (fits_small hi at_a.1))))
value_tells (Range a b) (Range c d) at_a at_b same =
    let both : (a ≡ c) × (b ≡ d) = ranges_tell a b c d (fits_small a at_a.0) (fits_small b at_a.1) (fits_small c at_b.0) (fits_small d at_b.1) same in
    λ i. Range (both.0 i) (both.1 i)
value_tells (Range lo hi) Ret at_a at_b same =
    absurd (ret_not_free (subst (λ text. Lacks is_other text) same (range_free lo hi (fits_small lo at_a.0) (fits_small hi at_a.1))))
value_tells Ret (Words ys) at_a at_b same = absurd (set_not_ret ys (sym same))
value_tells Ret (Range lo hi) at_a at_b same =
    absurd (ret_not_free (subst (λ text. Lacks is_other text) (sym same) (range_free lo hi (fits_small lo at_b.0) (fits_small hi at_b.1))))
value_tells Ret Ret at_a at_b same = refl

abbrev ends_one : ℕ → Bool
ends_one b = b == 32 || (b == 10)

one_free : NoDigit ends_one
one_free = record {
  decimal = λ d less. grind (arith, nat_tests);
  hexadecimal = λ d less. grind (arith, nat_tests);
  sign = refl;
}

lacks_parted : (before : ℕ) (words : List ℕ) → ends_one before ≡ false → AreWords words → Lacks ends_one (parted before words)
lacks_parted before [] free at = record { is = refl }
lacks_parted before (w ∷ ws) free at =
    lacks_one ends_one before (signed_decimal (cast_signed w32 w) ++ parted 44 ws) free
    (lacks-append ends_one (signed_decimal (cast_signed w32 w)) (parted 44 ws)
    (lacks_signed ends_one one_free (cast_signed w32 w) (mag_small w at.0)) (lacks_parted 44 ws refl at.1))

-- the text of a value has neither a space nor the end of a line in it
pub lacks_value : (value : Value) → IsValue value → Lacks ends_one (value_text value)
unfolding value_text
lacks_value (Words xs) at =
    lacks-append ends_one (parted 123 (by_sign xs)) (codes "}") (lacks_parted 123 (by_sign xs) refl (by_sign_words xs at)) (record { is = refl })
lacks_value (Range lo hi) at =
    lacks-append ends_one (signed_decimal lo) (codes ".." ++ signed_decimal hi) (lacks_signed ends_one one_free lo (fits_small lo at.0))
    (lacks-append ends_one (codes "..") (signed_decimal hi) (record { is = refl }) (lacks_signed ends_one one_free hi (fits_small hi at.1)))
lacks_value Ret at = record { is = refl }
