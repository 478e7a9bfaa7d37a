-- The candidates of computed transfers, as functions: they are the functions whose entries stand in words, and the labels in
-- the extent of an address.
use Rattle.std.proofs.Common.{◌≡◌, ℕ, zero, suc, ◌+◌, ◌-◌, ◌%◌, ◌^◌, ◌<◌, ◌≤◌, ◌&&◌, inl, inr, Bool, true, false, eqb, List, [], ◌∷◌, Option, Some}
use Rattle.std.proofs.Common.{None, Contains, Decides, refl, sym, ap, subst, ◌∙◌, arith, eq-eqb, ⊎_elim}
use Rattle.std.specs.Prelude.{◌==◌, not, nat_lt, nat_le, if◌then◌else◌}
use Rattle.std.specs.List.{All, list_all, list_any, range_with_len}
use Rattle.std.specs.List.Sorted.{IsStrictlyIncreasing}
use Rattle.std.specs.Option.{option_map}
use Rattle.std.specs.Set.{is_member}
use Rattle.std.proofs.lemmas.Bool.{and_parts, and_from, or_cases, or_left, or_right, cases_Bool, cases_lt, eqb-true, leb-true, ltb-true, le-leb}
use Rattle.std.proofs.lemmas.Bool.{lt-ltb, false≢true}
use Rattle.std.proofs.lemmas.List.Elements.{All-contains}
use Rattle.bt_base.proofs.RisingLists.{same_rising, first_there, rest_there}
use Rattle.bt_image.proofs.LeastLemmas.{first_of-found}
use Rattle.bt_image.specs.Extent.{IsExtent, Rise}
use Rattle.bt_image.specs.File.{section_count, word_field}
use Rattle.bt_image.specs.Image.{is_code, holding, holder, held, word_of}
use Rattle.bt_image.specs.Label.{IsCodeIn, IsLabelWithin, IsTaken}
use Rattle.bt_image.specs.Section.{section_at, is_loaded, is_code_section, is_read_only_section, holds}
use Rattle.bt_image.specs.Symbol.{functions}
use Rattle.bt_image.specs.declared.section.Section.{Section}
use Rattle.value_lattice.proofs.LeastLemmas.{head_or_tail}
use Rattle.value_lattice.proofs.TestLemmas.{member_decides}
use Rattle.value_lattice.proofs.WordsBelowLemmas.{words_rise, words_pass, passing_is_there}
use Rattle.value_lattice.specs.Passing.{words_below}
use Rattle.transfer_values.specs.Resolve.{is_word, stands_in_word, taken_functions, is_of, parts, is_within, is_near, is_label, labels_near}

-- numbers that rise, place by place
pub steps_from_rise : (xs : List ℕ) → Rise xs → IsStrictlyIncreasing xs
steps_from_rise xs rise k within = rise k (k + 1) (omega arith) within

-- a number of a range passes a test
record IsPassing (p : ℕ → Bool) (n : ℕ) : Type 0 where
  number : ℕ
  low : number < n
  passes : p number ≡ true

any_from : (p : ℕ → Bool) (a n k : ℕ) → a ≤ k → k < a + n → p k ≡ true → list_any p (range_with_len a n) ≡ true
any_from p a zero k above below passes = absurd (omega arith)
any_from p a (suc n) k above below passes =
    elim (cases_lt a k) [
      | inl more ↦ or_right (p a) (list_any p (range_with_len (a + 1) n)) (any_from p (a + 1) n k (omega arith) (omega arith) passes)
      | inr here ↦ (let same : k ≡ a = omega arith in or_left (p a) (list_any p (range_with_len (a + 1) n)) (subst (λ (j : ℕ). p j ≡ true) same passes))
    ]

any_is : (p : ℕ → Bool) (a n : ℕ) → list_any p (range_with_len a n) ≡ true → IsPassing p (a + n)
any_is p a zero any = absurd (false≢true any)
any_is p a (suc n) any =
    ⊎_elim (λ here. record { number = a; low = omega arith; passes = here })
    (λ more. let r : IsPassing p (a + 1 + n) = any_is p (a + 1) n more in record { number = r.number; low = omega (arith, r.low); passes = r.passes })
    (or_cases (p a) (list_any p (range_with_len (a + 1) n)) any)

-- what stands in words
record Stands (test : Section → Bool) (image : List ℕ) (a : ℕ) : Type 0 where
  place : ℕ
  word : word_of test image place ≡ Some a

is_word_some : (a : ℕ) (o : Option ℕ) → is_word a o ≡ true → o ≡ Some a
is_word_some a None is = absurd (false≢true is)
is_word_some a (Some w) is = ap Some (eqb-true w a is)

stands_from : (test : Section → Bool) (image : List ℕ) (a : ℕ) → stands_in_word test image a ≡ true → Stands test image a
unfolding stands_in_word
stands_from test image a any =
    let k = any_is (λ k. list_any (λ i. is_word a (word_of test image ((section_at image k).address + i)))
    (range_with_len 0 (section_at image k).size)) 0 (section_count image) any in
    let i = any_is (λ i. is_word a (word_of test image ((section_at image k.number).address + i))) 0 (section_at image k.number).size k.passes in
    record {
      place = (section_at image k.number).address + i.number;
      word = is_word_some a (word_of test image ((section_at image k.number).address + i.number)) i.passes;
    }

-- where a word stands, some section holds it
record IsHeld (test : Section → Bool) (image : List ℕ) (place : ℕ) : Type 0 where
  number : ℕ
  within : number < section_count image
  holds : holds (section_at image number) place 4 ≡ true

holding_is : (test : Section → Bool) (place : ℕ) (s t : Section) → holding test place 4 s ≡ Some t → holds s place 4 ≡ true
holding_is test place s t is = by_test (test s && holds s place 4) refl is where
  by_test : (b : Bool) → (test s && holds s place 4) ≡ b → (if b then Some s else None) ≡ Some t → holds s place 4 ≡ true
  by_test true both found = (and_parts (test s) (holds s place 4) both).1
  by_test false both none = cc

some_inside : {A B : Type 0} (f : A → B) (o : Option A) (y : B) → option_map f o ≡ Some y → (x : A) × (o ≡ Some x)
some_inside f None y is = cc
some_inside f (Some x) y is = (x, refl)

some_tested : {A : Type 0} (b : Bool) (o : Option A) (y : A) → (if b then o else None) ≡ Some y → o ≡ Some y
some_tested true o y is = is
some_tested false o y is = cc

holder_is : (test : Section → Bool) (image : List ℕ) (place : ℕ) (s : Section) → holder test image place 4 ≡ Some s → IsHeld test image place
unfolding holder
holder_is test image place s is =
    let found = first_of-found (λ k. holding test place 4 (section_at image k)) (section_count image) s is in
    record { number = found.0; within = found.1; holds = holding_is test place (section_at image found.0) s found.2 }

held_by : (test : Section → Bool) (image : List ℕ) (place : ℕ) (bytes : List ℕ) → held test image place 4 ≡ Some bytes → IsHeld test image place
unfolding held
held_by test image place bytes is = let s = some_inside _ (holder test image place 4) bytes is in holder_is test image place s.0 s.1

held_is : (test : Section → Bool) (image : List ℕ) (place a : ℕ) → word_of test image place ≡ Some a → IsHeld test image place
held_is test image place a is =
    let b = some_inside (λ bytes. word_field bytes 0) (held test image place 4) a
    (some_tested (place % 4 == 0) (option_map (λ bytes. word_field bytes 0) (held test image place 4)) a is) in
    held_by test image place b.0 b.1

word_is : (a : ℕ) (o : Option ℕ) → o ≡ Some a → is_word a o ≡ true
word_is a o is = ap (is_word a) is ∙ eq-eqb a a refl

from_stands : (test : Section → Bool) (image : List ℕ) (place a : ℕ) → word_of test image place ≡ Some a → stands_in_word test image a ≡ true
unfolding stands_in_word
from_stands test image place a is =
    let h : IsHeld test image place = held_is test image place a is in
    let s : Section = section_at image h.number in
    let both = and_parts (nat_le s.address place) (nat_le (place + 4) (s.address + s.size)) h.holds in
    let low : s.address ≤ place = leb-true s.address place both.0 in
    let high : place + 4 ≤ s.address + s.size = leb-true (place + 4) (s.address + s.size) both.1 in
    let at : s.address + (place - s.address) ≡ place = omega arith in
    any_from (λ k. list_any (λ i. is_word a (word_of test image ((section_at image k).address + i))) (range_with_len 0 (section_at image k).size)) 0
    (section_count image)
    h.number (omega arith) (omega (arith, h.within))
    (any_from (λ i. is_word a (word_of test image (s.address + i))) 0 s.size (place - s.address) (omega arith) (omega arith)
    (word_is a (word_of test image (s.address + (place - s.address))) (ap (word_of test image) at ∙ is)))

-- the functions whose entries stand in words
pub taken_is : (image xs : List ℕ) → All (λ a. a < 2 ^ 32) xs → Rise xs → All (IsTaken image) xs → ((a : ℕ) → IsTaken image a → Contains xs a)
    → xs ≡ taken_functions image
unfolding taken_functions
taken_is image xs fit rise each all =
    same_rising xs (words_below (2 ^ 32) (λ a. is_member eqb (functions image) a && stands_in_word is_loaded image a)) (steps_from_rise xs rise)
    (words_rise (2 ^ 32) (λ a. is_member eqb (functions image) a && stands_in_word is_loaded image a))
    (λ a there.
    let is : IsTaken image a = All-contains (IsTaken image) xs a each there in
    passing_is_there (2 ^ 32) (λ b. is_member eqb (functions image) b && stands_in_word is_loaded image b) a (All-contains (λ b. b < 2 ^ 32) xs a fit there)
    (and_from (is_member eqb (functions image) a) (stands_in_word is_loaded image a) ((member_decides (functions image) a).1 is.function)
    (from_stands is_loaded image is.place a is.word)))
    (λ a there.
    let both = and_parts (is_member eqb (functions image) a) (stands_in_word is_loaded image a)
    (words_pass (2 ^ 32) (λ b. is_member eqb (functions image) b && stands_in_word is_loaded image b) a there) in
    let stands : Stands is_loaded image a = stands_from is_loaded image a both.1 in
    all a (record { function = (member_decides (functions image) a).0 both.0; place = stands.place; word = stands.word }))

-- labels
pub label_decides : (image : List ℕ) (a : ℕ) → Decides (is_label image a) (IsCodeIn is_read_only_section image a)
label_decides image a = (
  λ e.
      let both = and_parts (is_code image a) (stands_in_word is_read_only_section image a) e in
      let stands : Stands is_read_only_section image a = stands_from is_read_only_section image a both.1 in
      record { code = both.0; place = stands.place; word = stands.word },
  λ is. and_from (is_code image a) (stands_in_word is_read_only_section image a) is.code (from_stands is_read_only_section image is.place a is.word),
)

-- an address is near another where it is in its extent
no_part : (pc a f : ℕ) → (pc < f → f ≤ a → ⊥) → (a < f → f ≤ pc → ⊥) → not (parts pc a f) ≡ true
no_part pc a f first second =
    elim (cases_Bool (parts pc a f)) [
      | inl parted ↦
          absurd (⊎_elim (λ e. let both = and_parts (nat_lt pc f) (nat_le f a) e in first (ltb-true pc f both.0) (leb-true f a both.1))
          (λ e. let both = and_parts (nat_lt a f) (nat_le f pc) e in second (ltb-true a f both.0) (leb-true f pc both.1))
          (or_cases (nat_lt pc f && nat_le f a) (nat_lt a f && nat_le f pc) parted))
      | inr clear ↦ ap not clear
    ]

parted_first : (pc a f : ℕ) → not (parts pc a f) ≡ true → pc < f → f ≤ a → ⊥
parted_first pc a f none low high =
    false≢true (sym (ap not (or_left (nat_lt pc f && nat_le f a) (nat_lt a f && nat_le f pc)
    (and_from (nat_lt pc f) (nat_le f a) (lt-ltb pc f low) (le-leb f a high)))) ∙ none)

parted_second : (pc a f : ℕ) → not (parts pc a f) ≡ true → a < f → f ≤ pc → ⊥
parted_second pc a f none low high =
    false≢true (sym (ap not (or_right (nat_lt pc f && nat_le f a) (nat_lt a f && nat_le f pc)
    (and_from (nat_lt a f) (nat_le f pc) (lt-ltb a f low) (le-leb f pc high)))) ∙ none)

all_from : (p : ℕ → Bool) (xs : List ℕ) → ((a : ℕ) → Contains xs a → p a ≡ true) → list_all p xs ≡ true
all_from p [] each = refl
all_from p (x ∷ xs) each = and_from (p x) (list_all p xs) (each x (first_there x xs)) (all_from p xs (λ a there. each a (rest_there x xs a there)))

all_at : (p : ℕ → Bool) (xs : List ℕ) (a : ℕ) → list_all p xs ≡ true → Contains xs a → p a ≡ true
all_at p [] a all there = absurd (omega (arith, there.1))
all_at p (x ∷ xs) a all there =
    let both = and_parts (p x) (list_all p xs) all in
    ⊎_elim (λ here. ap p here ∙ both.0) (λ more. all_at p xs a both.1 more) (head_or_tail x xs a there)

module _ (image : List ℕ) (pc low high : ℕ) (is : IsExtent image pc low high) where
  near_from : (a : ℕ) → low ≤ a → a < high → is_within image pc a ≡ true
  near_from a above below =
      and_from (is_of a (holder is_code_section image pc 4)) (list_all (λ f. not (parts pc a f)) (functions image))
      (ap (is_of a) is.code
      ∙ and_from (nat_le is.section.address a) (nat_lt a (is.section.address + is.section.size)) (le-leb is.section.address a (omega arith))
      (lt-ltb a (is.section.address + is.section.size) (omega arith)))
      (all_from (λ f. not (parts pc a f)) (functions image) (λ f there. no_part pc a f
      (λ more less. ⊎_elim (λ outside. omega arith) (λ outside. omega arith) (is.none f there))
      (λ more less. ⊎_elim (λ outside. omega arith) (λ outside. omega arith) (is.none f there))))

  inside : (a : ℕ) → is_within image pc a ≡ true → (is.section.address ≤ a) × (a < is.section.address + is.section.size)
  inside a near =
      let of = (and_parts (is_of a (holder is_code_section image pc 4)) (list_all (λ f. not (parts pc a f)) (functions image)) near).0 in
      let both = and_parts (nat_le is.section.address a) (nat_lt a (is.section.address + is.section.size)) (sym (ap (is_of a) is.code) ∙ of) in
      (leb-true is.section.address a both.0, ltb-true a (is.section.address + is.section.size) both.1)

  apart : (a f : ℕ) → is_within image pc a ≡ true → Contains (functions image) f → not (parts pc a f) ≡ true
  apart a f near there =
      all_at (λ g. not (parts pc a g)) (functions image) f
      (and_parts (is_of a (holder is_code_section image pc 4)) (list_all (λ g. not (parts pc a g)) (functions image)) near).1 there

  near_is : (a : ℕ) → is_within image pc a ≡ true → (low ≤ a) × (a < high)
  near_is a near = (above, below) where
    above : low ≤ a
    above =
        elim (cases_lt a low) [
          | inl less ↦
              ⊎_elim (λ start. let i = inside a near in omega (arith, start, i.0))
              (λ there. absurd (parted_second pc a low (apart a low near there) less is.around.0)) is.starts
          | inr more ↦ more
        ]

    below : a < high
    below =
        elim (cases_lt a high) [
          | inl less ↦ less
          | inr more ↦
              ⊎_elim (λ end. let i = inside a near in omega (arith, end, i.1))
              (λ there. absurd (parted_first pc a high (apart a high near there) is.around.1 more)) is.ends
        ]

  -- the labels between the ends of an extent are those near its address
  pub labels_are : (xs : List ℕ) → is_code image pc ≡ true → All (λ a. a < 2 ^ 32) xs → Rise xs → All (IsLabelWithin image low high) xs
      → ((a : ℕ) → IsLabelWithin image low high a → Contains xs a) → xs ≡ labels_near image pc
  unfolding labels_near is_near
  labels_are xs code fit rise each all =
      same_rising xs (words_below (2 ^ 32) (λ a. is_label image a && (is_code image pc && is_within image pc a))) (steps_from_rise xs rise)
      (words_rise (2 ^ 32) (λ a. is_label image a && (is_code image pc && is_within image pc a)))
      (λ a there.
      let w : IsLabelWithin image low high a = All-contains (IsLabelWithin image low high) xs a each there in
      passing_is_there (2 ^ 32) (λ b. is_label image b && (is_code image pc && is_within image pc b)) a (All-contains (λ b. b < 2 ^ 32) xs a fit there)
      (and_from (is_label image a) (is_code image pc && is_within image pc a) ((label_decides image a).1 w.label)
      (and_from (is_code image pc) (is_within image pc a) code (near_from a w.above w.below))))
      (λ a there.
      let both = and_parts (is_label image a) (is_code image pc && is_within image pc a)
      (words_pass (2 ^ 32) (λ b. is_label image b && (is_code image pc && is_within image pc b)) a there) in
      let near = near_is a (and_parts (is_code image pc) (is_within image pc a) both.1).1 in
      all a (record { label = (label_decides image a).0 both.0; above = near.0; below = near.1 }))

-- where no code is, no label is near
empty_list : (xs : List ℕ) → ((a : ℕ) → Contains xs a → ⊥) → [] ≡ xs
empty_list [] none = refl
empty_list (x ∷ xs) none = absurd (none x (first_there x xs))

-- an address that is no code has no labels near it
pub no_labels : (image : List ℕ) (pc : ℕ) → is_code image pc ≡ false → [] ≡ labels_near image pc
unfolding labels_near is_near
no_labels image pc none =
    empty_list (words_below (2 ^ 32) (λ a. is_label image a && (is_code image pc && is_within image pc a)))
    (λ a there.
    let both = and_parts (is_label image a) (is_code image pc && is_within image pc a)
    (words_pass (2 ^ 32) (λ b. is_label image b && (is_code image pc && is_within image pc b)) a there) in
    false≢true (sym none ∙ (and_parts (is_code image pc) (is_within image pc a) both.1).0))
