-- What a load finds: a word that can be read, and numbers of so many bits.
use Rattle.std.proofs.Common.{◌≡◌, ℕ, ◌%◌, ◌^◌, ◌==◌, ◌<◌, All, Bool, true, false, take, drop, List, Option, Some, None, refl, sym, ◌∙◌, arith}
use Rattle.std.specs.Option.{option_map}
use Rattle.std.proofs.lemmas.List.Elements.{All-take, All-drop}
use Rattle.byteorder.specs.Endian.{big_number}
use Rattle.byteorder.specs.Numbers.{big_from-lt}
use Rattle.bt_image.specs.File.{word_field}
use Rattle.bt_image.specs.Image.{holder, held, place_in, word}
use Rattle.bt_image.specs.Section.{is_read_only_section}
use Rattle.bt_image.specs.declared.section.Section.{Section}
use Rattle.sparc_machine.specs.Memory.{constant_bytes, read_number}
use Rattle.sparc_runs.proofs.Bounds.{below_everywhere}
use Rattle.sparc_runs.specs.Sound.{AreBytes}

-- a word that can be read is the number of the bytes that a load of its address finds
pub record IsConstant (image : List ℕ) (a w : ℕ) : Type 0 where
  pub these : List ℕ
  pub are : constant_bytes image a 4 ≡ Some these
  pub number : w ≡ big_number 4 these

-- a word that can be read is constant
pub word_is_constant : (image : List ℕ) (a w : ℕ) → word image a ≡ Some w → IsConstant image a w
unfolding word_field
word_is_constant image a w is = by (a % 4 == 0) (held is_read_only_section image a 4) refl refl where
  by : (even : Bool) (o : Option (List ℕ)) → (a % 4 == 0) ≡ even → held is_read_only_section image a 4 ≡ o → IsConstant image a w
  by false o e h = absurd (let none : None ≡ Some w = sym (rw e refl) ∙ is in cc)
  by true None e h = absurd (let none : None ≡ Some w = sym (rw (e, h) refl) ∙ is in cc)
  by true (Some these) e h =
      let some : Some (big_number 4 these) ≡ Some w = sym (rw (e, h) refl) ∙ is in
      record { these = these; are = h; number = (let back : w ≡ big_number 4 these = cc in back) }

-- what a load of a byte or of a halfword finds, over an image of bytes
abbrev AreHeld : Option (List ℕ) → Type 0
AreHeld None = Unit {0}
AreHeld (Some these) = All (λ b. b < 256) these

held_bytes : (image : List ℕ) (a n : ℕ) → AreBytes image → AreHeld (constant_bytes image a n)
unfolding held
held_bytes image a n are = by (holder is_read_only_section image a n) where
  by : (s : Option Section) → AreHeld (option_map (λ (t : Section). take n (drop (place_in t a) image)) s)
  by None = tt
  by (Some s) = All-take (λ b. b < 256) n (drop (place_in s a) image) (All-drop (λ b. b < 256) (place_in s a) image are)

-- what a load of a byte finds has 8 bits
pub byte_read : (image : List ℕ) (a free : ℕ) → AreBytes image → read_number (constant_bytes image a 1) 1 free < 2 ^ 8
byte_read image a free are = by (constant_bytes image a 1) (held_bytes image a 1 are) where
  by : (o : Option (List ℕ)) → AreHeld o → read_number o 1 free < 2 ^ 8
  by None held_so = omega arith
  by (Some these) held_so = big_from-lt 0 1 these (λ k. below_everywhere 256 these k (omega arith) held_so)

-- what a load of a halfword finds has 16 bits
pub half_read : (image : List ℕ) (a free : ℕ) → AreBytes image → read_number (constant_bytes image a 2) 2 free < 2 ^ 16
half_read image a free are = by (constant_bytes image a 2) (held_bytes image a 2 are) where
  by : (o : Option (List ℕ)) → AreHeld o → read_number o 2 free < 2 ^ 16
  by None held_so = omega arith
  by (Some these) held_so = big_from-lt 0 2 these (λ k. below_everywhere 256 these k (omega arith) held_so)
