-- Eight hexadecimal digits tell their number, and a line its address and its word.
use Rattle.std.proofs.Common.{◌≡◌, ℕ, ◌/◌, ◌%◌, ◌^◌, ◌<◌, List, ap, arith, get_or}
use Rattle.bt_base.specs.Text.{hex_digit}
use Rattle.sparc_text.specs.Listing.{line_of}
use Rattle.sparc_text.specs.Names.{hex8_text}

digit_tells : (c d : ℕ) → c < 16 → d < 16 → hex_digit c ≡ hex_digit d → c ≡ d
digit_tells c d c_less d_less same = grind arith

-- the digit of a number at a power of 16 tells that part of it
part_tells : (v w : ℕ) → hex_digit (v % 16) ≡ hex_digit (w % 16) → v % 16 ≡ w % 16
part_tells v w same = digit_tells (v % 16) (w % 16) (omega arith) (omega arith) same

-- the number of eight digits
parts_tell : (v w : ℕ) → v < 2 ^ 32 → w < 2 ^ 32 → v / 2 ^ 28 % 16 ≡ w / 2 ^ 28 % 16 → v / 2 ^ 24 % 16 ≡ w / 2 ^ 24 % 16
    → v / 2 ^ 20 % 16 ≡ w / 2 ^ 20 % 16 → v / 2 ^ 16 % 16 ≡ w / 2 ^ 16 % 16 → v / 2 ^ 12 % 16 ≡ w / 2 ^ 12 % 16
    → v / 2 ^ 8 % 16 ≡ w / 2 ^ 8 % 16 → v / 2 ^ 4 % 16 ≡ w / 2 ^ 4 % 16 → v % 16 ≡ w % 16 → v ≡ w
parts_tell v w v_less w_less a b c d e f g h = omega arith

-- a line tells its address and its word
pub line_tells : (at word other_at other_word : ℕ) → at < 2 ^ 32 → word < 2 ^ 32 → other_at < 2 ^ 32 → other_word < 2 ^ 32
    → line_of at word ≡ line_of other_at other_word → (at ≡ other_at) × (word ≡ other_word)
unfolding line_of hex8_text
line_tells at word other_at other_word at_less word_less other_at_less other_word_less same = (
  parts_tell at other_at at_less other_at_less
      (part_tells (at / 2 ^ 28) (other_at / 2 ^ 28) (ap (λ (line : List ℕ). get_or line 0 0) same))
      (part_tells (at / 2 ^ 24) (other_at / 2 ^ 24) (ap (λ (line : List ℕ). get_or line 1 0) same))
      (part_tells (at / 2 ^ 20) (other_at / 2 ^ 20) (ap (λ (line : List ℕ). get_or line 2 0) same))
      (part_tells (at / 2 ^ 16) (other_at / 2 ^ 16) (ap (λ (line : List ℕ). get_or line 3 0) same))
      (part_tells (at / 2 ^ 12) (other_at / 2 ^ 12) (ap (λ (line : List ℕ). get_or line 4 0) same))
      (part_tells (at / 2 ^ 8) (other_at / 2 ^ 8) (ap (λ (line : List ℕ). get_or line 5 0) same))
      (part_tells (at / 2 ^ 4) (other_at / 2 ^ 4) (ap (λ (line : List ℕ). get_or line 6 0) same))
      (part_tells at other_at (ap (λ (line : List ℕ). get_or line 7 0) same)),
  parts_tell word other_word word_less other_word_less
      (part_tells (word / 2 ^ 28) (other_word / 2 ^ 28) (ap (λ (line : List ℕ). get_or line 9 0) same))
      (part_tells (word / 2 ^ 24) (other_word / 2 ^ 24) (ap (λ (line : List ℕ). get_or line 10 0) same))
      (part_tells (word / 2 ^ 20) (other_word / 2 ^ 20) (ap (λ (line : List ℕ). get_or line 11 0) same))
      (part_tells (word / 2 ^ 16) (other_word / 2 ^ 16) (ap (λ (line : List ℕ). get_or line 12 0) same))
      (part_tells (word / 2 ^ 12) (other_word / 2 ^ 12) (ap (λ (line : List ℕ). get_or line 13 0) same))
      (part_tells (word / 2 ^ 8) (other_word / 2 ^ 8) (ap (λ (line : List ℕ). get_or line 14 0) same))
      (part_tells (word / 2 ^ 4) (other_word / 2 ^ 4) (ap (λ (line : List ℕ). get_or line 15 0) same))
      (part_tells word other_word (ap (λ (line : List ℕ). get_or line 16 0) same)),
)
