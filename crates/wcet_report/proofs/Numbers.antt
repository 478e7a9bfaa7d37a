-- Texts of numbers, addresses and program points tell what they are of, and have no byte but their own.
use Rattle.std.proofs.Common.{◌≡◌, ℕ, ◌+◌, ◌/◌, ◌%◌, ◌^◌, ◌<◌, ℤ, pos, negsuc, Bool, false, List, [], ◌∷◌, ◌++◌, refl, ap, arith, get_or, suc}
use Rattle.std.proofs.lemmas.Fmt.{decimal_by_steps}
use Rattle.std.specs.Fmt.{signed_decimal}
use Rattle.std.specs.Int.Signed.{mag}
use Rattle.std.specs.Prelude.{decimal}
use Rattle.bt_base.specs.Text.{hex_digit, hex8_of}
use Rattle.wcet_report.proofs.Cuts.{Lacks, lacks-append}

digit_tells : (c d : ℕ) → c < 16 → d < 16 → hex_digit c ≡ hex_digit d → c ≡ d
digit_tells c d c_less d_less same = grind arith

part_tells : (v w : ℕ) → hex_digit (v % 16) ≡ hex_digit (w % 16) → v % 16 ≡ w % 16
part_tells v w same = digit_tells (v % 16) (w % 16) (omega arith) (omega arith) same

parts_tell : (v w : ℕ) → v < 2 ^ 32 → w < 2 ^ 32 → v / 2 ^ 28 % 16 ≡ w / 2 ^ 28 % 16 → v / 2 ^ 24 % 16 ≡ w / 2 ^ 24 % 16
    → v / 2 ^ 20 % 16 ≡ w / 2 ^ 20 % 16 → v / 2 ^ 16 % 16 ≡ w / 2 ^ 16 % 16 → v / 2 ^ 12 % 16 ≡ w / 2 ^ 12 % 16
    → v / 2 ^ 8 % 16 ≡ w / 2 ^ 8 % 16 → v / 2 ^ 4 % 16 ≡ w / 2 ^ 4 % 16 → v % 16 ≡ w % 16 → v ≡ w
parts_tell v w v_less w_less a b c d e f g h = omega arith

eight_behind : List ℕ → List ℕ
eight_behind (a ∷ b ∷ c ∷ d ∷ e ∷ f ∷ g ∷ h ∷ rest) = rest
eight_behind _ = []

-- eight hexadecimal digits before a text tell their number and the text
pub hex8_tells : (v w : ℕ) (t u : List ℕ) → v < 2 ^ 32 → w < 2 ^ 32 → hex8_of v ++ t ≡ hex8_of w ++ u → (v ≡ w) × (t ≡ u)
unfolding eight_behind
hex8_tells v w t u v_less w_less same = (
  parts_tell v w v_less w_less
      (part_tells (v / 2 ^ 28) (w / 2 ^ 28) (ap (λ (text : List ℕ). get_or text 0 0) same))
      (part_tells (v / 2 ^ 24) (w / 2 ^ 24) (ap (λ (text : List ℕ). get_or text 1 0) same))
      (part_tells (v / 2 ^ 20) (w / 2 ^ 20) (ap (λ (text : List ℕ). get_or text 2 0) same))
      (part_tells (v / 2 ^ 16) (w / 2 ^ 16) (ap (λ (text : List ℕ). get_or text 3 0) same))
      (part_tells (v / 2 ^ 12) (w / 2 ^ 12) (ap (λ (text : List ℕ). get_or text 4 0) same))
      (part_tells (v / 2 ^ 8) (w / 2 ^ 8) (ap (λ (text : List ℕ). get_or text 5 0) same))
      (part_tells (v / 2 ^ 4) (w / 2 ^ 4) (ap (λ (text : List ℕ). get_or text 6 0) same))
      (part_tells v w (ap (λ (text : List ℕ). get_or text 7 0) same)),
  ap eight_behind same,
)

-- a kind of byte that no digit of a number is
pub record NoDigit (stops : ℕ → Bool) : Type 0 where
  pub decimal : (d : ℕ) → d < 10 → stops (48 + d) ≡ false
  pub hexadecimal : (d : ℕ) → d < 16 → stops (hex_digit d) ≡ false
  pub sign : stops 45 ≡ false

-- a byte that ends no word before others
pub lacks_one : (stops : ℕ → Bool) (b : ℕ) (bs : List ℕ) → stops b ≡ false → Lacks stops bs → Lacks stops (b ∷ bs)
lacks_one stops b bs at rest = record { is = grind (arith, at, rest.is) }

-- a decimal number has nothing that ends a word
pub lacks_decimal : (stops : ℕ → Bool) → NoDigit stops → (n : ℕ) → n < 2 ^ 64 → Lacks stops (decimal n)
lacks_decimal stops no_digit n small = decimal_by_steps (λ _ ds. Lacks stops ds)
    (λ m less. lacks_one stops (48 + m) [] (no_digit.decimal m less) (record { is = refl }))
    (λ m ds many front. lacks-append stops ds ((48 + m % 10) ∷ []) front
    (lacks_one stops (48 + m % 10) [] (no_digit.decimal (m % 10) (omega arith)) (record { is = refl })))
    n small

-- a number with sign has nothing that ends a word
pub lacks_signed : (stops : ℕ → Bool) → NoDigit stops → (z : ℤ) → mag z < 2 ^ 63 → Lacks stops (signed_decimal z)
lacks_signed stops no_digit (pos n) small = lacks_decimal stops no_digit n (omega (arith, small))
lacks_signed stops no_digit (negsuc n) small =
    lacks_one stops 45 (decimal (suc n)) no_digit.sign (lacks_decimal stops no_digit (suc n) (omega (arith, small)))

-- eight hexadecimal digits have nothing that ends a word
pub lacks_hex8 : (stops : ℕ → Bool) → NoDigit stops → (v : ℕ) → Lacks stops (hex8_of v)
lacks_hex8 stops no_digit v =
    let each : (n : ℕ) (rest : List ℕ) → Lacks stops rest → Lacks stops (hex_digit (n % 16) ∷ rest) =
    λ n rest after. lacks_one stops (hex_digit (n % 16)) rest (no_digit.hexadecimal (n % 16) (omega arith)) after in
    each (v / 2 ^ 28) _ (each (v / 2 ^ 24) _ (each (v / 2 ^ 20) _ (each (v / 2 ^ 16) _ (each (v / 2 ^ 12) _
    (each (v / 2 ^ 8) _ (each (v / 2 ^ 4) _ (each v _ (record { is = refl }))))))))
