-- Texts of which each writes a number from 1 to some number, without a minus.
use Rattle.std.proofs.Common.{◌≡◌, ◌≤◌, ℕ, Bool, cond, true, false, not, [], ◌∷◌, Some, None, refl, ap, arith}
use Rattle.std.specs.Prelude.{pos, unwrap_or}
use Rattle.std.proofs.lemmas.Int.{ints}
use Rattle.std.specs.Str.Parse.{starts_with_minus}
use Rattle.clap.specs.Words.{IsSignedIn, Text, without_minus}
use Rattle.bt_words.specs.Law.{is_name}
use Rattle.bt_words.specs.Request.{number_of}

pub no_minus : (most : ℕ) (t : Text) → IsSignedIn (pos 1) (pos most) t → starts_with_minus t ≡ false
no_minus most t passed = go (starts_with_minus t) refl
  where
    go : (b : Bool) → starts_with_minus t ≡ b → b ≡ false
    go true minus =
        let low = rw minus at passed.2 in
        absurd (omega (arith, ints))
    go false minus = refl

-- a text that reads as a number from 1 to another has that number
pub number_within : (most : ℕ) (t : Text) → IsSignedIn (pos 1) (pos most) t → (1 ≤ number_of t) × (number_of t ≤ most)
number_within most t passed =
    let minus = no_minus most t passed in
    let low = rw minus at passed.2 in
    let high = rw minus at passed.3 in
    (omega (arith, ints), omega (arith, ints))

name_of_plain : (t : Text) → starts_with_minus t ≡ false → is_name t ≡ true
name_of_plain [] e = refl
name_of_plain (x ∷ []) e = refl
name_of_plain (x ∷ y ∷ rest) e = ap not e

-- such a text is no option
pub number_is_name : (most : ℕ) (t : Text) → IsSignedIn (pos 1) (pos most) t → is_name t ≡ true
number_is_name most t passed = name_of_plain t (no_minus most t passed)

plain_as_it_is : (t : Text) → starts_with_minus t ≡ false → without_minus t ≡ t
plain_as_it_is [] e = refl
plain_as_it_is (x ∷ xs) e = ap (λ b. unwrap_or (cond b (Some xs) None) (x ∷ xs)) e

-- such a text begins with no minus
pub number_as_it_is : (most : ℕ) (t : Text) → IsSignedIn (pos 1) (pos most) t → without_minus t ≡ t
number_as_it_is most t passed = plain_as_it_is t (no_minus most t passed)
