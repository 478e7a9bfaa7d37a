-- How a line falls into words.
use Rattle.std.specs.Prelude.{◌≡◌, ℕ, ◌+◌, ◌≤◌, true, false, List, [], ◌∷◌, ◌++◌, length, All, codes}
use Rattle.line_text.specs.LineText.{is_blank}
use Rattle.assert_lang.specs.Phrase.{Token, is_plain, phrase_from}

-- a word with bytes behind it: a comma, or plain bytes with none behind them
pub data IsWord (word rest : List ℕ) : Type 0 where
  Comma : word ≡ codes "," → IsWord word rest
  Plain : 1 ≤ length word → All (λ b. is_plain b ≡ true) word → ((b : ℕ) (more : List ℕ) → rest ≡ b ∷ more → is_plain b ≡ false) → IsWord word rest

-- bytes from a column on are blanks and these words, in their order and at their columns, and nothing else
pub data AreParted : ℕ → List ℕ → List Token → Type 0 where
  Nothing : (column : ℕ) → AreParted column [] []
  Blank : (column b : ℕ) (rest : List ℕ) (tokens : List Token) → is_blank b ≡ true → AreParted (column + 1) rest tokens → AreParted column (b ∷ rest) tokens
  Word : (column : ℕ) (bytes word rest : List ℕ) (tokens : List Token) → bytes ≡ word ++ rest → IsWord word rest
      → AreParted (column + length word) rest tokens → AreParted column bytes (record { word = word; column = column } ∷ tokens)

-- each line falls into its words
abbrev pub LinesAreParted : Type 0
LinesAreParted = (line : List ℕ) → AreParted 1 line (phrase_from 1 line).tokens
