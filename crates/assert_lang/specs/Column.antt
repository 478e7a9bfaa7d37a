-- Where the words of a line stand.
use Rattle.std.specs.Prelude.{◌≡◌, ℕ, ◌+◌, ◌-◌, ◌≤◌, List, length, take, drop, All}
use Rattle.assert_lang.specs.Phrase.{Token, phrase_from}

-- a word stands in a line at its column, from 1
pub record Stands (line : List ℕ) (token : Token) : Type 0 where
  pub some : 1 ≤ token.column
  pub within : token.column + length token.word ≤ length line + 1
  pub is : take (length token.word) (drop (token.column - 1) line) ≡ token.word

-- each word of a line stands in it at its column, and the line ends where its end is
pub record WordsStand (line : List ℕ) : Type 0 where
  pub each : All (Stands line) (phrase_from 1 line).tokens
  pub end : (phrase_from 1 line).end ≡ length line + 1

-- the words of each line stand at their columns
abbrev pub ColumnsAreRight : Type 0
ColumnsAreRight = (line : List ℕ) → WordsStand line
