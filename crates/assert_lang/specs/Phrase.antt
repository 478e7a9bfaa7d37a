-- The words of a line, each with its column.
use Rattle.std.specs.Prelude.{◌==◌, ℕ, ◌+◌, Bool, true, false, not, ◌&&◌, ◌||◌, if◌then◌else◌, List, [], ◌∷◌, length}
use Rattle.std.specs.List.{before_first}
use Rattle.line_text.specs.LineText.{is_blank}

-- a word and the column of its first byte
pub record Token : Type 0 where
  pub word : List ℕ
  pub column : ℕ

-- the words that are left of a line, and the column past its end
pub record Phrase : Type 0 where
  pub tokens : List Token
  pub end : ℕ

-- a comma is a word of its own
abbrev pub is_comma : ℕ → Bool
is_comma b = b == 44

-- a byte that parts no words
abbrev pub is_plain : ℕ → Bool
is_plain b = not (is_blank b) && not (is_comma b)

-- whether a word starts at a byte: at each comma, and at a plain byte that no plain byte stands before
abbrev pub starts : Bool → ℕ → Bool
starts inside b = is_comma b || (is_plain b && not inside)

-- the word that starts at a byte with others behind it: a comma, or the plain bytes up to the next that isn't
abbrev pub word_at : ℕ → List ℕ → List ℕ
word_at b rest = if is_comma b then b ∷ [] else b ∷ before_first (λ c. not (is_plain c)) rest

-- the word at the head of some bytes
abbrev pub head_of : List ℕ → List ℕ
head_of [] = []
head_of (b ∷ rest) = word_at b rest

-- a word in front of others, where one starts
abbrev pub onto : Bool → Token → List Token → List Token
onto true token tokens = token ∷ tokens
onto false token tokens = tokens

-- the words of bytes from a column on, where a plain byte stands before them or not
abbrev pub tokens_from : ℕ → Bool → List ℕ → List Token
tokens_from column inside [] = []
tokens_from column inside (b ∷ rest) =
    onto (starts inside b) (record { word = word_at b rest; column = column }) (tokens_from (column + 1) (is_plain b) rest)

-- the words of the bytes of a line from a column on
abbrev pub phrase_from : ℕ → List ℕ → Phrase
phrase_from column bytes = record { tokens = tokens_from column false bytes; end = column + length bytes }
