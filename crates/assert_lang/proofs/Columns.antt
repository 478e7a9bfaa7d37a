-- The words of a line stand at their columns.
use Rattle.std.proofs.Common.{◌≡◌, ℕ, ◌+◌, ◌-◌, ◌≤◌, Bool, true, false, List, [], ◌∷◌, length, take, drop, All, ap, ◌∙◌, arith, length-take}
use Rattle.std.proofs.lemmas.List.Elements.{All-cons, All-nil, All-weaker}
use Rattle.line_text.proofs.LineTexts.{drop_one}
use Rattle.assert_lang.specs.Column.{Stands, ColumnsAreRight}
use Rattle.assert_lang.specs.Phrase.{Token, is_plain, starts, word_at, onto, tokens_from}
use Rattle.assert_lang.proofs.Phrases.{head_front}

-- a word stands in bytes whose first has a column
record StandsFrom (column : ℕ) (bytes : List ℕ) (token : Token) : Type 0 where
  pub some : column ≤ token.column
  pub within : token.column + length token.word ≤ column + length bytes
  pub is : take (length token.word) (drop (token.column - column) bytes) ≡ token.word

-- a byte in front
further : (column b : ℕ) (bytes : List ℕ) (token : Token) → StandsFrom (column + 1) bytes token → StandsFrom column (b ∷ bytes) token
further column b bytes token s = record {
  some = (let some = s.some in omega arith);
  within = (let within = s.within in omega arith);
  is =
      (let some = s.some in
      let n : token.column - column ≡ 1 + (token.column - (column + 1)) = omega arith in
      ap (λ (k : ℕ). take (length token.word) (drop k (b ∷ bytes))) n
      ∙ ap (take (length token.word)) (drop_one (token.column - (column + 1)) b bytes)
      ∙ s.is);
}

all_further : (column b : ℕ) (bytes : List ℕ) (tokens : List Token) → All (StandsFrom (column + 1) bytes) tokens → All (StandsFrom column (b ∷ bytes)) tokens
all_further column b bytes tokens all = All-weaker (StandsFrom (column + 1) bytes) (StandsFrom column (b ∷ bytes)) (further column b bytes) tokens all

head_stands : (column b : ℕ) (bytes : List ℕ) → StandsFrom column (b ∷ bytes) (record { word = word_at b bytes; column = column })
head_stands column b bytes = record {
  some = omega arith;
  within =
      (let front : length (take (length (word_at b bytes)) (b ∷ bytes)) ≡ length (word_at b bytes) = ap length (head_front b bytes) in
      omega (arith, front, length-take (length (word_at b bytes)) (b ∷ bytes)));
  is = (let none : column - column ≡ 0 = omega arith in ap (λ (k : ℕ). take (length (word_at b bytes)) (drop k (b ∷ bytes))) none ∙ head_front b bytes);
}

onto_all : (P : Token → Type 0) (first : Bool) (token : Token) (tokens : List Token) → P token → All P tokens → All P (onto first token tokens)
onto_all P true token tokens one all = All-cons P token tokens one all
onto_all P false token tokens one all = all

tokens_stand : (column : ℕ) (inside : Bool) (bytes : List ℕ) → All (StandsFrom column bytes) (tokens_from column inside bytes)
tokens_stand column inside [] = All-nil (StandsFrom column [])
tokens_stand column inside (b ∷ bytes) =
    onto_all (StandsFrom column (b ∷ bytes)) (starts inside b) (record { word = word_at b bytes; column = column })
    (tokens_from (column + 1) (is_plain b) bytes)
    (head_stands column b bytes) (all_further column b bytes (tokens_from (column + 1) (is_plain b) bytes) (tokens_stand (column + 1) (is_plain b) bytes))

-- each word stands at its column of the line
pub columns_right : ColumnsAreRight
columns_right line = record {
  each = All-weaker (StandsFrom 1 line) (Stands line)
      (λ token s. record { some = s.some; within = (let within = s.within in omega arith); is = s.is }) (tokens_from 1 false line)
      (tokens_stand 1 false line);
  end = omega arith;
}
