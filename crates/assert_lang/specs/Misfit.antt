-- Where a line is refused that is no statement.
use Rattle.std.specs.Prelude.{◌≡◌, ℕ, List, [], ◌∷◌, ◌++◌, map, Err}
use Rattle.assert_lang.specs.Grammar.{IsWritten, words_of}
use Rattle.assert_lang.specs.Phrase.{Token, Phrase}
use Rattle.assert_lang.specs.Statement.{statement}
use Rattle.assert_lang.specs.declared.assertion.Body.{Body}
use Rattle.assert_lang.specs.declared.refusal.Expected.{Expected}
use Rattle.assert_lang.specs.declared.refusal.Fault.TheVariants.{Misfit}

-- some statement begins with these words
pub record IsBegun (words : List (List ℕ)) : Type 0 where
  pub more : List (List ℕ)
  pub body : Body
  pub written : IsWritten (words ++ more) body

-- the words of tokens
abbrev pub bare : List Token → List (List ℕ)
bare tokens = map (λ token. token.word) tokens

-- a column is that of the first word that doesn't fit: some statement begins with the words before it, and none
-- with it too; or it is past the line's end, where its words begin a statement and write none
pub data IsRefusedAt (phrase : Phrase) (column : ℕ) : Type 0 where
  Unfit : (earlier : List Token) (token : Token) (later : List Token) → phrase.tokens ≡ earlier ++ token ∷ later → IsBegun (bare earlier)
      → ¬ IsBegun (bare earlier ++ token.word ∷ []) → column ≡ token.column → IsRefusedAt phrase column
  Wanting : IsBegun (words_of phrase) → ((body : Body) → ¬ IsWritten (words_of phrase) body) → column ≡ phrase.end → IsRefusedAt phrase column

-- a line that is no statement is refused at the first word that doesn't fit
abbrev pub MisfitsAreFirst : Type 0
MisfitsAreFirst = (phrase : Phrase) (column : ℕ) (expected : Expected) → statement phrase ≡ Err (Misfit column expected) → IsRefusedAt phrase column
