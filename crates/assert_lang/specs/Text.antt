-- The assertions of a text.
use Rattle.std.specs.Prelude.{◌≡◌, ℕ, ◌+◌, nat_le, if◌then◌else◌, List, [], ◌∷◌, length, take, Result, Ok, Err}
use Rattle.std.specs.Str.Lines.{lines}
use Rattle.line_text.specs.LineText.{uncommented}
use Rattle.assert_lang.specs.Phrase.{Token, Phrase, phrase_from}
use Rattle.assert_lang.specs.Statement.{statement}
use Rattle.assert_lang.specs.declared.assertion.Assertion.{Assertion}
use Rattle.assert_lang.specs.declared.assertion.Body.{Body}
use Rattle.assert_lang.specs.declared.refusal.AssertRefusal.{AssertRefusal}
use Rattle.assert_lang.specs.declared.refusal.AssertRefusal.TheVariants as refusal
use Rattle.assert_lang.specs.declared.refusal.Fault.{Fault}
use Rattle.assert_lang.specs.declared.refusal.Fault.TheVariants as fault

-- a line that has words: its number, from 1, and its words
pub record Row : Type 0 where
  pub number : ℕ
  pub phrase : Phrase

abbrev pub onto_rows : List Token → Row → List Row → List Row
onto_rows [] row rows = rows
onto_rows (token ∷ more) row rows = row ∷ rows

-- a line in front of others; without words it is left out
abbrev pub onto : Row → List Row → List Row
onto row rows = onto_rows row.phrase.tokens row rows

-- the lines that have words, where the first line has this number
abbrev pub rows_from : ℕ → List (List ℕ) → List Row
rows_from number [] = []
rows_from number (line ∷ rest) =
    onto (record { number = number; phrase = phrase_from 1 (uncommented line) }) (rows_from (number + 1) rest)

-- a line's fault as a refusal of the text
abbrev pub at_line : ℕ → Fault → AssertRefusal
at_line number fault.Want = refusal.Want
at_line number (fault.Misfit column expected) = refusal.Line number column expected

abbrev pub numbered : ℕ → Result Body Fault → Result Assertion AssertRefusal
numbered number (Err fault) = Err (at_line number fault)
numbered number (Ok body) = Ok (record { line = number; body = body })

-- the assertion of a line
abbrev pub assertion_of : Row → Result Assertion AssertRefusal
assertion_of row = numbered row.number (statement row.phrase)

-- an assertion in front of others, or the first refusal
abbrev pub before : Result Assertion AssertRefusal → Result (List Assertion) AssertRefusal → Result (List Assertion) AssertRefusal
before (Err refusal) later = Err refusal
before (Ok assertion) (Err refusal) = Err refusal
before (Ok assertion) (Ok rest) = Ok (assertion ∷ rest)

-- the assertions of all of these lines, or the refusal of the first that is none
abbrev pub all_of : List Row → Result (List Assertion) AssertRefusal
all_of [] = Ok []
all_of (row ∷ rest) = before (assertion_of row) (all_of rest)

-- so many assertions and no more
abbrev pub limited : Result (List Assertion) AssertRefusal → Result (List Assertion) AssertRefusal
limited (Err refusal) = Err refusal
limited (Ok list) = if nat_le (length list) 4096 then Ok list else Err (refusal.Limit 4097)

-- the assertions of the lines that have words, where there are at most 4,096; of others the first 4,097 decide
abbrev pub list_of : List Row → Result (List Assertion) AssertRefusal
list_of rows = limited (all_of (take 4097 rows))

-- the assertions of a text, one for each line that has words, or the first refusal
unfoldable pub assertions_of : List ℕ → Result (List Assertion) AssertRefusal
assertions_of text = list_of (rows_from 1 (lines text))

-- a refusal that something answers in place of what is defined: that one, or want of memory
abbrev pub IsRefusalOf : {A : Type 0} → Result A AssertRefusal → AssertRefusal → Type 0
IsRefusalOf defined refusal.Want = Unit {0}
IsRefusalOf defined (refusal.Line number column expected) = defined ≡ Err (refusal.Line number column expected)
IsRefusalOf defined (refusal.Limit count) = defined ≡ Err (refusal.Limit count)
