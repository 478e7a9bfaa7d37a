-- The statements that lines are.
use Rattle.std.specs.Prelude.{◌≡◌, ℕ, ℤ, Bool, true, false, List, [], ◌∷◌, Option, Some, None, Result, Ok, Err, if◌then◌else◌, codes}
use Rattle.std.specs.Str.{bytes_eq}
use Rattle.assert_lang.specs.Keyword.{keyword_of}
use Rattle.assert_lang.specs.Number.{count_of, range_of}
use Rattle.assert_lang.specs.Phrase.{Token, Phrase}
use Rattle.assert_lang.specs.Register.{register_of}
use Rattle.assert_lang.specs.Spot.{spot_of}
use Rattle.assert_lang.specs.declared.assertion.Body.{Body}
use Rattle.assert_lang.specs.declared.assertion.Body.TheVariants as body
use Rattle.assert_lang.specs.declared.keyword.Keyword.{Keyword}
use Rattle.assert_lang.specs.declared.keyword.Keyword.TheVariants as first
use Rattle.assert_lang.specs.declared.refusal.Expected.{Expected}
use Rattle.assert_lang.specs.declared.refusal.Expected.TheVariants as wanted
use Rattle.assert_lang.specs.declared.refusal.Fault.{Fault}
use Rattle.assert_lang.specs.declared.refusal.Fault.TheVariants.{Misfit, Want}
use Rattle.assert_lang.specs.declared.spot.Spot.{Spot}

-- what a word is, with the words behind it, or the fault of one that doesn't fit
abbrev pub fitting : {A : Type 0} → Fault → Phrase → Option A → Result (A × Phrase) Fault
fitting fault rest None = Err fault
fitting fault rest (Some value) = Ok (value, rest)

abbrev pub first_of : {A : Type 0} → (List ℕ → Option A) → Expected → ℕ → List Token → Result (A × Phrase) Fault
first_of read expected end [] = Err (Misfit end expected)
first_of read expected end (token ∷ rest) =
    fitting (Misfit token.column expected) (record { tokens = rest; end = end }) (read token.word)

-- the first word of a line as what it is to be, with the words behind it; or the column of a word that isn't
-- that, or of the line's end
abbrev pub first_as : {A : Type 0} → (List ℕ → Option A) → Expected → Phrase → Result (A × Phrase) Fault
first_as read expected phrase = first_of read expected phrase.end phrase.tokens

-- what follows, or the fault before it
abbrev pub followed : {A B : Type 0} → (A → Phrase → Result B Fault) → Result (A × Phrase) Fault → Result B Fault
followed more (Err fault) = Err fault
followed more (Ok (value, rest)) = more value rest

-- each is the first word of a line, and then what follows it
abbrev pub place : {B : Type 0} → (Spot → Phrase → Result B Fault) → Phrase → Result B Fault
place more phrase = followed more (first_as spot_of wanted.Place phrase)

abbrev pub register : {B : Type 0} → (ℕ → Phrase → Result B Fault) → Phrase → Result B Fault
register more phrase = followed more (first_as register_of wanted.Register phrase)

abbrev pub range : {B : Type 0} → (ℤ × ℤ → Phrase → Result B Fault) → Phrase → Result B Fault
range more phrase = followed more (first_as range_of wanted.Range phrase)

abbrev pub count : {B : Type 0} → (ℕ → Phrase → Result B Fault) → Phrase → Result B Fault
count more phrase = followed more (first_as count_of wanted.Count phrase)

-- a word that is this one
abbrev pub itself : List ℕ → List ℕ → Option (List ℕ)
itself text word = if bytes_eq word text then Some text else None

abbrev pub the_word : {B : Type 0} → List ℕ → Expected → (List ℕ → Phrase → Result B Fault) → Phrase → Result B Fault
the_word text expected more phrase = followed more (first_as (itself text) expected phrase)

-- a value where no word is left
abbrev pub ended : {B : Type 0} → B → List Token → Result B Fault
ended value [] = Ok value
ended value (token ∷ rest) = Err (Misfit token.column wanted.End)

abbrev pub end : {B : Type 0} → B → Phrase → Result B Fault
end value phrase = ended value phrase.tokens

-- a place in front of others, or the fault of a word that is none
abbrev pub in_front : Fault → Option Spot → Result (List Spot) Fault → Result (List Spot) Fault
in_front fault None rest = Err fault
in_front fault (Some spot) (Err later) = Err later
in_front fault (Some spot) (Ok rest) = Ok (spot ∷ rest)

-- places with commas between them up to the line's end, where a place comes next or what follows one
abbrev pub listed : Bool → ℕ → List Token → Result (List Spot) Fault
listed true end [] = Err (Misfit end wanted.Place)
listed false end [] = Ok []
listed true end (token ∷ rest) = in_front (Misfit token.column wanted.Place) (spot_of token.word) (listed false end rest)
listed false end (token ∷ rest) =
    if bytes_eq token.word (codes ",") then listed true end rest else Err (Misfit token.column wanted.End)

abbrev pub made : (List Spot → Body) → Result (List Spot) Fault → Result Body Fault
made make (Err fault) = Err fault
made make (Ok list) = Ok (make list)

-- one place or more, and then the line's end
abbrev pub places : (List Spot → Body) → Phrase → Result Body Fault
places make phrase = made make (listed true phrase.end phrase.tokens)

-- what follows each keyword
abbrev pub form : Keyword → Phrase → Result Body Fault
form first.Root = place (λ spot. end (body.Root spot))
form first.Never = place (λ spot. end (body.Never spot))
form first.At = place (λ spot. register (λ reg. range (λ ends. end (body.At spot reg ends.0 ends.1))))
form first.Jump = place (λ spot. the_word (codes "to") wanted.To (λ _. places (body.Jump spot)))
form first.Call = place (λ spot. the_word (codes "to") wanted.To (λ _. places (body.CallTo spot)))
form first.Loop = place (λ spot. the_word (codes "repeats") wanted.Repeats (λ _. count (λ n. end (body.Loop spot n))))
form first.Stub = place (λ spot. the_word (codes "time") wanted.Time (λ _. count (λ n. end (body.Stub spot n))))

-- the statement that a line is; or its first word that doesn't fit, by its column and what was expected there
abbrev pub statement : Phrase → Result Body Fault
statement phrase = followed form (first_as keyword_of wanted.Keyword phrase)

-- a fault that something answers in place of what is defined: that one, or want of memory
abbrev pub IsFaultOf : {A : Type 0} → Result A Fault → Fault → Type 0
IsFaultOf defined Want = Unit {0}
IsFaultOf defined (Misfit column expected) = defined ≡ Err (Misfit column expected)
