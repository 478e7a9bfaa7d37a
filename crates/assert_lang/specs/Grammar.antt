-- The grammar of statements: the words that write each of them.
use Rattle.std.specs.Prelude.{◌≡◌, ℕ, ℤ, List, [], ◌∷◌, map, Some, Ok, ◌↔◌, codes}
use Rattle.assert_lang.specs.Number.{count_of, range_of}
use Rattle.assert_lang.specs.Phrase.{Phrase}
use Rattle.assert_lang.specs.Register.{register_of}
use Rattle.assert_lang.specs.Spot.{spot_of}
use Rattle.assert_lang.specs.Statement.{statement}
use Rattle.assert_lang.specs.declared.assertion.Body.{Body}
use Rattle.assert_lang.specs.declared.assertion.Body.TheVariants.{Root, Never, At, Jump, CallTo, Loop, Stub}
use Rattle.assert_lang.specs.declared.spot.Spot.{Spot}

-- a keyword and a place
pub record IsPlaced (keyword : List ℕ) (words : List (List ℕ)) (spot : Spot) : Type 0 where
  pub place : List ℕ
  pub are : words ≡ keyword ∷ place ∷ []
  pub spelled : spot_of place ≡ Some spot

-- `at`, a place, a register and a range
pub record IsRanged (words : List (List ℕ)) (spot : Spot) (reg : ℕ) (lo hi : ℤ) : Type 0 where
  pub place : List ℕ
  pub register : List ℕ
  pub range : List ℕ
  pub are : words ≡ codes "at" ∷ place ∷ register ∷ range ∷ []
  pub spelled : spot_of place ≡ Some spot
  pub named : register_of register ≡ Some reg
  pub bounded : range_of range ≡ Some (lo, hi)

-- a keyword, a place, a word that leads on and a count
pub record IsCounted (keyword link : List ℕ) (words : List (List ℕ)) (spot : Spot) (count : ℕ) : Type 0 where
  pub place : List ℕ
  pub number : List ℕ
  pub are : words ≡ keyword ∷ place ∷ link ∷ number ∷ []
  pub spelled : spot_of place ≡ Some spot
  pub counted : count_of number ≡ Some count

-- one place, or a place, a comma and further places
pub data IsListed : List (List ℕ) → List Spot → Type 0 where
  One : (word : List ℕ) (spot : Spot) → spot_of word ≡ Some spot → IsListed (word ∷ []) (spot ∷ [])
  More : (word : List ℕ) (spot : Spot) (words : List (List ℕ)) (spots : List Spot) → spot_of word ≡ Some spot → IsListed words spots
      → IsListed (word ∷ codes "," ∷ words) (spot ∷ spots)

-- a keyword, a place, `to` and a list of places
pub record IsAimed (keyword : List ℕ) (words : List (List ℕ)) (spot : Spot) (to : List Spot) : Type 0 where
  pub place : List ℕ
  pub list : List (List ℕ)
  pub are : words ≡ keyword ∷ place ∷ codes "to" ∷ list
  pub spelled : spot_of place ≡ Some spot
  pub listed : IsListed list to

-- whether words write a statement
abbrev pub IsWritten : List (List ℕ) → Body → Type 0
IsWritten words (Root spot) = IsPlaced (codes "root") words spot
IsWritten words (Never spot) = IsPlaced (codes "never") words spot
IsWritten words (At spot reg lo hi) = IsRanged words spot reg lo hi
IsWritten words (Jump spot to) = IsAimed (codes "jump") words spot to
IsWritten words (CallTo spot to) = IsAimed (codes "call") words spot to
IsWritten words (Loop spot count) = IsCounted (codes "loop") (codes "repeats") words spot count
IsWritten words (Stub spot time) = IsCounted (codes "stub") (codes "time") words spot time

-- the words of a line without their columns
abbrev pub words_of : Phrase → List (List ℕ)
words_of phrase = map (λ token. token.word) phrase.tokens

-- a line is read as a statement exactly where its words write that one
abbrev pub StatementsAreWritten : Type 0
StatementsAreWritten = (phrase : Phrase) (body : Body) → (statement phrase ≡ Ok body) ↔ IsWritten (words_of phrase) body
