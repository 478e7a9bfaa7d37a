-- Facts about command lines.
use Rattle.std.specs.Prelude.{◌≡◌, ◌⊎◌, ◌==◌, Bool, true, List, [], ◌∷◌, not, codes, pos}
use Rattle.clap.specs.Words.{IsSignedIn, Text, fault_of}
use Rattle.bt_words.specs.App.{boundt_app}
use Rattle.bt_words.specs.Request.{Asked, IsRequest, bounds, generates, graphs, lists, number_of}

-- the words ask for something
pub record IsAsked (words : List Text) : Type 0 where
  pub asked : Asked
  pub request : IsRequest words asked

-- words without a fault ask for something
abbrev pub FaultlessWordsAsk : Type 0
FaultlessWordsAsk = (words : List Text) → fault_of boundt_app words ≡ [] → IsAsked words

-- a word that is a name wherever it stands: it begins with no hyphen (45), or has one byte at the most
abbrev pub is_name : Text → Bool
is_name [] = true
is_name (x ∷ []) = true
is_name (x ∷ y ∷ rest) = not (x == 45)

-- `bound` with three names asks for a bound by one worker, and `graph` for a graph
abbrev pub ThreeNamesAsk : Type 0
ThreeNamesAsk = (image cycles assertions : Text)
    → is_name image ≡ true → is_name cycles ≡ true → is_name assertions ≡ true
    → IsRequest (codes "bound" ∷ image ∷ cycles ∷ assertions ∷ []) (bounds image cycles assertions 1)
    × IsRequest (codes "graph" ∷ image ∷ cycles ∷ assertions ∷ []) (graphs image cycles assertions 1)

-- and with `--workers` and a number from 1 to 64 behind them, by so many
abbrev pub WorkersAreAsked : Type 0
WorkersAreAsked = (image cycles assertions number : Text)
    → is_name image ≡ true → is_name cycles ≡ true → is_name assertions ≡ true
    → IsSignedIn (pos 1) (pos 64) number
    → IsRequest (codes "bound" ∷ image ∷ cycles ∷ assertions ∷ codes "--workers" ∷ number ∷ [])
    (bounds image cycles assertions (number_of number))
    × IsRequest (codes "graph" ∷ image ∷ cycles ∷ assertions ∷ codes "--workers" ∷ number ∷ [])
    (graphs image cycles assertions (number_of number))

-- `decode` with one name asks for a listing
abbrev pub OneNameAsks : Type 0
OneNameAsks = (image : Text) → is_name image ≡ true → IsRequest (codes "decode" ∷ image ∷ []) (lists image)

-- `gen` with a number from 1 to 4,000 asks for so many functions by one worker, and with `--workers` and a number from 1 to 64 by so
-- many
abbrev pub FunctionsAreAsked : Type 0
FunctionsAreAsked = (functions number : Text) → IsSignedIn (pos 1) (pos 4000) functions → IsSignedIn (pos 1) (pos 64) number
    → IsRequest (codes "gen" ∷ functions ∷ []) (generates (number_of functions) 1)
    × IsRequest (codes "gen" ∷ functions ∷ codes "--workers" ∷ number ∷ []) (generates (number_of functions) (number_of number))

-- the first word of words without a fault is a command: there is no option before it, and no other command
abbrev pub CommandsComeFirst : Type 0
CommandsComeFirst = (first : Text) (rest : List Text) → fault_of boundt_app (first ∷ rest) ≡ []
    → (first ≡ codes "bound") ⊎ ((first ≡ codes "graph") ⊎ ((first ≡ codes "decode") ⊎ (first ≡ codes "gen")))
