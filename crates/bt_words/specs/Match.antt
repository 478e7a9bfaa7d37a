-- What the matches of a subcommand hold where the words are without a fault.
use Rattle.std.specs.Prelude.{◌≡◌, ◌⊎◌, ℕ, List, Option, Some, IsSome, IsSomeAnd, codes, pos}
use Rattle.clap.specs.Words.{IsSignedIn, Row, Text, first_of, one_of, without_minus}

-- the argument of this name has a value
abbrev pub HasText : Text → List Row → Type 0
HasText id rows = IsSome (first_of id rows)

-- the argument of this name has a value, which writes a number from 1 to the most that it may be
pub record HasNumber (id : Text) (most : ℕ) (rows : List Row) : Type 0 where
  pub text : Text
  pub read : one_of id rows ≡ Some (without_minus text)
  pub within : IsSignedIn (pos 1) (pos most) text

-- the number of workers has a value, from 1 to 64
abbrev pub HasWorkerNumber : List Row → Type 0
HasWorkerNumber rows = HasNumber (codes "workers") 64 rows

-- all that `bound` and `graph` ask for is there
pub record IsFilesMatch (rows : List Row) : Type 0 where
  pub image : HasText (codes "IMAGE") rows
  pub cycles : HasText (codes "CYCLES") rows
  pub assertions : HasText (codes "ASSERTIONS") rows
  pub workers : HasWorkerNumber rows

-- all that `gen` asks for is there: the number of functions, from 1 to 4,000, and the number of workers
pub record IsGenMatch (rows : List Row) : Type 0 where
  pub functions : HasNumber (codes "N") 4000 rows
  pub workers : HasWorkerNumber rows

-- all that the subcommand of this name asks for is there
abbrev pub IsMatch : Text → List Row → Type 0
IsMatch name rows = ((name ≡ codes "bound") × IsFilesMatch rows)
    ⊎ (((name ≡ codes "graph") × IsFilesMatch rows)
    ⊎ (((name ≡ codes "decode") × HasText (codes "IMAGE") rows) ⊎ ((name ≡ codes "gen") × IsGenMatch rows)))

-- a subcommand is entered, and all that it asks for is there
abbrev pub IsMatched : Option (Text × List Row) → Type 0
IsMatched entered = IsSomeAnd entered (λ p. IsMatch p.0 p.1)
