-- What is asked of a shelf, and how many bytes each ask gave. A list of asks has the newest first.
use Rattle.std.specs.Prelude.{◌≡◌, ℕ, ◌+◌, ◌<◌, ◌≤◌, List, [], ◌∷◌, ◌++◌, Result, Ok, Err, slice_index}

-- one ask: the name, the byte from which on, the room for bytes, and how many were given
abbrev pub Ask : Type 0
Ask = List ℕ × ℕ × ℕ × ℕ

-- the ask of a name with these three numbers
abbrev pub ask_of : List ℕ → List ℕ → Ask
ask_of numbers name = (name, slice_index numbers 0, slice_index numbers 1, slice_index numbers 2)

-- how many bytes an answer gave
abbrev pub given_by : {E : Type 0} → Result ℕ E → ℕ
given_by (Ok n) = n
given_by (Err refusal) = 0

-- one ask was made, which gave some bytes, no more than there was room for
abbrev pub WasAsked : List ℕ → ℕ → ℕ → List Ask → List Ask → Type 0
WasAsked name at room old new = (n : ℕ) × (n ≤ room) × (new ≡ (name, at, room, n) ∷ old)

-- the newest of these asks, if there is one, gave some bytes
abbrev pub NewestGave : List Ask → Type 0
NewestGave [] = Unit {0}
NewestGave (ask ∷ before) = 0 < ask.3

-- one was asked, and the newest ask gave no byte
abbrev pub NewestGaveNone : List Ask → Type 0
NewestGaveNone [] = ⊥
NewestGaveNone (ask ∷ before) = ask.3 ≡ 0

-- an ask of a reading of a file of at most so many bytes, behind which so many were given: it is of this name, has room,
-- reaches at most one byte past the limit, and gives no more than it has room for
pub record IsOfReading (name : List ℕ) (limit : ℕ) (ask : Ask) (given : ℕ) : Type 0 where
  pub named : ask.0 ≡ name
  pub room : 0 < ask.2
  pub reach : ask.1 + ask.2 ≤ limit + 1
  pub within : ask.3 ≤ ask.2
  pub sum : ask.1 + ask.3 ≡ given

-- these asks read a file of at most so many bytes from its start on, and gave so many bytes in all: each begins at the
-- end of what was given before it, and all but the newest gave some
abbrev pub AreOfReading : List ℕ → ℕ → List Ask → ℕ → Type 0
AreOfReading name limit [] given = given ≡ 0
AreOfReading name limit (ask ∷ before) given = IsOfReading name limit ask given × NewestGave before × AreOfReading name limit before ask.1

-- between these two lists of asks lies the reading of a file of at most so many bytes, which gave so many in all
pub record IsReadTo (name : List ℕ) (limit : ℕ) (old new : List Ask) (given : ℕ) : Type 0 where
  pub asks : List Ask
  pub added : new ≡ asks ++ old
  pub each : AreOfReading name limit asks given

-- between these two lists of asks lies one reading of a file of at most so many bytes, and nothing else
abbrev pub IsReading : List ℕ → ℕ → List Ask → List Ask → Type 0
IsReading name limit old new = (given : ℕ) × IsReadTo name limit old new given
