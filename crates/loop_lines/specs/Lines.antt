-- Lines of loops whose addresses aren't among some.
use Rattle.std.specs.Prelude.{◌≡◌, ◌≤◌, ℕ, List, Contains, nat_lt, Option, Some, None, if◌then◌else◌}
use Rattle.assert_bind.specs.declared.body.LoopLine.{LoopLine}

-- the line of a loop whose address isn't among some
pub record IsMissing (lines : List LoopLine) (addresses : List ℕ) (line : ℕ) : Type 0 where
  pub one : LoopLine
  pub among : Contains lines one
  pub at : one.line ≡ line
  pub missing : Contains addresses one.pc → ⊥

-- the least such line
pub record IsFirstMissing (lines : List LoopLine) (addresses : List ℕ) (line : ℕ) : Type 0 where
  pub is : IsMissing lines addresses line
  pub least : (other : ℕ) → IsMissing lines addresses other → line ≤ other

-- it, or nothing where all are among them
abbrev pub IsFirstMissingOrNone : List LoopLine → List ℕ → Option ℕ → Type 0
IsFirstMissingOrNone lines addresses None = (one : LoopLine) → Contains lines one → Contains addresses one.pc
IsFirstMissingOrNone lines addresses (Some line) = IsFirstMissing lines addresses line

-- the least of a number and one that there may be
abbrev pub least_with : Option ℕ → ℕ → ℕ
least_with None line = line
least_with (Some other) line = if nat_lt other line then other else line
