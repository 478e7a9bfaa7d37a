-- The first line of an asserted loop that no loop matches.
use Rattle.std.specs.Prelude.{ℕ, Option, Some, None}
use Rattle.context_outcomes.specs.Refusals.{AreMatched, IsFirstUnmatched}
use Rattle.context_outcomes.specs.Setting.{Setting}

-- the first line of an asserted loop that isn't matched, or nothing where all are
abbrev pub IsFirstUnmatchedOrNone : Setting → Option ℕ → Type 0
IsFirstUnmatchedOrNone S None = AreMatched S
IsFirstUnmatchedOrNone S (Some line) = IsFirstUnmatched S line
