-- Which subprograms are plain, with what bounds and arguments, as a table.
use Rattle.std.specs.Prelude.{◌≡◌, ℕ, ◌<◌, length, slice_index_or, Option, Some, None, []}
use Rattle.std.specs.Map.{keys_of}
use Rattle.context_inside.specs.Laws.{IsEntered}
use Rattle.context_outcomes.specs.Arguments.{ArePlain}
use Rattle.context_outcomes.specs.Outcomes.{HasPlainBound, IsPlain}
use Rattle.context_outcomes.specs.Setting.{Setting}
use Rattle.plain_bounds.specs.declared.table.PlainBounds.{PlainBounds}
use Rattle.plain_parts.specs.Listed.{AreListed}

-- a subprogram is plain, with this bound of its plain context, or it isn't plain
abbrev pub IsPlainBound : Setting → ℕ → Option ℕ → Type 0
IsPlainBound S sub None = IsPlain S sub → ⊥
IsPlainBound S sub (Some bound) = HasPlainBound S sub bound

-- Of each subprogram that is a root, or is called and no stub, the arguments of its plain context and the bound of that, if it
-- is plain.
pub record ArePlainBounds (S : Setting) (table : PlainBounds) : Type 0 where
  pub listed : AreListed S.binding (keys_of S.pieces) table.subs.items
  pub many_arguments : length table.arguments.items ≡ length table.subs.items
  pub many_bounds : length table.bounds.items ≡ length table.subs.items
  pub arguments : (n : ℕ) → n < length table.subs.items
      → ArePlain S (slice_index_or table.subs.items n 0) (slice_index_or table.arguments.items n [])
  pub bounds : (n : ℕ) → n < length table.subs.items
      → IsPlainBound S (slice_index_or table.subs.items n 0) (slice_index_or table.bounds.items n None)

-- a table is that of some program, in which a subprogram is a root, or is called and no stub
pub record IsLookedUp (table : PlainBounds) (sub : ℕ) : Type 0 where
  pub setting : Setting
  pub are : ArePlainBounds setting table
  pub entered : IsEntered setting sub
