-- The plain contexts of subprograms: what each is entered with, and which keys are its own.
use Rattle.std.specs.Prelude.{◌≡◌, ℕ, ◌<◌, List, [], length, slice_index_or, Contains, Option, Some}
use Rattle.std.specs.Map.{keys_of}
use Rattle.context_bounds.specs.Own.{own_rows, rows_of}
use Rattle.context_inside.specs.Within.{IsWithin}
use Rattle.context_inside.specs.declared.within.Within.{Within}
use Rattle.context_outcomes.specs.Arguments.{ArePlain, any_arguments}
use Rattle.context_outcomes.specs.Setting.{Setting}
use Rattle.plain_bounds.specs.declared.contexts.Contexts.{Contexts}
use Rattle.plain_parts.specs.Joined.{entry_at}
use Rattle.plain_parts.specs.Listed.{AreListed}
use Rattle.transfer_rules.specs.declared.fact.Fact.{Fact}
use Rattle.transfer_rules.specs.declared.fact.Fact.TheVariants as fact
use Rattle.value_lattice.specs.declared.value.Value.{Value}

-- the arguments of a listed subprogram: anything for a root, and else what is joined
pub record IsChosenAt (roots subs : List ℕ) (joined : List (Option Fact)) (n : ℕ) (args : List Value) : Type 0 where
  pub root : Contains roots (slice_index_or subs n 0) → args ≡ any_arguments
  pub called : (Contains roots (slice_index_or subs n 0) → ⊥) → entry_at joined n ≡ Some (fact.Args args)

-- those of each
pub record AreChosen (roots subs : List ℕ) (joined : List (Option Fact)) (arguments : List (List Value)) : Type 0 where
  pub count : length arguments ≡ length subs
  pub each : (n : ℕ) → n < length subs → IsChosenAt roots subs joined n (slice_index_or arguments n [])

-- Of each subprogram that is a root, or is called and no stub, the arguments of its plain context, and the program points, steps
-- and calls that the whole program has of it.
pub record ArePlainContexts (S : Setting) (contexts : Contexts) : Type 0 where
  pub listed : AreListed S.binding (keys_of S.pieces) contexts.subs.items
  pub count : length contexts.arguments.items ≡ length contexts.subs.items
  pub arguments : (n : ℕ) → n < length contexts.subs.items
      → ArePlain S (slice_index_or contexts.subs.items n 0) (slice_index_or contexts.arguments.items n [])
  pub keys : rows_of contexts.keys.items ≡ own_rows contexts.subs.items (keys_of S.pieces)

-- a subprogram's plain context from within
pub record IsPlainWithin (S : Setting) (sub : ℕ) (w : Within) : Type 0 where
  pub args : List Value
  pub plain : ArePlain S sub args
  pub is : IsWithin S sub args w
