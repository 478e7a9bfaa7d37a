-- What a table that is being filled says of the bounds of subprograms.
use Rattle.std.specs.Prelude.{◌≡◌, ℕ, ◌<◌, List, length, slice_index_or, Option, Some, None}
use Rattle.std.specs.List.Sorted.{IsStrictlyIncreasing}
use Rattle.abs_state.specs.Key.{compare}
use Rattle.abs_state.specs.declared.key.Place.{Place}
use Rattle.context_inside.specs.declared.within.Within.{Within}
use Rattle.context_outcomes.specs.Calls.{IsEntering}
use Rattle.context_outcomes.specs.Inside.{Inside}
use Rattle.context_outcomes.specs.Setting.{Setting}
use Rattle.flow_system.specs.Facts.{fact_at}
use Rattle.plain_bounds.specs.Table.{IsPlainBound}
use Rattle.plain_parts.specs.Searched.{Known, bound_at, known_in}
use Rattle.wcet_report.specs.declared.context.Context.TheVariants.{Plain}

-- what is known of a subprogram is so
abbrev pub IsKnownOf : Setting → ℕ → Option (Option ℕ) → Type 0
IsKnownOf S sub None = Unit {0}
IsKnownOf S sub (Some bound) = IsPlainBound S sub bound

-- so it is of each that is listed
pub record AreKnown (S : Setting) (subs : List ℕ) (table : Known) : Type 0 where
  pub rising : IsStrictlyIncreasing subs
  pub count : length table ≡ length subs
  pub each : (n : ℕ) → n < length subs → IsKnownOf S (slice_index_or subs n 0) (slice_index_or table n None)

-- a subprogram waits: its plain context enters one of which nothing is known
pub record IsWaiting (S : Setting) (subs : List ℕ) (table : Known) (sub : ℕ) : Type 0 where
  pub within : Inside S sub Plain
  pub place : Place
  pub target : ℕ
  pub enters : IsEntering S sub within.facts place target
  pub unknown : known_in subs table target ≡ None

-- what is found of a subprogram by a table: it waits, or what is found is so
abbrev pub IsFound : Setting → List ℕ → Known → ℕ → Option (Option ℕ) → Type 0
IsFound S subs table sub None = IsWaiting S subs table sub
IsFound S subs table sub (Some bound) = IsPlainBound S sub bound

-- the subprogram at a place waits, unless it is known
abbrev pub IsStuck : Setting → List ℕ → Known → ℕ → Type 0
IsStuck S subs table n = slice_index_or table n None ≡ None → IsWaiting S subs table (slice_index_or subs n 0)

-- what the plain context of a subprogram enters has a bound in a table
abbrev pub AllBounded : Setting → List ℕ → Known → ℕ → Within → Type 0
AllBounded S subs table sub w =
    (p : Place) (t : ℕ) → IsEntering S sub (fact_at compare w.facts) p t → known_in subs table t ≡ Some (Some (bound_at subs table p.next))
