-- What facts say of the subprograms that some program points call, as facts apart.
use Rattle.std.specs.Prelude.{◌≡◌, ℕ, Bool, true, false, List, Contains, Option, Some, None, if◌then◌else◌}
use Rattle.std.specs.Ordering.{is_eq}
use Rattle.abs_state.specs.Key.{compare}
use Rattle.abs_state.specs.declared.key.Key.{Key}
use Rattle.abs_state.specs.declared.key.Key.TheVariants as key
use Rattle.abs_state.specs.declared.key.Next.{Next}
use Rattle.abs_state.specs.declared.key.Next.TheVariants.{At, Into, Back}
use Rattle.abs_state.specs.declared.key.Place.{Place}
use Rattle.flow_system.specs.Facts.{fact_at}
use Rattle.transfer_rules.specs.Fact.{Piece}
use Rattle.transfer_rules.specs.declared.fact.Fact.{Fact}

-- whether a key is what a subprogram may do
abbrev pub is_summary : Key → Bool
is_summary (key.Node p) = false
is_summary (key.Edge p q) = false
is_summary (key.Call p t) = false
is_summary (key.Summary sub) = true
is_summary (key.Gap sub pc kind) = false

-- the subprogram that comes next
abbrev pub called_next : Next → Option ℕ
called_next (At n) = None
called_next (Into t) = Some t
called_next Back = None

-- the subprogram that a program point calls
abbrev pub called_by : Key → Option ℕ
called_by (key.Node p) = called_next p.next
called_by (key.Edge p q) = None
called_by (key.Call p t) = None
called_by (key.Summary sub) = None
called_by (key.Gap sub pc kind) = None

-- the one fact where there is one, else the other
abbrev pub fact_or : Option Fact → Option Fact → Option Fact
fact_or None other = other
fact_or (Some v) other = Some v

-- the new facts say of a subprogram what all facts say, if anything, and else what the old ones say
abbrev pub CopiesSummary : List Piece → ℕ → List Piece → List Piece → Type 0
CopiesSummary whole t old new =
    (k : Key) → fact_at compare new k
    ≡ (if is_eq (compare (key.Summary t) k) then fact_or (fact_at compare whole (key.Summary t)) (fact_at compare old k) else fact_at compare old k)

-- facts are among those that say what subprograms may do, and say it of all that these program points call
pub record AreCopies (whole fixed : List Piece) (keys : List Key) : Type 0 where
  pub from : (k : Key) (v : Fact) → fact_at compare fixed k ≡ Some v → (fact_at compare whole k ≡ Some v) × (is_summary k ≡ true)
  pub has : (p : Place) (t : ℕ) → Contains keys (key.Node p) → p.next ≡ Into t
      → fact_at compare fixed (key.Summary t) ≡ fact_at compare whole (key.Summary t)
