-- The calls of contexts, and which of them are followed.
use Rattle.std.specs.Prelude.{◌≡◌, ℕ, true, false, is_some}
use Rattle.abs_state.specs.declared.key.Key.TheVariants as key
use Rattle.abs_state.specs.declared.key.Next.TheVariants.{Into}
use Rattle.abs_state.specs.declared.key.Place.{Place}
use Rattle.graph_laws.specs.Nest.{SamePart}
use Rattle.graph_view.specs.Need.{calls_of}
use Rattle.transfer_acts.specs.Reading.{is_stub}
use Rattle.transfer_rules.specs.Give.{Facts}
use Rattle.context_outcomes.specs.Setting.{Setting, view_in}

-- the facts have a call at the delay instruction of that call
pub record IsCall (facts : Facts) (p : Place) (target : ℕ) : Type 0 where
  pub into : p.next ≡ Into target
  pub there : is_some (facts (key.Call p target)) ≡ true

-- two subprograms are in one call cycle: each reaches the other by calls of the whole program
abbrev pub AreCyclic : Setting → ℕ → ℕ → Type 0
AreCyclic S sub target = SamePart (calls_of (view_in S).callings) sub target

-- a call of a subprogram is followed: it isn't one inside a call cycle
pub record IsFollowed (S : Setting) (sub : ℕ) (facts : Facts) (p : Place) (target : ℕ) : Type 0 where
  pub call : IsCall facts p target
  pub apart : AreCyclic S sub target → ⊥

-- and into a context: what is called isn't a stub
pub record IsEntering (S : Setting) (sub : ℕ) (facts : Facts) (p : Place) (target : ℕ) : Type 0 where
  pub followed : IsFollowed S sub facts p target
  pub plain : is_stub S.binding target ≡ false
