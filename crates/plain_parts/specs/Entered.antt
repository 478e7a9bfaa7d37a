-- What a context enters, and what is known of that.
use Rattle.std.specs.Prelude.{◌≡◌, ℕ, true, false, List, Contains, is_some, Option, Some, None}
use Rattle.abs_state.specs.declared.key.Key.TheVariants as key
use Rattle.abs_state.specs.declared.key.Next.TheVariants.{Into}
use Rattle.abs_state.specs.declared.key.Place.{Place}
use Rattle.assert_bind.specs.declared.body.BoundAssertion.{BoundAssertion}
use Rattle.graph_laws.specs.Nest.{SamePart}
use Rattle.graph_view.specs.Need.{calls_of}
use Rattle.graph_view.specs.declared.lists.Calling.{Calling}
use Rattle.plain_parts.specs.Searched.{Known, bound_at, known_in}
use Rattle.plain_parts.specs.declared.entering.Standing.{Standing}
use Rattle.plain_parts.specs.declared.entering.Standing.TheVariants.{Waits, Open, Bounded}
use Rattle.transfer_acts.specs.Reading.{is_stub}
use Rattle.transfer_rules.specs.Give.{Facts}

-- a call of a subprogram's facts enters another: it isn't inside a call cycle, and what is called is no stub
pub record Enters (binding : List BoundAssertion) (callings : List Calling) (sub : ℕ) (facts : Facts) (p : Place) (t : ℕ) : Type 0 where
  pub into : p.next ≡ Into t
  pub there : is_some (facts (key.Call p t)) ≡ true
  pub apart : SamePart (calls_of callings) sub t → ⊥
  pub plain : is_stub binding t ≡ false

-- what a program point enters, if it does
abbrev pub IsEnteredAt : List BoundAssertion → List Calling → ℕ → Facts → Place → Option ℕ → Type 0
IsEnteredAt binding callings sub facts p None = (t : ℕ) → Enters binding callings sub facts p t → ⊥
IsEnteredAt binding callings sub facts p (Some t) = Enters binding callings sub facts p t

-- a program point enters a subprogram of which a table has this
pub record EntersWith (binding : List BoundAssertion) (callings : List Calling) (subs : List ℕ) (table : Known) (sub : ℕ) (facts : Facts) (p : Place)
    (entry : Option (Option ℕ)) : Type 0 where
  pub target : ℕ
  pub enters : Enters binding callings sub facts p target
  pub is : known_in subs table target ≡ entry

-- what a program point enters has a bound
abbrev pub IsBoundedAt : List BoundAssertion → List Calling → List ℕ → Known → ℕ → Facts → Place → Type 0
IsBoundedAt binding callings subs table sub facts p =
    (t : ℕ) → Enters binding callings sub facts p t → known_in subs table t ≡ Some (Some (bound_at subs table p.next))

-- what is known of what a program point enters
abbrev pub IsStandingAt : List BoundAssertion → List Calling → List ℕ → Known → ℕ → Facts → Place → Standing → Type 0
IsStandingAt binding callings subs table sub facts p Waits = EntersWith binding callings subs table sub facts p None
IsStandingAt binding callings subs table sub facts p Open = EntersWith binding callings subs table sub facts p (Some None)
IsStandingAt binding callings subs table sub facts p Bounded = IsBoundedAt binding callings subs table sub facts p

-- some program point enters a subprogram of which a table has this
pub record SomeEnters (binding : List BoundAssertion) (callings : List Calling) (subs : List ℕ) (table : Known) (sub : ℕ) (facts : Facts)
    (entry : Option (Option ℕ)) : Type 0 where
  pub place : Place
  pub entered : EntersWith binding callings subs table sub facts place entry

-- what is known of all that program points enter
abbrev pub IsStanding : List BoundAssertion → List Calling → List ℕ → Known → ℕ → Facts → List Place → Standing → Type 0
IsStanding binding callings subs table sub facts nodes Waits = SomeEnters binding callings subs table sub facts None
IsStanding binding callings subs table sub facts nodes Open = SomeEnters binding callings subs table sub facts (Some None)
IsStanding binding callings subs table sub facts nodes Bounded =
    (p : Place) → Contains nodes p → IsBoundedAt binding callings subs table sub facts p
