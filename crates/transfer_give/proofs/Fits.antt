-- States that fit at program points.
use Rattle.std.proofs.Common.{◌≡◌, ℕ, ◌<◌, Bool, true, false, ◌&&◌, List, Option, Some, None, refl, subst}
use Rattle.abs_state.specs.State.{State, is_state_over}
use Rattle.abs_state.specs.declared.key.Key.{Key}
use Rattle.abs_state.specs.declared.key.Key.TheVariants.{Node}
use Rattle.abs_state.specs.declared.key.Place.{Place}
use Rattle.flow_system.specs.State.{AllFit}
use Rattle.transfer_rules.specs.Fact.{fits, is_shallow, state_in}
use Rattle.transfer_rules.specs.Family.{Family, Program}
use Rattle.transfer_rules.specs.Lawful.{rules_of}
use Rattle.transfer_rules.specs.declared.fact.Fact.{Fact}
use Rattle.transfer_rules.specs.declared.fact.Fact.TheVariants as fact
use borrow.Author.Tests.{ltb-true}

-- a place at a depth below 2, and a state over the thresholds
pub record StandsAt (t : List ℕ) (p : Place) (s : State) : Type 0 where
  pub depth : p.depth < 2
  pub over : is_state_over t s ≡ true

both : (a b : Bool) → (a && b) ≡ true → (a ≡ true) × (b ≡ true)
both true true h = (refl, refl)
both true false h = cc
both false b h = cc

at : (t : List ℕ) (p : Place) (v : Fact) (s : State) → fits t (Node p) v ≡ true → Some s ≡ state_in (Some v) → StandsAt t p s
at t p (fact.State u) s fit same =
    let parts = both (is_shallow p) (is_state_over t u) fit in
    let is : u ≡ s = cc in
    record { depth = ltb-true p.depth 2 parts.0; over = subst (λ (w : State). is_state_over t w ≡ true) is parts.1 }
at t p (fact.Args list) s fit same = cc
at t p (fact.Sum effects) s fit same = cc
at t p fact.Mark s fit same = cc

by : (t : List ℕ) (p : Place) (o : Option Fact) (s : State) → ((v : Fact) → o ≡ Some v → fits t (Node p) v ≡ true) → Some s ≡ state_in o → StandsAt t p s
by t p None s fit same = cc
by t p (Some v) s fit same = at t p v s (fit v refl) same

-- a state that is found at a program point, where all facts fit
pub stands : (t : List ℕ) (f : Family) (m : Program) (x : Key → Option Fact) (p : Place) (s : State)
    → AllFit (rules_of t f m) x → Some s ≡ state_in (x (Node p)) → StandsAt t p s
stands t f m x p s fit same = by t p (x (Node p)) s (λ v found. fit (Node p) v found) same
