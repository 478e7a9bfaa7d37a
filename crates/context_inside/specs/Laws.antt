-- What the facts of contexts are to those of the whole program.
use Rattle.std.specs.Prelude.{◌≡◌, ◌⊎◌, ℕ, true, false, List, Contains, Some, is_some, length}
use Rattle.std.specs.List.{list_all}
use Rattle.abs_state.specs.declared.key.Key.{Key}
use Rattle.abs_state.specs.declared.key.Key.TheVariants as key
use Rattle.abs_state.specs.declared.key.Place.{Place}
use Rattle.assert_bind.specs.Binding.{roots}
use Rattle.context_facts.specs.Context.{IsAmong}
use Rattle.context_outcomes.specs.Arguments.{AreJoined, ArePlain, any_arguments, thresholds_with}
use Rattle.context_outcomes.specs.Inside.{AreFacts}
use Rattle.context_outcomes.specs.Setting.{Setting, facts_in, rules_with}
use Rattle.flow_system.specs.State.{IsDueGraph}
use Rattle.transfer_acts.specs.Reading.{is_stub}
use Rattle.transfer_rules.specs.Closed.{HasState}
use Rattle.transfer_rules.specs.Give.{Facts, entered_with, entry_of}
use Rattle.transfer_rules.specs.declared.fact.Fact.{Fact}
use Rattle.transfer_rules.specs.declared.fact.Fact.TheVariants as fact
use Rattle.value_lattice.specs.Test.{is_over}
use Rattle.value_lattice.specs.Thresholds.{IsThresholds}
use Rattle.value_lattice.specs.declared.value.Value.{Value}

-- the thresholds are some, and the facts are the due ones
pub record AreDue (S : Setting) : Type 0 where
  pub thresholds : IsThresholds S.thresholds
  pub due : IsDueGraph (rules_with S S.thresholds) (facts_in S)

-- the whole program has the entry of a subprogram, with at least these arguments
abbrev pub IsEnteredWith : Setting → ℕ → List Value → Type 0
IsEnteredWith S sub args = HasState (facts_in S) (entry_of sub) (entered_with args)

-- a call hands on 13 values over the thresholds, the whole program has it, and has the entry of what is called with the values
pub record IsHandedOn (S : Setting) (t : List ℕ) (p : Place) (target : ℕ) (given : List Value) : Type 0 where
  pub count : length given ≡ 13
  pub values : list_all (is_over t) given ≡ true
  pub there : is_some (facts_in S (key.Call p target)) ≡ true
  pub below : is_stub S.binding target ≡ false → IsEnteredWith S target given

-- facts are at most those of the whole program, and so is what their calls enter
pub record AreBelow (S : Setting) (args : List Value) (facts : Facts) : Type 0 where
  pub each : (k : Key) (v : Fact) → facts k ≡ Some v → IsAmong (facts_in S) k v
  pub calls : (p : Place) (target : ℕ) (given : List Value) → facts (key.Call p target) ≡ Some (fact.Args given)
      → IsHandedOn S (thresholds_with S args) p target given

-- so are the facts of a context whose entry the whole program has with its arguments
abbrev pub ContextsAreBelow : Type 0
ContextsAreBelow =
    (S : Setting) (sub : ℕ) (args : List Value) (facts : Facts) → AreDue S → IsEnteredWith S sub args → AreFacts S sub args facts
    → AreBelow S args facts

-- the whole program has the entries of the roots, with anything for their arguments
abbrev pub RootsAreBelow : Type 0
RootsAreBelow = (S : Setting) (root : ℕ) → AreDue S → Contains (roots S.binding) root → IsEnteredWith S root any_arguments

-- a subprogram that isn't a stub is called
pub record IsCalled (S : Setting) (sub : ℕ) : Type 0 where
  pub plain : is_stub S.binding sub ≡ false
  pub from : Place
  pub there : is_some (facts_in S (key.Call from sub)) ≡ true

-- and has the entries of what is called, with the join of the arguments of all calls
abbrev pub JoinsAreBelow : Type 0
JoinsAreBelow =
    (S : Setting) (sub : ℕ) (args : List Value) → AreDue S → IsCalled S sub → AreJoined S.thresholds (facts_in S) sub args
    → IsEnteredWith S sub args

-- a subprogram is a root, or is called
abbrev pub IsEntered : Setting → ℕ → Type 0
IsEntered S sub = Contains (roots S.binding) sub ⊎ IsCalled S sub

-- so it has those of both, with what holds of the arguments of every call
abbrev pub PlainAreBelow : Type 0
PlainAreBelow =
    (S : Setting) (sub : ℕ) (args : List Value) → AreDue S → IsEntered S sub → ArePlain S sub args → IsEnteredWith S sub args
