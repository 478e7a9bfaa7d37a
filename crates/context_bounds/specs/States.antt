-- What is left of states, and which states are over thresholds.
use Rattle.std.specs.Prelude.{◌≡◌, ℕ, true, List, Option, Some}
use Rattle.std.specs.Option.{option_and_then}
use Rattle.abs_state.specs.State.{State, is_state_over}
use Rattle.abs_state.specs.declared.key.Key.TheVariants as key
use Rattle.abs_state.specs.declared.key.Place.{Place}
use Rattle.assert_bind.specs.declared.body.BoundAssertion.{BoundAssertion}
use Rattle.transfer_rules.specs.Fact.{state_in}
use Rattle.transfer_rules.specs.Give.{Facts}
use Rattle.transfer_rules.specs.declared.fact.Fact.TheVariants as fact
use Rattle.transfer_values.specs.Narrow.{narrowed}

-- what is left of the state at a program point where the assertions there hold, if there is one
abbrev pub left_at : List ℕ → List BoundAssertion → Facts → Place → Option State
left_at t binding facts p = option_and_then (narrowed t binding p) (state_in (facts (key.Node p)))

-- the state at a program point, where there is one, is over thresholds
abbrev pub HasStateOver : List ℕ → Facts → Place → Type 0
HasStateOver t facts p = (s : State) → facts (key.Node p) ≡ Some (fact.State s) → is_state_over t s ≡ true
