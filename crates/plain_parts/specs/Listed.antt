-- Which subprograms are roots, or are called and no stubs.
use Rattle.std.specs.Prelude.{ℕ, ◌↔◌, ◌++◌, List, [], ◌∷◌, Contains, if◌then◌else◌}
use Rattle.std.specs.List.{flat_map}
use Rattle.std.specs.List.Sorted.{IsStrictlyIncreasing}
use Rattle.abs_state.specs.declared.key.Key.{Key}
use Rattle.abs_state.specs.declared.key.Key.TheVariants as key
use Rattle.assert_bind.specs.Binding.{roots}
use Rattle.assert_bind.specs.declared.body.BoundAssertion.{BoundAssertion}
use Rattle.transfer_acts.specs.Reading.{is_stub}

-- what a key calls, unless that is a stub
abbrev pub called_in : List BoundAssertion → Key → List ℕ
called_in binding (key.Node p) = []
called_in binding (key.Edge p q) = []
called_in binding (key.Call p t) = if is_stub binding t then [] else t ∷ []
called_in binding (key.Summary q) = []
called_in binding (key.Gap q pc kind) = []

-- the roots, and what keys call but stubs
abbrev pub looked_into : List BoundAssertion → List Key → List ℕ
looked_into binding keys = roots binding ++ flat_map (called_in binding) keys

-- a list has these, rising, each once
pub record AreListed (binding : List BoundAssertion) (keys : List Key) (subs : List ℕ) : Type 0 where
  pub rising : IsStrictlyIncreasing subs
  pub are : (sub : ℕ) → Contains subs sub ↔ Contains (looked_into binding keys) sub
