-- The stubs that a binding lists: a law above `stubs` and `stub`.
use Rattle.std.specs.Prelude.{◌≢◌, ℕ, List, Contains, IsSome, ◌↔◌}
use Rattle.std.specs.List.{AllPairs}
use Rattle.assert_bind.specs.Binding.{stub, stubs}
use Rattle.assert_bind.specs.Index.{IsSound}
use Rattle.assert_bind.specs.declared.body.BoundAssertion.{BoundAssertion}

-- the entries that are listed are those that have a time, each once
pub record ListsStubs (list : List BoundAssertion) : Type 0 where
  pub each : (entry : ℕ) → Contains (stubs list) entry ↔ IsSome (stub list entry)
  pub once : AllPairs (λ x y. x ≢ y) (stubs list)

-- so it is in every list of assertions that speak of different things
abbrev pub StubsAreThose : Type 0
StubsAreThose = (list : List BoundAssertion) → IsSound list → ListsStubs list
