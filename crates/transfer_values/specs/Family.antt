-- The functions that compute with states over thresholds, together.
use Rattle.std.specs.Prelude.{ℕ, List}
use Rattle.assert_bind.specs.declared.body.BoundAssertion.{BoundAssertion}
use Rattle.transfer_rules.specs.Family.{Family}
use Rattle.transfer_values.specs.Narrow.{narrowed}
use Rattle.transfer_values.specs.Resolve.{resolved}
use Rattle.transfer_values.specs.Step.{stepped}
use Rattle.transfer_values.specs.Test.{tested}

-- over thresholds, of an image and the assertions that are bound to it
abbrev pub family : List ℕ → List ℕ → List BoundAssertion → Family
family t image list = record { narrow = narrowed t list; step = stepped t image; test = tested t; resolve = resolved t image list }
