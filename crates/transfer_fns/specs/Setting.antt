-- The rules of an image and of the assertions that are bound to it.
use Rattle.std.specs.Prelude.{ℕ, Bool, List}
use Rattle.abs_state.specs.declared.key.Key.{Key}
use Rattle.assert_bind.specs.declared.body.BoundAssertion.{BoundAssertion}
use Rattle.flow_system.specs.Rules.{Rules}
use Rattle.transfer_acts.specs.Program.{program_of}
use Rattle.transfer_rules.specs.Family.{Program}
use Rattle.transfer_rules.specs.Lawful.{rules_of}
use Rattle.transfer_rules.specs.declared.fact.Fact.{Fact}
use Rattle.transfer_values.specs.Family.{family}
use Rattle.transfer_values.specs.Resolve.{widest}

-- what is read off them, where the table of cycles is of version 2 or isn't
abbrev pub program_in : List ℕ → List BoundAssertion → Bool → Program
program_in image binding eight = program_of image binding eight (widest image binding)

-- the rules over thresholds
abbrev pub rules_over : List ℕ → List ℕ → List BoundAssertion → Bool → Rules Key Fact
rules_over t image binding eight = rules_of t (family t image binding) (program_in image binding eight)
