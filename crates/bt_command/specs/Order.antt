-- The order of refusals: what the bytes of the files alone come to, the first refusal before any other.
use Rattle.std.specs.Prelude.{◌≡◌, ℕ, List, length, Option, Some, None, Result, Ok, Err, nat_lt, if◌then◌else◌}
use Rattle.assert_bind.specs.Binding.{binding}
use Rattle.assert_bind.specs.declared.body.BoundAssertion.{BoundAssertion}
use Rattle.assert_bind.specs.declared.refusal.BindRefusal.{BindRefusal}
use Rattle.assert_lang.specs.Text.{assertions_of}
use Rattle.assert_lang.specs.declared.assertion.Assertion.{Assertion}
use Rattle.assert_lang.specs.declared.refusal.AssertRefusal.{AssertRefusal}
use Rattle.bt_command.specs.Call.{longest_image, longest_table, longest_assertions}
use Rattle.bt_command.specs.declared.status.AssertFault.TheVariants.{Parse, Bind}
use Rattle.bt_command.specs.declared.status.LimitFault.TheVariants.{TooLong}
use Rattle.bt_command.specs.declared.status.Status.{Status}
use Rattle.bt_command.specs.declared.status.Status.TheVariants.{Image, Cycles, Assertions, Limit}
use Rattle.bt_image.specs.Refusal.{first_refusal}
use Rattle.bt_image.specs.declared.refusal.ImageRefusal.{ImageRefusal}
use Rattle.cycle_table.specs.Table.{table_of}
use Rattle.cycle_table.specs.declared.refusal.CycleRefusal.{CycleRefusal}

-- the costs of a table and what assertions state of an image
pub record Stated : Type 0 where
  pub costs : List ℕ
  pub those : List BoundAssertion

-- what a bound list of assertions states
abbrev pub of_bound : List ℕ → Result (List BoundAssertion) BindRefusal → Result Stated Status
of_bound costs (Err refusal) = Err (Assertions (Bind refusal))
of_bound costs (Ok those) = Ok (record { costs = costs; those = those })

-- what a list of assertions states of an image
abbrev pub of_parsed : List ℕ → List ℕ → Result (List Assertion) AssertRefusal → Result Stated Status
of_parsed image costs (Err refusal) = Err (Assertions (Parse refusal))
of_parsed image costs (Ok list) = of_bound costs (binding image list)

-- what a file of assertions states of an image
abbrev pub of_text : List ℕ → List ℕ → List ℕ → Result Stated Status
of_text image text costs =
    if nat_lt longest_assertions (length text) then Err (Limit (TooLong 3 longest_assertions))
    else of_parsed image costs (assertions_of text)

-- what a table of cycles and what is behind it come to
abbrev pub of_costs : List ℕ → List ℕ → Result (List ℕ) CycleRefusal → Result Stated Status
of_costs image text (Err refusal) = Err (Cycles refusal)
of_costs image text (Ok costs) = of_text image text costs

abbrev pub of_table : List ℕ → List ℕ → List ℕ → Result Stated Status
of_table image table text =
    if nat_lt longest_table (length table) then Err (Limit (TooLong 2 longest_table)) else of_costs image text (table_of table)

-- what a checked image and what is behind it come to
abbrev pub of_check : List ℕ → List ℕ → List ℕ → Option ImageRefusal → Result Stated Status
of_check image table text (Some refusal) = Err (Image refusal)
of_check image table text None = of_table image table text

-- what an image, a table of cycles and a file of assertions state, or their first refusal
abbrev pub of_files : List ℕ → List ℕ → List ℕ → Result Stated Status
of_files image table text =
    if nat_lt longest_image (length image) then Err (Limit (TooLong 1 longest_image))
    else of_check image table text (first_refusal image)

-- files come to their first refusal, or to a status that fits what they state
abbrev pub ComeTo : (List ℕ → List BoundAssertion → Status → Type 0) → Result Stated Status → Status → Type 0
ComeTo Fits (Err refusal) status = status ≡ refusal
ComeTo Fits (Ok stated) status = Fits stated.costs stated.those status
