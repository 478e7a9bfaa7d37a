-- What is read off an image and the assertions that are bound to it, as the program of the rules.
use Rattle.std.specs.Prelude.{ℕ, ◌<◌, Bool, List}
use Rattle.assert_bind.specs.Binding.{roots, stubs}
use Rattle.assert_bind.specs.declared.body.BoundAssertion.{BoundAssertion}
use Rattle.transfer_acts.specs.Act.{act_at}
use Rattle.transfer_acts.specs.Reading.{is_stub, skips}
use Rattle.transfer_rules.specs.Family.{Program}
use Rattle.transfer_rules.specs.Lawful.{IsLawfulProgram}
use Rattle.transfer_rules.specs.declared.act.Act.{Act}
use Rattle.transfer_rules.specs.declared.act.Act.TheVariants.{Dead, Open, Acts}

-- the program of an image and of assertions, where the table of cycles is of version 2 or isn't, and no transfer has more
-- targets than so many
abbrev pub program_of : List ℕ → List BoundAssertion → Bool → ℕ → Program
program_of image binding eight widest = record {
  act = act_at image binding eight;
  is_stub = is_stub binding;
  skips = skips image;
  roots = roots binding;
  stubs = stubs binding;
  widest = widest;
}

-- the step of an act, where it has one, leads to a depth below 2
abbrev pub IsShallowAct : Act → Type 0
IsShallowAct Dead = Unit {0}
IsShallowAct (Open kind) = Unit {0}
IsShallowAct (Acts step way) = step.depth < 2

-- each such program is lawful
abbrev pub ProgramsAreLawful : Type 0
ProgramsAreLawful = (image : List ℕ) (binding : List BoundAssertion) (eight : Bool) (widest : ℕ) → IsLawfulProgram (program_of image binding eight widest)
