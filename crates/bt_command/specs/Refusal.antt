-- What a refusal says of the files of the commands `bound` and `graph`.
use Rattle.std.specs.Prelude.{List, ℕ}
use Rattle.assert_bind.specs.declared.body.BoundAssertion.{BoundAssertion}
use Rattle.bt_command.specs.Call.{Reading, IsNoImage, IsNoTable, AcceptsImage}
use Rattle.bt_command.specs.Files.{Names, HasFiles, CantBeRead, PassesLimit, RefusesAssertions}
use Rattle.bt_command.specs.Program.{RefusesProgram}
use Rattle.bt_command.specs.declared.status.AssertFault.TheVariants.{Parse, Bind, Unmatched}
use Rattle.bt_command.specs.declared.status.LimitFault.TheVariants.{TooLong, Nodes, Contexts}
use Rattle.bt_command.specs.declared.status.Status.{Status}
use Rattle.bt_command.specs.declared.status.Status.TheVariants.{Bounded, Unbounded, Usage, Image, Cycles, Assertions, ReadFault, WriteFault, Want, Limit}

-- each file is accepted, and the program that they are is refused
pub record HasNoOutcome (read : Reading) (names : Names) (status : Status) : Type 0 where
  pub image : List ℕ
  pub costs : List ℕ
  pub those : List BoundAssertion
  pub files : HasFiles read names image costs those
  pub refused : RefusesProgram image costs those status

-- the table of refusals
abbrev pub Refuses : Names → Reading → Status → Type 0
Refuses names read (Image refusal) = IsNoImage (read.told names.image) refusal
Refuses names read (Cycles refusal) = AcceptsImage (read.told names.image) × IsNoTable (read.told names.cycles) refusal
Refuses names read (Assertions (Parse refusal)) = RefusesAssertions read names (Parse refusal)
Refuses names read (Assertions (Bind refusal)) = RefusesAssertions read names (Bind refusal)
Refuses names read (Assertions (Unmatched line)) = HasNoOutcome read names (Assertions (Unmatched line))
Refuses names read (ReadFault file) = CantBeRead read names file
Refuses names read Want = Unit {0}
Refuses names read (Limit (TooLong file limit)) = PassesLimit read names file limit
Refuses names read (Limit (Nodes count)) = HasNoOutcome read names (Limit (Nodes count))
Refuses names read (Limit (Contexts count)) = HasNoOutcome read names (Limit (Contexts count))
Refuses names read Bounded = ⊥
Refuses names read Unbounded = ⊥
Refuses names read Usage = ⊥
Refuses names read (WriteFault written) = ⊥
