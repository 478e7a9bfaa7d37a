-- The files of the commands `bound` and `graph`: the image, the table of cycles and the assertions, numbered from 1.
use Rattle.std.specs.Prelude.{◌≡◌, ℕ, zero, suc, List, Some}
use Rattle.assert_bind.specs.declared.body.BoundAssertion.{BoundAssertion}
use Rattle.bound_task.specs.Problem.{IsProblemOf}
use Rattle.bound_task.specs.declared.problem.Problem.{Problem}
use Rattle.bt_command.specs.Call.{Call, Reading, longest_image, longest_table, longest_assertions, RoseFor, RoseForSink, IsTooLong}
use Rattle.bt_command.specs.Call.{HasImage, HasCosts, HasAssertions, StatesNothing, AcceptsImage, AcceptsCosts}
use Rattle.bt_command.specs.declared.status.AssertFault.{AssertFault}

-- the names of the files
pub record Names : Type 0 where
  pub image : List ℕ
  pub cycles : List ℕ
  pub assertions : List ℕ

-- what the files are, each of which is accepted
pub record HasFiles (read : Reading) (names : Names) (image costs : List ℕ) (those : List BoundAssertion) : Type 0 where
  pub has_image : HasImage (read.told names.image) image
  pub has_costs : HasCosts (read.told names.cycles) costs
  pub has_assertions : HasAssertions (read.told names.assertions) image those

-- the files before this one are accepted
abbrev pub AcceptsBefore : Reading → Names → ℕ → Type 0
AcceptsBefore read names (suc zero) = Unit {0}
AcceptsBefore read names (suc (suc zero)) = AcceptsImage (read.told names.image)
AcceptsBefore read names (suc (suc (suc zero))) = AcceptsImage (read.told names.image) × AcceptsCosts (read.told names.cycles)
AcceptsBefore read names _ = ⊥

-- the name and the limit of a file
abbrev pub name_of_file : Names → ℕ → List ℕ
name_of_file names (suc zero) = names.image
name_of_file names (suc (suc zero)) = names.cycles
name_of_file names _ = names.assertions

abbrev pub limit_of_file : ℕ → ℕ
limit_of_file (suc zero) = longest_image
limit_of_file (suc (suc zero)) = longest_table
limit_of_file _ = longest_assertions

-- a read of this file has failed, and the files before it are accepted
pub record CantBeRead (read : Reading) (names : Names) (file : ℕ) : Type 0 where
  pub before : AcceptsBefore read names file
  pub rose : RoseFor read (name_of_file names file)

-- this file is longer than its limit, and the files before it are accepted
pub record PassesLimit (read : Reading) (names : Names) (file limit : ℕ) : Type 0 where
  pub before : AcceptsBefore read names file
  pub limit_is : limit ≡ limit_of_file file
  pub longer : IsTooLong (read.told (name_of_file names file)) limit

-- the file of assertions states nothing of the image, and the files before it are accepted
pub record RefusesAssertions (read : Reading) (names : Names) (fault : AssertFault) : Type 0 where
  pub image : List ℕ
  pub has_image : HasImage (read.told names.image) image
  pub costs : AcceptsCosts (read.told names.cycles)
  pub refused : StatesNothing (read.told names.assertions) image fault

-- these are the bytes of the files, each of which is told
pub record AreTold (read : Reading) (names : Names) (image table text : List ℕ) : Type 0 where
  pub image_is : read.told names.image ≡ Some image
  pub table_is : read.told names.cycles ≡ Some table
  pub text_is : read.told names.assertions ≡ Some text

-- no count of faults of the files and of the sink has risen
pub record HasNoFault (call : Call) (names : Names) : Type 0 where
  pub of_image : RoseFor call.read names.image → ⊥
  pub of_cycles : RoseFor call.read names.cycles → ⊥
  pub of_assertions : RoseFor call.read names.assertions → ⊥
  pub of_sink : RoseForSink call → ⊥

-- the problem of what the files are
pub record IsProblemOfFiles (read : Reading) (names : Names) (p : Problem) : Type 0 where
  pub image : List ℕ
  pub costs : List ℕ
  pub those : List BoundAssertion
  pub files : HasFiles read names image costs those
  pub problem : IsProblemOf image costs those p
