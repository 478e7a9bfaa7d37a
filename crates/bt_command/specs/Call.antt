-- A call of the program, and what its files are.
use Rattle.std.specs.Prelude.{◌≡◌, ℕ, ◌<◌, ◌≤◌, List, length, take, Option, Some, None, IfSome, Ok, Err}
use Rattle.assert_bind.specs.Binding.{binding}
use Rattle.assert_bind.specs.declared.body.BoundAssertion.{BoundAssertion}
use Rattle.assert_bind.specs.declared.refusal.BindRefusal.{BindRefusal}
use Rattle.assert_lang.specs.Text.{assertions_of}
use Rattle.assert_lang.specs.declared.assertion.Assertion.{Assertion}
use Rattle.assert_lang.specs.declared.refusal.AssertRefusal.{AssertRefusal}
use Rattle.bt_base.specs.Ask.{Ask}
use Rattle.bt_base.specs.Shelf.{Rose}
use Rattle.bt_base.specs.Sink.{Appended}
use Rattle.bt_image.specs.Refusal.{first_refusal}
use Rattle.bt_image.specs.declared.refusal.ImageRefusal.{ImageRefusal}
use Rattle.bt_command.specs.declared.status.AssertFault.{AssertFault}
use Rattle.bt_command.specs.declared.status.AssertFault.TheVariants.{Parse, Bind, Unmatched}
use Rattle.cycle_table.specs.Table.{table_of}
use Rattle.cycle_table.specs.declared.refusal.CycleRefusal.{CycleRefusal}

-- what is read from a shelf: what it tells under each name, its counts of faults before and after, and what was asked of it before
-- and after
pub record Reading : Type 0 where
  pub told : List ℕ → Option (List ℕ)
  pub faults : List ℕ → ℕ
  pub faults_after : List ℕ → ℕ
  pub asked : List Ask
  pub asked_after : List Ask

-- the reading between two states of a shelf, of which these are the meanings
abbrev pub reading_of : {F : Type 0} → (F → List ℕ → Option (List ℕ)) → (F → List ℕ → ℕ) → (F → List Ask) → F → F → Reading
reading_of told faults asked shelf shelf_after = record {
  told = told shelf;
  faults = faults shelf;
  faults_after = faults shelf_after;
  asked = asked shelf;
  asked_after = asked shelf_after;
}

-- what a call is given, and what it leaves: what is read from the shelf, and what the sink tells and its count of faults before and
-- after
pub record Call : Type 0 where
  pub read : Reading
  pub written : Option (List ℕ)
  pub written_after : Option (List ℕ)
  pub sink_faults : ℕ
  pub sink_faults_after : ℕ

-- the call between these states of a shelf and a sink, of which these are the meanings
abbrev pub call_of : {F K : Type 0} → (F → List ℕ → Option (List ℕ)) → (F → List ℕ → ℕ) → (F → List Ask) → (K → Option (List ℕ)) → (K → ℕ)
    → F → F → K → K → Call
call_of told faults asked written sink_faults shelf shelf_after sink sink_after = record {
  read = reading_of told faults asked shelf shelf_after;
  written = written sink;
  written_after = written sink_after;
  sink_faults = sink_faults sink;
  sink_faults_after = sink_faults sink_after;
}

-- the most bytes of an image, 16 MiB
abbrev pub longest_image : ℕ
longest_image = 16777216

-- the most bytes of a table of cycles, 1 MiB
abbrev pub longest_table : ℕ
longest_table = 1048576

-- the most bytes of a file of assertions, 1 MiB
abbrev pub longest_assertions : ℕ
longest_assertions = 1048576

-- the count of faults of a name has risen
abbrev pub RoseFor : Reading → List ℕ → Type 0
RoseFor read name = Rose (read.faults name) (read.faults_after name)

-- the count of faults of the sink has risen in the call
abbrev pub RoseForSink : Call → Type 0
RoseForSink call = Rose call.sink_faults call.sink_faults_after

-- these are the bytes of a file, where they are told
abbrev pub AgreesWith : Option (List ℕ) → List ℕ → Type 0
AgreesWith told bytes = IfSome told (λ those. bytes ≡ those)

-- the bytes of a file, which are no more than its limit
pub record HasFile (told : Option (List ℕ)) (limit : ℕ) (bytes : List ℕ) : Type 0 where
  pub same : AgreesWith told bytes
  pub within : length bytes ≤ limit

-- a file that is told is longer than its limit
abbrev pub IsTooLong : Option (List ℕ) → ℕ → Type 0
IsTooLong told limit = IfSome told (λ bytes. limit < length bytes)

-- the image that a file is
pub record HasImage (told : Option (List ℕ)) (image : List ℕ) : Type 0 where
  pub file : HasFile told longest_image image
  pub accepted : first_refusal image ≡ None

-- a file is no image, and this is the first refusal of its bytes
pub record IsNoImage (told : Option (List ℕ)) (refusal : ImageRefusal) : Type 0 where
  pub image : List ℕ
  pub file : HasFile told longest_image image
  pub refused : first_refusal image ≡ Some refusal

-- some image is accepted
pub record AcceptsImage (told : Option (List ℕ)) : Type 0 where
  pub image : List ℕ
  pub has : HasImage told image

-- the costs of the table of cycles that a file is
pub record HasCosts (told : Option (List ℕ)) (costs : List ℕ) : Type 0 where
  pub table : List ℕ
  pub file : HasFile told longest_table table
  pub accepted : table_of table ≡ Ok costs

-- a file is no table of cycles, and this is the first refusal of its bytes
pub record IsNoTable (told : Option (List ℕ)) (refusal : CycleRefusal) : Type 0 where
  pub table : List ℕ
  pub file : HasFile told longest_table table
  pub refused : table_of table ≡ Err refusal

-- some table of cycles is accepted
pub record AcceptsCosts (told : Option (List ℕ)) : Type 0 where
  pub costs : List ℕ
  pub has : HasCosts told costs

-- the assertions that a file states of an image
pub record HasAssertions (told : Option (List ℕ)) (image : List ℕ) (those : List BoundAssertion) : Type 0 where
  pub text : List ℕ
  pub file : HasFile told longest_assertions text
  pub list : List Assertion
  pub parsed : assertions_of text ≡ Ok list
  pub bound : binding image list ≡ Ok those

-- a file is no list of assertions, and this is the first refusal of its text
pub record IsNoList (told : Option (List ℕ)) (refusal : AssertRefusal) : Type 0 where
  pub text : List ℕ
  pub file : HasFile told longest_assertions text
  pub refused : assertions_of text ≡ Err refusal

-- the assertions of a file can't be bound to an image, and this is the refusal of the first that can't
pub record IsUnbound (told : Option (List ℕ)) (image : List ℕ) (refusal : BindRefusal) : Type 0 where
  pub text : List ℕ
  pub file : HasFile told longest_assertions text
  pub list : List Assertion
  pub parsed : assertions_of text ≡ Ok list
  pub refused : binding image list ≡ Err refusal

-- why a file states nothing of an image; that a loop is unmatched isn't said by the file
abbrev pub StatesNothing : Option (List ℕ) → List ℕ → AssertFault → Type 0
StatesNothing told image (Parse refusal) = IsNoList told refusal
StatesNothing told image (Bind refusal) = IsUnbound told image refusal
StatesNothing told image (Unmatched line) = ⊥

-- the whole of a text was written
pub record IsWritten (call : Call) (IsText : List ℕ → Type 0) : Type 0 where
  pub text : List ℕ
  pub is : IsText text
  pub written : Appended call.written call.written_after text

-- only the first bytes of a text were written, and the count of faults of the sink has risen
pub record IsCutShort (call : Call) (IsText : List ℕ → Type 0) (count : ℕ) : Type 0 where
  pub text : List ℕ
  pub is : IsText text
  pub less : count < length text
  pub written : Appended call.written call.written_after (take count text)
  pub rose : RoseForSink call
