-- What a call of the program answers to its words.
use Rattle.std.specs.Prelude.{◌≡◌, ℕ, List}
use Rattle.bt_words.specs.Request.{Asked, bounds, generates, graphs, lists, IsRequest, IsRefused}
use Rattle.bt_command.specs.Bound.{BoundSays, BoundIsWhole, BoundIsExact, BoundHolds}
use Rattle.bt_command.specs.Call.{Call, IsWritten}
use Rattle.bt_command.specs.Decode.{DecodeSays, DecodeIsWhole, DecodeIsExact}
use Rattle.bt_command.specs.Generated.{GenSays, GenIsWhole, GenIsExact, IsGenText}
use Rattle.bt_command.specs.Graph.{GraphSays, GraphIsWhole, GraphIsExact, GraphHolds}
use Rattle.bt_command.specs.declared.status.Status.{Status}
use Rattle.bt_command.specs.declared.status.Status.TheVariants.{Bounded, Unbounded, Usage, WriteFault, Want}

-- what a status says of a call that asks for this
abbrev pub Says : Asked → Call → Status → Type 0
Says (bounds image cycles assertions workers) call status =
    BoundSays (record { image = image; cycles = cycles; assertions = assertions }) call status
Says (graphs image cycles assertions workers) call status =
    GraphSays (record { image = image; cycles = cycles; assertions = assertions }) call status
Says (lists image) call status = DecodeSays image call status
Says (generates functions workers) call status = GenSays functions call status

-- where the files are accepted and no fault rises, the whole text is written, but for want of memory
abbrev pub IsWhole : Asked → Call → Status → Type 0
IsWhole (bounds image cycles assertions workers) call status =
    BoundIsWhole (record { image = image; cycles = cycles; assertions = assertions }) call status
IsWhole (graphs image cycles assertions workers) call status =
    GraphIsWhole (record { image = image; cycles = cycles; assertions = assertions }) call status
IsWhole (lists image) call status = DecodeIsWhole image call status
IsWhole (generates functions workers) call status = GenIsWhole functions call status

-- where the files are told and no fault rises, the status is what their bytes come to in the order of refusals, but for
-- want of memory
abbrev pub IsExact : Asked → Call → Status → Type 0
IsExact (bounds image cycles assertions workers) call status =
    BoundIsExact (record { image = image; cycles = cycles; assertions = assertions }) call status
IsExact (graphs image cycles assertions workers) call status =
    GraphIsExact (record { image = image; cycles = cycles; assertions = assertions }) call status
IsExact (lists image) call status = DecodeIsExact image call status
IsExact (generates functions workers) call status = GenIsExact functions call status

-- nothing was put into the sink: it tells what it told, and its count of faults stands
pub record PutsNothing (call : Call) : Type 0 where
  pub told : call.written_after ≡ call.written
  pub faults : call.sink_faults_after ≡ call.sink_faults

-- no count of faults of the shelf has moved, which a call that fetches can't promise of every shelf
abbrev pub LeavesFaults : Call → Type 0
LeavesFaults call = call.read.faults_after ≡ call.read.faults

-- with any status but that of the whole text and that of a text cut short nothing was put into the sink
abbrev pub Writes : Call → Status → Type 0
Writes call Bounded = Unit {0}
Writes call Unbounded = Unit {0}
Writes call (WriteFault written) = Unit {0}
Writes call _ = PutsNothing call

-- what a call answers: that the words are refused, with the shelf's faults left as they were, that memory is wanting, or
-- to what they ask for
pub data Answers (words : List (List ℕ)) (call : Call) : Status → Type 0 where
  refused : IsRefused words → LeavesFaults call → Answers words call Usage
  wanting : Answers words call Want
  answered : (asked : Asked) {status : Status} → IsRequest words asked → Says asked call status → IsWhole asked call status
      → IsExact asked call status → Answers words call status

-- What a command has written holds of the runs of the program that its files are. The report: each run that meets the assertions
-- follows, up to its first gap, only the due graph's edges, passes each loop head at most its bound, and never spends in a call
-- more than the bound shown for its context. The graph: each such run is followed by it up to its first gap. The line of `gen`: what the
-- outcomes that it is of say holds of the runs of the image that was made. Of a listing nothing is said.
abbrev pub ShownHolds : Asked → Call → Type 0
ShownHolds (bounds image cycles assertions workers) call = BoundHolds (record { image = image; cycles = cycles; assertions = assertions }) call
ShownHolds (graphs image cycles assertions workers) call = GraphHolds (record { image = image; cycles = cycles; assertions = assertions }) call
ShownHolds (lists image) call = Unit {0}
ShownHolds (generates functions workers) call = IsWritten call (IsGenText functions)

-- what the words ask for was written, and holds of runs
pub record HasShown (words : List (List ℕ)) (call : Call) : Type 0 where
  pub asked : Asked
  pub request : IsRequest words asked
  pub holds : ShownHolds asked call

-- with the status of a whole text this is so
abbrev pub HoldsOfRuns : List (List ℕ) → Call → Status → Type 0
HoldsOfRuns words call Bounded = HasShown words call
HoldsOfRuns words call Unbounded = HasShown words call
HoldsOfRuns words call _ = Unit {0}
