-- Which bytes a call asks of the shelf: those of the files that its words name, in the order of the words, each only
-- once the one before is accepted, and no other.
use Rattle.std.specs.Prelude.{◌≡◌, ◌⊎◌, List, ℕ}
use Rattle.bt_base.specs.Ask.{Ask, IsReading}
use Rattle.bt_words.specs.Request.{Asked, bounds, generates, graphs, lists, IsRequest}
use Rattle.bt_command.specs.Files.{Names}
use Rattle.bt_command.specs.Call.{Call, Reading, longest_image, longest_table, longest_assertions, AcceptsImage, AcceptsCosts}

-- the files of the commands `bound` and `graph` are read one after the other, up to some file, each only once the one before it is
-- accepted
pub data ReadsInOrder (names : Names) (read : Reading) : Type 0 where
  up_to_image : IsReading names.image longest_image read.asked read.asked_after → ReadsInOrder names read
  up_to_cycles : (between : List Ask) → IsReading names.image longest_image read.asked between → AcceptsImage (read.told names.image)
      → IsReading names.cycles longest_table between read.asked_after → ReadsInOrder names read
  up_to_assertions : (between behind : List Ask) → IsReading names.image longest_image read.asked between → AcceptsImage (read.told names.image)
      → IsReading names.cycles longest_table between behind → AcceptsCosts (read.told names.cycles)
      → IsReading names.assertions longest_assertions behind read.asked_after → ReadsInOrder names read

-- nothing is asked of the shelf
abbrev pub AsksNothing : Call → Type 0
AsksNothing call = call.read.asked_after ≡ call.read.asked

-- what a command asks of the shelf; one whose image is made asks for nothing
abbrev pub AsksFor : Asked → Call → Type 0
AsksFor (bounds image cycles assertions workers) call = ReadsInOrder (record { image = image; cycles = cycles; assertions = assertions }) call.read
AsksFor (graphs image cycles assertions workers) call = ReadsInOrder (record { image = image; cycles = cycles; assertions = assertions }) call.read
AsksFor (lists image) call = IsReading image longest_image call.read.asked call.read.asked_after
AsksFor (generates functions workers) call = AsksNothing call

-- a call asks for the files that its words name, or, where they name none or memory is wanting, for nothing
abbrev pub AsksInOrder : List (List ℕ) → Call → Type 0
AsksInOrder words call = AsksNothing call ⊎ ((asked : Asked) × (IsRequest words asked × AsksFor asked call))
