-- The files of the command `bound`, read one after the other: up to the image, up to the table, up to the assertions.
use Rattle.std.proofs.Common.{◌≡◌, List, ℕ, Option, subst}
use Rattle.bt_base.specs.Ask.{Ask, IsReading}
use Rattle.bt_command.specs.Asks.{ReadsInOrder, up_to_image, up_to_cycles, up_to_assertions}
use Rattle.bt_command.specs.Files.{Names}
use Rattle.bt_command.specs.Call.{Reading, HasImage, HasCosts, longest_image, longest_table, longest_assertions}

-- the image alone is read
pub read_image : (names : Names) (read : Reading) → IsReading names.image longest_image read.asked read.asked_after → ReadsInOrder names read
read_image names read first = up_to_image first

-- the table is read behind an accepted image
pub read_cycles : (names : Names) (read : Reading) (between : List Ask) (bytes : List ℕ) → IsReading names.image longest_image read.asked between
    → HasImage (read.told names.image) bytes → IsReading names.cycles longest_table between read.asked_after → ReadsInOrder names read
read_cycles names read between bytes first accepted second = up_to_cycles between first (record { image = bytes; has = accepted }) second

-- the assertions are read behind an accepted image and an accepted table
pub read_assertions : (names : Names) (read : Reading) (between behind : List Ask) (bytes costs : List ℕ) (told : Option (List ℕ))
    → IsReading names.image longest_image read.asked between → HasImage (read.told names.image) bytes
    → IsReading names.cycles longest_table between behind → HasCosts told costs → told ≡ read.told names.cycles
    → IsReading names.assertions longest_assertions behind read.asked_after → ReadsInOrder names read
read_assertions names read between behind bytes costs told first accepted second taken same third =
    up_to_assertions between behind first (record { image = bytes; has = accepted }) second
    (record { costs = costs; has = subst (λ (t : Option (List ℕ)). HasCosts t costs) same taken }) third
