-- What the words of a call ask for: it is read off the subcommand that the command line makes of them.
use Rattle.std.specs.Prelude.{◌≡◌, ◌≢◌, ◌≤◌, ⊤, ℕ, false, List, [], Option, Some, None, map, codes, string_bytes, String}
use Rattle.std.specs.Prelude.{if◌then◌else◌, bytes_eq, option_and_then, option_map}
use Rattle.std.specs.Str.Parse.{digits_value, without_leading_plus}
use Rattle.std.specs.declared.alloc.Global.{Global}
use Rattle.clap.specs.Words.{IsAmong, Row, Text, fault_of, first_of, one_of, subcommand_of, takes}
use Rattle.clap.specs.declared.error.ErrorKind.{ErrorKind}
use Rattle.clap.specs.declared.error.ErrorKind.TheVariants.{OutOfMemory}
use Rattle.bt_words.specs.App.{boundt_app}
use Rattle.bt_words.specs.declared.request.Request.{Request}
use Rattle.bt_words.specs.declared.request.Request.TheVariants.{Bound, Graph, Decode, Generate}

-- the bytes of each word
abbrev pub texts : List (String Global) → List Text
texts words = map string_bytes words

-- what a call asks for: a bound or a graph, of these three names and with so many workers, a listing of this name, or the line of an
-- image of so many functions that is made, with so many workers
pub data Asked : Type 0 where
  bounds : Text → Text → Text → ℕ → Asked
  graphs : Text → Text → Text → ℕ → Asked
  lists : Text → Asked
  generates : ℕ → ℕ → Asked

-- the number that decimal digits write, also after a sign +
abbrev pub number_of : Text → ℕ
number_of text = digits_value 10 (without_leading_plus text)

-- what is made of three names and a number of workers that matches hold
abbrev pub files_asked : (Text → Text → Text → ℕ → Asked) → List Row → Option Asked
files_asked make rows =
    option_and_then (λ image.
    option_and_then (λ cycles.
    option_and_then (λ assertions.
    option_map (λ workers. make image cycles assertions (number_of workers))
    (one_of (codes "workers") rows))
    (first_of (codes "ASSERTIONS") rows))
    (first_of (codes "CYCLES") rows))
    (first_of (codes "IMAGE") rows)

-- what the matches of `decode` ask for
abbrev pub decode_asked : List Row → Option Asked
decode_asked rows = option_map (λ image. lists image) (first_of (codes "IMAGE") rows)

-- what the matches of `gen` ask for
abbrev pub gen_asked : List Row → Option Asked
gen_asked rows =
    option_and_then (λ functions.
    option_map (λ workers. generates (number_of functions) (number_of workers))
    (one_of (codes "workers") rows))
    (one_of (codes "N") rows)

-- what the matches of the subcommand of this name ask for
abbrev pub asked_by : Text → List Row → Option Asked
asked_by name rows =
    if bytes_eq name (codes "bound") then files_asked bounds rows
    else (if bytes_eq name (codes "graph") then files_asked graphs rows
    else (if bytes_eq name (codes "decode") then decode_asked rows
    else (if bytes_eq name (codes "gen") then gen_asked rows else None)))

-- what the words ask for
abbrev pub requested : List Text → Option Asked
requested words = option_and_then (λ p. asked_by p.0 p.1) (subcommand_of boundt_app words)

-- the same, of a request
abbrev pub asked_of : Request → Asked
asked_of (Bound image cycles assertions workers) = bounds image.now cycles.now assertions.now workers
asked_of (Graph image cycles assertions workers) = graphs image.now cycles.now assertions.now workers
asked_of (Decode image) = lists image.now
asked_of (Generate functions workers) = generates functions workers

-- there are from 1 to 64 workers
abbrev pub HasWorkers : Asked → Type 0
HasWorkers (bounds image cycles assertions workers) = (1 ≤ workers) × (workers ≤ 64)
HasWorkers (graphs image cycles assertions workers) = (1 ≤ workers) × (workers ≤ 64)
HasWorkers (lists image) = ⊤
HasWorkers (generates functions workers) = (1 ≤ workers) × (workers ≤ 64)

-- where an image is to be made, it is one of 1 to 4,000 functions
abbrev pub HasFunctions : Asked → Type 0
HasFunctions (bounds image cycles assertions workers) = ⊤
HasFunctions (graphs image cycles assertions workers) = ⊤
HasFunctions (lists image) = ⊤
HasFunctions (generates functions workers) = (1 ≤ functions) × (functions ≤ 4000)

-- the words are without a fault, and ask for this
pub record IsRequest (words : List Text) (asked : Asked) : Type 0 where
  pub faultless : fault_of boundt_app words ≡ []
  pub asks : requested words ≡ Some asked
  pub workers : HasWorkers asked
  pub functions : HasFunctions asked

-- the words have a fault, which isn't want of memory
pub record IsRefused (words : List Text) : Type 0 where
  pub kind : ErrorKind
  pub fault : IsAmong kind (fault_of boundt_app words)
  pub other : kind ≢ OutOfMemory
  pub untaken : takes boundt_app words ≡ false
