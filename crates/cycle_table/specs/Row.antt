-- The lines of a table that have words, and what each says.
use Rattle.std.specs.Prelude.{ℕ, ◌+◌, if◌then◌else◌, List, [], ◌∷◌, Option, Some, None, Result, Ok, Err, codes}
use Rattle.std.specs.Str.{bytes_eq}
use Rattle.cycle_table.specs.Class.{class_named}
use Rattle.cycle_table.specs.declared.classes.Version.{Version}
use Rattle.cycle_table.specs.declared.classes.Version.TheVariants.{One, Two}
use Rattle.line_text.specs.LineText.{uncommented, words_of}
use Rattle.line_text.specs.Numeral.{number_up_to}
use Rattle.cycle_table.specs.declared.refusal.Why.{Why}
use Rattle.cycle_table.specs.declared.refusal.Why.TheVariants.{Class, Number, Extra}
use Rattle.sparc_decode.specs.declared.cost_class.CostClass.{CostClass}

-- a line that has words: its number, from 1, and its words
pub record Row : Type 0 where
  pub number : ℕ
  pub words : List (List ℕ)

-- a line in front of others; without words it is left out
abbrev pub onto : ℕ → List (List ℕ) → List Row → List Row
onto number [] rows = rows
onto number (word ∷ more) rows = record { number = number; words = word ∷ more } ∷ rows

-- the lines that have words, where the first line has this number
abbrev pub rows_from : ℕ → List (List ℕ) → List Row
rows_from number [] = []
rows_from number (line ∷ rest) = onto number (words_of (uncommented line)) (rows_from (number + 1) rest)

-- the version that a word is
abbrev pub version_named : List ℕ → Option Version
version_named word = if bytes_eq word (codes "1") then Some One else (if bytes_eq word (codes "2") then Some Two else None)

-- the version of a table whose first line has these words, which is `cycles 1` or `cycles 2`
abbrev pub header_of : List (List ℕ) → Option Version
header_of (name ∷ version ∷ []) = if bytes_eq name (codes "cycles") then version_named version else None
header_of _ = None

-- a class and what it costs, where nothing follows
abbrev pub ends_with : CostClass → Option ℕ → List (List ℕ) → Result (CostClass × ℕ) Why
ends_with class None more = Err Number
ends_with class (Some cost) [] = Ok (class, cost)
ends_with class (Some cost) (word ∷ more) = Err Extra

-- the greatest cost
abbrev pub greatest_cost : ℕ
greatest_cost = 1000000

-- what follows the name of a class
abbrev pub costs_as : CostClass → List (List ℕ) → Result (CostClass × ℕ) Why
costs_as class [] = Err Number
costs_as class (word ∷ more) = ends_with class (number_up_to greatest_cost word) more

-- a name of a class and what follows it
abbrev pub names_as : Option CostClass → List (List ℕ) → Result (CostClass × ℕ) Why
names_as None more = Err Class
names_as (Some class) more = costs_as class more

-- what the words of a line of a version say: a class and its cost, or what is wrong with them
abbrev pub says : Version → List (List ℕ) → Result (CostClass × ℕ) Why
says version [] = Err Class
says version (name ∷ more) = names_as (class_named version name) more
