-- The table of a text: what each class costs, or why the text is no table.
use Rattle.std.specs.Prelude.{◌==◌, ◌≡◌, ℕ, ◌<◌, ◌≤◌, if◌then◌else◌, List, [], ◌∷◌, ◌++◌, length, map, sum_by, All, Option, Some, None, Result, Ok, Err}
use Rattle.std.specs.List.{range_with_len}
use Rattle.std.specs.Str.Lines.{lines}
use Rattle.cycle_table.specs.Class.{place_of, count_of, cost_at, first_free, version_of}
use Rattle.cycle_table.specs.Row.{Row, rows_from, header_of, says}
use Rattle.cycle_table.specs.declared.classes.Version.{Version}
use Rattle.cycle_table.specs.declared.refusal.CycleRefusal.{CycleRefusal}
use Rattle.cycle_table.specs.declared.refusal.CycleRefusal.TheVariants.{Line, Twice, Zero, Missing}
use Rattle.cycle_table.specs.declared.refusal.Why.{Why}
use Rattle.cycle_table.specs.declared.refusal.Why.TheVariants.{Header}
use Rattle.sparc_decode.specs.declared.cost_class.CostClass.{CostClass}

-- what a line that says this gives the class at a place
abbrev pub cost_for : Result (CostClass × ℕ) Why → ℕ → ℕ
cost_for (Err why) place = 0
cost_for (Ok (class, cost)) place = if place_of class == place then cost else 0

-- what lines give the class at a place, all in all
abbrev pub cost_in : Version → List Row → ℕ → ℕ
cost_in version rows place = sum_by (λ row. cost_for (says version row.words) place) rows

-- what lines give each class, in the order of a table
unfoldable pub costs_of : Version → List Row → List ℕ
costs_of version rows = map (cost_in version rows) (range_with_len 0 30)

-- what is wrong with a line that says this, where the lines before it give these costs
abbrev pub fault_said : List ℕ → ℕ → Result (CostClass × ℕ) Why → Option CycleRefusal
fault_said costs number (Err why) = Some (Line number why)
fault_said costs number (Ok (class, cost)) =
    if cost == 0 then Some (Zero class number) else (if cost_at costs class == 0 then None else Some (Twice class number))

-- what is wrong with a line after these
abbrev pub fault_of : Version → List Row → Row → Option CycleRefusal
fault_of version earlier row = fault_said (costs_of version earlier) row.number (says version row.words)

-- the first of two faults
abbrev pub first_of : Option CycleRefusal → Option CycleRefusal → Option CycleRefusal
first_of None later = later
first_of (Some fault) later = Some fault

-- what is wrong with the first bad line after these
abbrev pub first_fault : Version → List Row → List Row → Option CycleRefusal
first_fault version earlier [] = None
first_fault version earlier (row ∷ rest) = first_of (fault_of version earlier row) (first_fault version (earlier ++ row ∷ []) rest)

-- the costs, where no class of the version is missing
abbrev pub complete : Option CostClass → List ℕ → Result (List ℕ) CycleRefusal
complete None costs = Ok costs
complete (Some class) costs = Err (Missing class)

abbrev pub completed : Version → List ℕ → Result (List ℕ) CycleRefusal
completed version costs = complete (first_free version costs) costs

-- an answer, unless there is a fault
abbrev pub unless : Option CycleRefusal → Result (List ℕ) CycleRefusal → Result (List ℕ) CycleRefusal
unless None answer = answer
unless (Some fault) answer = Err fault

-- the table of the lines behind the header of a version
abbrev pub body_of : Version → List Row → Result (List ℕ) CycleRefusal
body_of version body = unless (first_fault version [] body) (completed version (costs_of version body))

-- the table of the lines behind a first one with this number, which may be a header
abbrev pub behind : Option Version → ℕ → List Row → Result (List ℕ) CycleRefusal
behind None number body = Err (Line number Header)
behind (Some version) number body = body_of version body

-- the table of lines that have words
abbrev pub headed : List Row → Result (List ℕ) CycleRefusal
headed [] = Err (Line 1 Header)
headed (row ∷ body) = behind (header_of row.words) row.number body

-- the table of a text: the costs of the classes in their order, or the first thing that is wrong with it
unfoldable pub table_of : List ℕ → Result (List ℕ) CycleRefusal
table_of text = headed (rows_from 1 (lines text))

-- costs of all classes: each that the table's version has from 1 to 1,000,000, and every other 0
pub record AreCosts (costs : List ℕ) : Type 0 where
  pub count : length costs ≡ 30
  pub least : (class : CostClass) → place_of class < count_of (version_of costs) → 1 ≤ cost_at costs class
  pub none : (class : CostClass) → count_of (version_of costs) ≤ place_of class → cost_at costs class ≡ 0
  pub most : All (λ cost. cost ≤ 1000000) costs
