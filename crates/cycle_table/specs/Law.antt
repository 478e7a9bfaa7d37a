-- What holds of the table of a list of lines.
use Rattle.std.specs.Prelude.{◌≡◌, ◌≢◌, ℕ, ◌<◌, ◌≤◌, List, [], take, slice_get, Option, Some, None, MatchOption, Ok}
use Rattle.cycle_table.specs.Class.{place_of, count_of, cost_at, version_of}
use Rattle.cycle_table.specs.Row.{Row, says}
use Rattle.cycle_table.specs.Table.{fault_of, first_fault, body_of}
use Rattle.cycle_table.specs.declared.classes.Version.{Version}
use Rattle.cycle_table.specs.declared.refusal.CycleRefusal.{CycleRefusal}
use Rattle.sparc_decode.specs.declared.cost_class.CostClass.{CostClass}

-- what is wrong with a line, if there is one, after these
abbrev pub fault_from : Version → List Row → Option Row → Option CycleRefusal
fault_from version earlier None = None
fault_from version earlier (Some row) = fault_of version earlier row

-- what is wrong with the line at a place, after all lines before it
abbrev pub fault_at : Version → List Row → ℕ → Option CycleRefusal
fault_at version body place = fault_from version (take place body) (slice_get body place)

-- this is wrong with the line at some place, and nothing with any before it
pub record IsFirstFault (version : Version) (body : List Row) (fault : CycleRefusal) : Type 0 where
  pub place : ℕ
  pub bad : fault_at version body place ≡ Some fault
  pub fine : (k : ℕ) → k < place → fault_at version body k ≡ None

-- what is wrong with lines is what is wrong with the first bad one; else nothing is wrong with any
abbrev pub FaultsAreFirst : Type 0
FaultsAreFirst =
    (version : Version) (body : List Row)
    → MatchOption (first_fault version [] body) ((k : ℕ) → fault_at version body k ≡ None) (λ fault. IsFirstFault version body fault)

-- a line that gives a class a cost
pub record GivesCost (version : Version) (body : List Row) (class : CostClass) (cost : ℕ) : Type 0 where
  pub place : ℕ
  pub row : Row
  pub stands : slice_get body place ≡ Some row
  pub given : says version row.words ≡ Ok (class, cost)

-- each class of the version has a cost that isn't 0, on one line, and no other line has the class; each other class
-- costs 0, so the costs tell the version
pub record IsWhole (version : Version) (body : List Row) (costs : List ℕ) : Type 0 where
  pub each : (class : CostClass) → place_of class < count_of version → GivesCost version body class (cost_at costs class)
  pub some : (class : CostClass) → place_of class < count_of version → cost_at costs class ≢ 0
  pub once : (class : CostClass) (cost other : ℕ) → place_of class < count_of version
      → (one : GivesCost version body class cost) (two : GivesCost version body class other) → one.place ≡ two.place
  pub none : (class : CostClass) → count_of version ≤ place_of class → cost_at costs class ≡ 0
  pub told : version_of costs ≡ version

-- lines that are a table give each class of its version its cost on exactly one line
abbrev pub TablesAreWhole : Type 0
TablesAreWhole = (version : Version) (body : List Row) (costs : List ℕ) → body_of version body ≡ Ok costs → IsWhole version body costs
