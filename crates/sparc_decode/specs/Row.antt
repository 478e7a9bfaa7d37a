-- The rows of a table of opcodes: the selectors that a row has, and the instruction of a word that it names.
use Rattle.std.specs.Prelude.{◌==◌, ℕ, Bool, true, false, List, [], ◌∷◌, if◌then◌else◌}
use Rattle.sparc_decode.specs.declared.instruction.Instr.{Instr}
use Rattle.sparc_decode.specs.declared.instruction.Instr.TheVariants.{Unknown}

-- the selectors of a row, and what instruction a word with one of them stands for
pub record Row : Type 0 where
  pub selectors : List ℕ
  pub instruction : ℕ → Instr

abbrev pub row : List ℕ → (ℕ → Instr) → Row
row selectors instruction = record { selectors = selectors; instruction = instruction }

-- whether a selector is among these
abbrev pub has : List ℕ → ℕ → Bool
has [] selector = false
has (first ∷ rest) selector = if selector == first then true else has rest selector

-- the instruction of the first row that has the selector; a word that no row names is unknown
abbrev pub named_by : List Row → ℕ → ℕ → Instr
named_by [] selector word = Unknown word
named_by (first ∷ rest) selector word = if has first.selectors selector then first.instruction word else named_by rest selector word
