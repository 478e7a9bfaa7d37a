-- Contexts as lists of numbers.
use Rattle.std.specs.Prelude.{ℕ, ℤ, pos, negsuc, List, [], ◌∷◌, ◌++◌, map}
use Rattle.std.specs.List.{flat_map}
use Rattle.value_lattice.specs.declared.value.Value.{Value}
use Rattle.value_lattice.specs.declared.value.Value.TheVariants.{Words, Range, Ret}
use Rattle.wcet_report.specs.declared.context.Context.{Context}
use Rattle.wcet_report.specs.declared.context.Context.TheVariants.{Plain, With}

-- the kind of a value, and its words with an end behind them, or the ends of its range
abbrev pub value_code : Value → List ℤ
value_code (Words words) = pos 0 ∷ (map pos words ++ negsuc 0 ∷ [])
value_code (Range lo hi) = pos 1 ∷ lo ∷ hi ∷ []
value_code Ret = pos 2 ∷ []

abbrev pub args_code : List Value → List ℤ
args_code args = flat_map value_code args

-- nothing for a plain context
abbrev pub context_code : Context → List ℤ
context_code Plain = []
context_code (With args) = pos 3 ∷ args_code args

-- a subprogram and its context
abbrev pub code_of : ℕ × Context → List ℤ
code_of one = pos one.0 ∷ context_code one.1
