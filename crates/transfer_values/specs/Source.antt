-- What a step writes, of the state before it.
use Rattle.std.specs.Prelude.{◌==◌, ℕ, ℤ, ◌%◌, ◌^◌, Bool, List, [], ◌∷◌, filter, int_le, Option, Some, None, if◌then◌else◌}
use Rattle.std.specs.Option.{option_map, option_and_then}
use Rattle.bt_image.specs.Image.{word}
use Rattle.value_lattice.specs.Least.{top, cover, span}
use Rattle.value_lattice.specs.Order.{rank_of}
use Rattle.value_lattice.specs.declared.value.Value.{Value}
use Rattle.value_lattice.specs.declared.value.Value.TheVariants.{Words, Range, Ret}
use Rattle.value_ops.specs.Operation.{apply}
use Rattle.value_ops.specs.declared.op.Op.TheVariants.{Add}
use Rattle.abs_state.specs.State.{State, cell_at}
use Rattle.abs_state.specs.declared.flags.Right.{Right}
use Rattle.abs_state.specs.declared.flags.Right.TheVariants.{Cell, Word}
use Rattle.transfer_rules.specs.declared.step.Source.{Source}
use Rattle.transfer_rules.specs.declared.step.Source.TheVariants.{Anything, Exactly, Ranged, Applied, Loaded}

-- a number as a word
abbrev pub word_of : ℕ → ℕ
word_of n = n % 2 ^ 32

-- the value of an operand: what is known of a cell, or one word
abbrev pub operand : State → Right → Value
operand s (Cell c) = cell_at s c
operand s (Word n) = Words (word_of n ∷ [])

-- an address at which a word may stand
abbrev pub is_aligned : ℕ → Bool
is_aligned a = a % 4 == 0

-- the words at some addresses, where each of them can be read and no run writes it
abbrev pub words_at : List ℕ → List ℕ → Option (List ℕ)
words_at image [] = Some []
words_at image (a ∷ rest) = option_and_then (λ w. option_map (λ words. word_of w ∷ words) (words_at image rest)) (word image a)

-- the least value that has these words; where they aren't known, any word
abbrev pub covered : List ℕ → Option (List ℕ) → Value
covered t None = top
covered t (Some words) = cover t words

-- the value of the word at one of some addresses; none where there are none
abbrev pub loaded_from : List ℕ → List ℕ → List ℕ → Option Value
loaded_from t image [] = None
loaded_from t image (a ∷ rest) = Some (covered t (words_at image (a ∷ rest)))

-- the value of the word at an address: none where no address is a multiple of 4, since no run goes on there
unfoldable pub loaded : List ℕ → List ℕ → Value → Option Value
loaded t image (Words addresses) = loaded_from t image (filter is_aligned addresses)
loaded t image (Range lo hi) = Some top
loaded t image Ret = Some top

-- the least value that has all words which, read with sign, are between two numbers; any word where there are none
abbrev pub ranged : List ℕ → ℤ → ℤ → Value
ranged t lo hi = if int_le lo hi then span t (rank_of lo) (rank_of hi) else top

-- what a step writes, of the state before it; none where no run goes on
unfoldable pub source_value : List ℕ → List ℕ → State → Source → Option Value
source_value t image s Anything = Some top
source_value t image s (Exactly n) = Some (Words (word_of n ∷ []))
source_value t image s (Ranged lo hi) = Some (ranged t lo hi)
source_value t image s (Applied op left right) = Some (apply t op (operand s left) (operand s right))
source_value t image s (Loaded left right) = loaded t image (apply t Add (operand s left) (operand s right))
