-- The numbers at which the ranges of a program's values may end: those that its instructions compare with or mask by, and
-- those of the assertions on registers.
use Rattle.std.specs.Prelude.{◌≡◌, ℕ, ℤ, pos, negsuc, ◌+ℤ◌, ◌-ℤ◌, Bool, List, [], ◌∷◌, ◌++◌, map, Some, Contains, int_le, if◌then◌else◌}
use Rattle.std.specs.List.{flat_map}
use Rattle.assert_bind.specs.declared.body.BoundAssertion.{BoundAssertion}
use Rattle.assert_bind.specs.declared.body.BoundBody.{BoundBody}
use Rattle.assert_bind.specs.declared.body.BoundBody.TheVariants as body
use Rattle.sparc_decode.specs.declared.instruction.AluOp.{AluOp}
use Rattle.sparc_decode.specs.declared.instruction.AluOp.TheVariants.{Add, And, Or, Xor, Sub, Andn, Orn, Xnor, Addx, Subx}
use Rattle.sparc_decode.specs.declared.instruction.Instr.{Instr}
use Rattle.sparc_decode.specs.declared.instruction.Instr.TheVariants.{Alu}
use Rattle.sparc_decode.specs.declared.instruction.Second.{Second}
use Rattle.sparc_decode.specs.declared.instruction.Second.TheVariants.{Reg, Imm}
use Rattle.sparc_machine.specs.Straight.{code_instruction}
use Rattle.value_lattice.specs.Order.{rank_of}
use Rattle.value_lattice.specs.Thresholds.{constants, widen}

-- of an operation with a number: a comparison has it and its neighbours, and an AND has it where its sign is clear
abbrev pub numbers_with : AluOp → Bool → ℤ → List ℤ
numbers_with Sub cc n = if cc then (n -ℤ pos 1) ∷ n ∷ (n +ℤ pos 1) ∷ [] else []
numbers_with And cc n = if int_le (pos 0) n then n ∷ [] else []
numbers_with Add cc n = []
numbers_with Or cc n = []
numbers_with Xor cc n = []
numbers_with Andn cc n = []
numbers_with Orn cc n = []
numbers_with Xnor cc n = []
numbers_with Addx cc n = []
numbers_with Subx cc n = []

abbrev pub numbers_in : AluOp → Bool → Second → List ℤ
numbers_in op cc (Reg r) = []
numbers_in op cc (Imm n) = numbers_with op cc n

-- those of an instruction
abbrev pub numbers_of : Instr → List ℤ
numbers_of (Alu op cc rd rs1 second) = numbers_in op cc second
numbers_of _ = []

-- the number below the least of a range, and that above the greatest, where they fit 32 bits
abbrev pub below : ℤ → List ℤ
below lo = if int_le lo (negsuc 2147483647) then [] else (lo -ℤ pos 1) ∷ []

abbrev pub above : ℤ → List ℤ
above hi = if int_le (pos 2147483647) hi then [] else (hi +ℤ pos 1) ∷ []

-- those of an assertion
abbrev pub numbers_said : BoundBody → List ℤ
numbers_said (body.At pc reg lo hi) = below lo ++ lo ∷ hi ∷ above hi
numbers_said _ = []

-- those of all assertions
abbrev pub numbers_asserted : List BoundAssertion → List ℤ
numbers_asserted list = flat_map (λ assertion. numbers_said assertion.body) list

-- a number of an instruction of code, reached or not
pub record IsOfCode (image : List ℕ) (z : ℤ) : Type 0 where
  pub place : ℕ
  pub instruction : Instr
  pub stands : code_instruction image place ≡ Some instruction
  pub number : Contains (numbers_of instruction) z

-- a list has the numbers of code and no others
pub record AreOfCode (image : List ℕ) (list : List ℤ) : Type 0 where
  pub each : (z : ℤ) → Contains list z → IsOfCode image z
  pub all : (z : ℤ) → IsOfCode image z → Contains list z

-- the thresholds of a program: those that always are, and the places of its numbers
pub record AreThresholdsOf (image : List ℕ) (binding : List BoundAssertion) (t : List ℕ) : Type 0 where
  pub list : List ℤ
  pub code : AreOfCode image list
  pub value : t ≡ widen (map rank_of constants) (list ++ numbers_asserted binding)
