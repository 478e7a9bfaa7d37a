-- How the numbers of code are gathered, one address after the other.
use Rattle.std.specs.Prelude.{◌≡◌, ℕ, ◌-◌, ◌^◌, ◌<◌, ℤ, true, List, Option, Some, None, Contains}
use Rattle.bt_image.specs.Image.{is_code}
use Rattle.sparc_decode.specs.declared.instruction.Instr.{Instr}
use Rattle.sparc_machine.specs.Straight.{code_instruction}
use Rattle.code_thresholds.specs.Number.{IsOfCode, numbers_of}

-- the numbers of the instruction at an address are in the list
abbrev pub IsNoted : List ℕ → List ℤ → ℕ → Type 0
IsNoted image list a = (i : Instr) → code_instruction image a ≡ Some i → (z : ℤ) → Contains (numbers_of i) z → Contains list z

-- those of all code addresses below the next one are, or of all where there is none
abbrev pub AreNotedTo : List ℕ → List ℤ → Option ℕ → Type 0
AreNotedTo image list None = (a : ℕ) → is_code image a ≡ true → IsNoted image list a
AreNotedTo image list (Some x) = (is_code image x ≡ true) × ((a : ℕ) → a < x → is_code image a ≡ true → IsNoted image list a)

-- the list has numbers of code, and those up to the next address
pub record AreGathered (image : List ℕ) (list : List ℤ) (next : Option ℕ) : Type 0 where
  pub each : (z : ℤ) → Contains list z → IsOfCode image z
  pub noted : AreNotedTo image list next

-- how many addresses are left
abbrev pub left : Option ℕ → ℕ
left None = 0
left (Some x) = 2 ^ 32 - x
