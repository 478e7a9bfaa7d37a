-- The fields of an instruction word, from the lowest bit on and so many bits wide.
use Rattle.std.specs.Prelude.{◌==◌, ℕ, ◌-◌, ◌/◌, ◌%◌, ◌^◌, ℤ, pos, ◌-ℤ◌, neg_ℤ, ◌≤ℤ◌, ◌<ℤ◌, nat_lt, if◌then◌else◌}
use Rattle.sparc_decode.specs.declared.instruction.Second.{Second}
use Rattle.sparc_decode.specs.declared.instruction.Second.TheVariants.{Reg, Imm}

-- the bits from one on, so many of them
abbrev pub field : ℕ → ℕ → ℕ → ℕ
field word low width = word / 2 ^ low % 2 ^ width

-- the lowest bits, so many of them, as a number in two's complement
abbrev pub signed_field : ℕ → ℕ → ℤ
signed_field word width =
    if nat_lt (field word 0 width) (2 ^ (width - 1)) then pos (field word 0 width) else pos (field word 0 width) -ℤ pos (2 ^ width)

-- a number that so many bits hold in two's complement
abbrev pub IsSigned : ℤ → ℕ → Type 0
IsSigned n width = (neg_ℤ (pos (2 ^ (width - 1))) ≤ℤ n) × (n <ℤ pos (2 ^ (width - 1)))

-- the second operand: a register where bit 13 is 0, else a number of 13 bits with its sign
abbrev pub second_of : ℕ → Second
second_of word = if field word 13 1 == 0 then Reg (field word 0 5) else Imm (signed_field word 13)
