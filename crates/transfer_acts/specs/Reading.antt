-- What is read off an image and a binding.
use Rattle.std.specs.Prelude.{ℕ, ◌+◌, ◌-◌, ◌%◌, ◌^◌, Bool, false, List, Option, Some, is_some, pos}
use Rattle.std.specs.Ordering.{int_eq}
use Rattle.abs_state.specs.declared.key.Place.{Place}
use Rattle.assert_bind.specs.Binding.{stub}
use Rattle.assert_bind.specs.declared.body.BoundAssertion.{BoundAssertion}
use Rattle.sparc_decode.specs.declared.instruction.Instr.{Instr}
use Rattle.sparc_decode.specs.declared.instruction.Instr.TheVariants.{Jmpl}
use Rattle.sparc_decode.specs.declared.instruction.Second.TheVariants.{Imm}
use Rattle.sparc_machine.specs.Frame.{instruction_at}

-- whether a stub has this entry
abbrev pub is_stub : List BoundAssertion → ℕ → Bool
is_stub binding entry = is_some (stub binding entry)

-- whether a return is one that skips the word behind the call's delay instruction
abbrev pub is_skip : Option Instr → Bool
is_skip (Some (Jmpl rd rs1 (Imm n))) = int_eq n (pos 12)
is_skip _ = false

-- whether the delay instruction of a return at a place is that of one that skips a word
abbrev pub skips : List ℕ → Place → Bool
skips image p = is_skip (instruction_at image ((p.pc + 2 ^ 32 - 4) % 2 ^ 32))
