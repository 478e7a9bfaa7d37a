-- Which registers a step depends on: none but those that its instruction reads.
use Rattle.std.specs.Prelude.{◌≡◌, ◌≢◌, ℕ, ◌⊎◌, Bool, List, [], ◌∷◌, slice_set}
use Rattle.sparc_decode.specs.Register.{registers_read}
use Rattle.sparc_decode.specs.declared.instruction.Instr.{Instr}
use Rattle.sparc_machine.specs.Effect.{Effect, Done, Trapped, effect_of}
use Rattle.sparc_machine.specs.Register.{physical_of}
use Rattle.sparc_machine.specs.declared.free.Free.{Free}
use Rattle.sparc_machine.specs.declared.machine.Machine.{Machine}
use Rattle.sparc_machine.specs.declared.trap.Trap.{Trap}

-- the machine with another content at a place of its registers
abbrev pub with_place : Machine → ℕ → ℕ → Machine
with_place m place value = record m { regs = slice_set m.regs place value }

-- a register of the current window doesn't stand at a place; r0 stands nowhere
abbrev pub IsElsewhere : Machine → ℕ → ℕ → Type 0
IsElsewhere m place r = r ≢ 0 → physical_of m.cwp r ≢ place

-- none of these registers stands at a place
abbrev pub AreElsewhere : Machine → ℕ → List ℕ → Type 0
AreElsewhere m place [] = Unit {0}
AreElsewhere m place (r ∷ rest) = IsElsewhere m place r × AreElsewhere m place rest

-- a machine is the other, but that it may have this content at a place
abbrev pub AgreesBut : ℕ → ℕ → Machine → Machine → Type 0
AgreesBut place value m other = (other ≡ with_place m place value) ⊎ (other ≡ m)

-- two effects are the same trap, or agree but at a place
pub data EffectsAgreeBut (place value : ℕ) : Effect → Effect → Type 0 where
  trapped : (trap : Trap) → EffectsAgreeBut place value (Trapped trap) (Trapped trap)
  done : {m other : Machine} (annulled : Bool) → AgreesBut place value m other → EffectsAgreeBut place value (Done m annulled) (Done other annulled)

-- what an instruction does depends on no place of the registers but those that it reads: with another content at one,
-- it does the same, and leaves that content or writes over it
abbrev pub DependsOnReadsAlone : Type 0
DependsOnReadsAlone =
    (image : List ℕ) (free : Free) (m : Machine) (i : Instr) (place value : ℕ) → AreElsewhere m place (registers_read i)
    → EffectsAgreeBut place value (effect_of image free m i) (effect_of image free (with_place m place value) i)
