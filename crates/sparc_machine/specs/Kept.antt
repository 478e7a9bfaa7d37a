-- What every step keeps.
use Rattle.std.specs.Prelude.{◌≡◌, ℕ, ◌%◌, ◌<◌, List, length}
use Rattle.sparc_machine.specs.Effect.{step_of}
use Rattle.sparc_machine.specs.Outcome.{Stepped}
use Rattle.sparc_machine.specs.declared.free.Free.{Free}
use Rattle.sparc_machine.specs.declared.machine.Machine.{Machine}

-- the program counters are multiples of 4
abbrev pub AreAligned : Machine → Type 0
AreAligned m = (m.pc % 4 ≡ 0) × (m.npc % 4 ≡ 0)

-- the registers stay as many, the window pointer below 8, the window mask as it is, and the program counters aligned
pub record IsKept (old new : Machine) : Type 0 where
  pub size : length new.regs ≡ length old.regs
  pub window : new.cwp < 8
  pub mask : new.wim ≡ old.wim
  pub aligned : AreAligned old → AreAligned new

-- each step keeps them
abbrev pub EachStepKeeps : Type 0
EachStepKeeps =
    (image cycles : List ℕ) (free : Free) (m next : Machine) → m.cwp < 8 → step_of image cycles free m ≡ Stepped next → IsKept m next
