-- A step taken apart: the word at the program counter, and what its instruction does at its cost.
use Rattle.std.proofs.Common.{◌≡◌, ℕ, Bool, true, false, List, Option, Some, None, refl, ap}
use Rattle.std.specs.Option.{option_map}
use Rattle.cycle_table.specs.Class.{has_eight}
use Rattle.sparc_decode.specs.Instr.{instruction_of}
use Rattle.sparc_decode.specs.Register.{mask_of, registers_loaded}
use Rattle.sparc_decode.specs.declared.instruction.Instr.{Instr}
use Rattle.sparc_machine.specs.Effect.{Effect, Done, Trapped, effect_of, code_word, step_cost, paid, modelled, is_in_version, stepped_from}
use Rattle.sparc_machine.specs.Frame.{IsFree, StepsTo}
use Rattle.sparc_machine.specs.Machine.{charged}
use Rattle.sparc_machine.specs.Outcome.{Stepped}
use Rattle.sparc_machine.specs.Straight.{code_instruction}
use Rattle.sparc_machine.specs.declared.free.Free.{Free}
use Rattle.sparc_machine.specs.declared.machine.Machine.{Machine}

-- the parts of a step
pub record IsStep (image cycles : List ℕ) (m next : Machine) : Type 0 where
  pub free : Free
  pub within : IsFree free
  pub this : ℕ
  pub code : code_word image m.pc ≡ Some this
  pub after : Machine
  pub annulled : Bool
  pub does : effect_of image free m (instruction_of this) ≡ Done after annulled
  pub is : next ≡ charged after (step_cost cycles m.loaded (instruction_of this) annulled) (mask_of (registers_loaded (instruction_of this)))

-- each step has them
pub parts : (image cycles : List ℕ) (m next : Machine) → StepsTo image cycles m next → IsStep image cycles m next
parts image cycles m next s = by_word (code_word image m.pc) refl s.steps where
  by_effect : (this : ℕ) → code_word image m.pc ≡ Some this → (e : Effect) → effect_of image s.free m (instruction_of this) ≡ e
      → paid cycles m.loaded (instruction_of this) e ≡ Stepped next → IsStep image cycles m next
  by_effect this code (Done after annulled) does h =
      record { free = s.free; within = s.within; this = this; code = code; after = after; annulled = annulled; does = does; is = cc }
  by_effect this code (Trapped trap) does h = cc

  by_model : (this : ℕ) → code_word image m.pc ≡ Some this → (b : Bool)
      → modelled b (paid cycles m.loaded (instruction_of this) (effect_of image s.free m (instruction_of this))) ≡ Stepped next → IsStep image cycles m next
  by_model this code true h = by_effect this code (effect_of image s.free m (instruction_of this)) refl h
  by_model this code false h = cc

  by_word : (w : Option ℕ) → code_word image m.pc ≡ w → stepped_from image cycles s.free m w ≡ Stepped next → IsStep image cycles m next
  by_word None code h = cc
  by_word (Some this) code h = by_model this code (is_in_version (has_eight cycles) (instruction_of this)) h

-- the instruction that is executed is the one at the program counter
pub same_instruction : (image : List ℕ) (a this : ℕ) (i : Instr) → code_word image a ≡ Some this → code_instruction image a ≡ Some i → instruction_of this ≡ i
same_instruction image a this i code is =
    let here : code_instruction image a ≡ Some (instruction_of this) = ap (λ (w : Option ℕ). option_map instruction_of w) code in cc
