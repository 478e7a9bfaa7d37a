-- What the parts of a step of the machine do to cells and condition codes.
use Rattle.std.proofs.Common.{◌≡◌, ◌≢◌, ℕ, ◌^◌, ◌<◌, ◌⊎◌, inl, inr, Bool, true, false, List, Option, refl, sym, ap, subst, ◌∙◌, arith, cond, eqb}
use Rattle.std.specs.Prelude.{◌==◌, slice_index, slice_set, if◌then◌else◌}
use Rattle.abs_state.specs.declared.flags.Flags.{Flags as Known}
use Rattle.call_effects.proofs.CellLemmas.{cells_tell_registers_apart}
use Rattle.call_effects.specs.Cell.{cell_of}
use Rattle.cell_places.proofs.PlaceLemmas.{registers_hold_contents, with_content-same, with_content-other, with_content-zero, cell_zero}
use Rattle.cell_places.specs.Place.{place_of, content_of, with_content, IsAtDepth}
use Rattle.sparc_decode.specs.Instr.{IsOperand}
use Rattle.sparc_decode.specs.declared.instruction.Second.{Second}
use Rattle.sparc_decode.specs.declared.instruction.Second.TheVariants.{Reg, Imm}
use Rattle.sparc_machine.specs.Effect.{flags_in}
use Rattle.sparc_machine.specs.Machine.{IsMachine, register_of, with_register, operand_of, charged}
use Rattle.sparc_machine.specs.Register.{physical_of}
use Rattle.sparc_machine.specs.declared.machine.Machine.{Machine}
use Rattle.sparc_runs.proofs.Bounds.{operand_word as second_word}
use Rattle.step_covers.specs.Follows.{IsOperandIn, Gives, FlagsFollow, FollowsIn}
use Rattle.transfer_acts.specs.Operand.{register, operand}
use Rattle.transfer_acts.specs.Step.{nothing, sets}
use Rattle.transfer_rules.specs.declared.step.Source.{Source}
use Rattle.transfer_rules.specs.declared.step.Step.{Step}
use Rattle.word_ops.specs.declared.arithmetic.Flags.{Flags}

-- a write of a register changes neither the window nor the condition codes
pub window_kept : (m : Machine) (rd value : ℕ) → (with_register m rd value).cwp ≡ m.cwp
window_kept m rd value = by (eqb rd 0) where
  by : (b : Bool) → (cond b m (record m { regs = slice_set m.regs (physical_of m.cwp rd) value })).cwp ≡ m.cwp
  by true = refl
  by false = refl

-- a write to a register leaves the condition codes
pub flags_kept : (m : Machine) (rd value : ℕ) → flags_in (with_register m rd value) ≡ flags_in m
flags_kept m rd value = by (eqb rd 0) where
  by : (b : Bool) → flags_in (cond b m (record m { regs = slice_set m.regs (physical_of m.cwp rd) value })) ≡ flags_in m
  by true = refl
  by false = refl

-- what the cells of machines with the same registers hold
pub same_contents : (a b : Machine) (cwp c : ℕ) → a.regs ≡ b.regs → content_of a cwp c ≡ content_of b cwp c
same_contents a b cwp c same = ap (λ (rs : List ℕ). if c == 0 then 0 else slice_index rs (place_of cwp c)) same

module _ (cwp depth : ℕ) (m : Machine) (at : IsAtDepth cwp depth m) (machine : IsMachine m) where
  -- operands as cells
  pub register_is : (r : ℕ) → r < 32 → IsOperandIn (content_of m cwp) (register depth r) (register_of m r)
  register_is r low = ((cells_tell_registers_apart.within) depth r low, (registers_hold_contents.read) cwp depth m r at low)

  -- a second operand comes to what the cells hold
  pub operand_is : (second : Second) → IsOperand second → IsOperandIn (content_of m cwp) (operand depth second) (operand_of m second)
  operand_is (Reg r) low = register_is r low
  operand_is (Imm n) range = let w : operand_of m (Imm n) < 2 ^ 32 = second_word m (Imm n) machine range in omega arith

-- a register of a window is written, from the same registers in that window
module _ (cwp depth : ℕ) (m base : Machine) (same : base.regs ≡ m.regs) (at : IsAtDepth cwp depth base) (rd value : ℕ) (low : rd < 32) where
  -- what cells then hold
  pub new_contents : (c : ℕ) → c < 48
      → content_of (with_register base rd value) cwp c ≡ with_content (content_of m cwp) (cell_of depth rd) value c
  new_contents c near =
      (registers_hold_contents.written) cwp depth base rd value c at low near
      ∙ ap (λ (rs : List ℕ). with_content (λ (k : ℕ). if k == 0 then 0 else slice_index rs (place_of cwp k)) (cell_of depth rd) value c) same

  -- the cell of the written register
  pub new_there : rd ≢ 0 → content_of (with_register base rd value) cwp (cell_of depth rd) ≡ value
  new_there some =
      new_contents (cell_of depth rd) ((cells_tell_registers_apart.within) depth rd low)
      ∙ with_content-same (content_of m cwp) (cell_of depth rd) value (λ none. some ((cells_tell_registers_apart.zero) depth rd none))

  -- and that of another
  pub new_elsewhere : (r : ℕ) → r < 32 → (r ≢ rd) ⊎ (rd ≡ 0)
      → content_of (with_register base rd value) cwp (cell_of depth r) ≡ content_of m cwp (cell_of depth r)
  new_elsewhere r near (inl other) =
      new_contents (cell_of depth r) ((cells_tell_registers_apart.within) depth r near)
      ∙ with_content-other (content_of m cwp) (cell_of depth rd) value (cell_of depth r)
      (λ one. other ((cells_tell_registers_apart.differ) depth r rd near low one))
  new_elsewhere r near (inr none) =
      new_contents (cell_of depth r) ((cells_tell_registers_apart.within) depth r near)
      ∙ with_content-zero (content_of m cwp) (cell_of depth rd) value (cell_of depth r) (cell_zero depth rd none)

  -- the machine follows by the step that sets the register
  pub sets_follow : (image : List ℕ) (source : Source) (known : Option Known) → Gives image (content_of m cwp) source value
      → FlagsFollow known (content_of (with_register base rd value) cwp) (flags_in m) (flags_in base)
      → FollowsIn image (sets depth rd source known) cwp m (with_register base rd value)
  sets_follow image source known gives flags =
      record {
        window = window_kept base rd value ∙ at.is;
        follows =
            record {
              first = value;
              second = 0;
              gives_first = gives;
              gives_second = tt;
              contents = new_contents;
              flags = subst (λ (g : Flags). FlagsFollow known (content_of (with_register base rd value) cwp) (flags_in m) g)
                  (sym (flags_kept base rd value)) flags;
            };
      }

-- nothing is written
pub nothing_follows : (image : List ℕ) (cwp depth : ℕ) (m : Machine) → IsAtDepth cwp depth m → FollowsIn image (nothing depth) cwp m m
nothing_follows image cwp depth m at =
    record {
      window = at.is;
      follows = record { first = 0; second = 0; gives_first = tt; gives_second = tt; contents = λ c low. refl; flags = refl };
    }

-- going on changes no cell and no condition code, nor does what is paid
pub going_follows : (image : List ℕ) (step : Step) (cwp : ℕ) (m next : Machine) (pc npc : ℕ) → FollowsIn image step cwp m next
    → FollowsIn image step cwp m (record next { pc = pc; npc = npc })
going_follows image step cwp m next pc npc h = record { window = h.window; follows = h.follows }

-- what is charged changes nothing that follows
pub charged_follows : (image : List ℕ) (step : Step) (cwp : ℕ) (m next : Machine) (cost these : ℕ) → FollowsIn image step cwp m next
    → FollowsIn image step cwp m (charged next cost these)
charged_follows image step cwp m next cost these h = record { window = h.window; follows = h.follows }
