-- Each instruction keeps the number of registers, the window below 8, the mask, the alignment, the cycles and what the
-- step before loaded.
use Rattle.std.proofs.Common.{◌≡◌, ℕ, ◌+◌, ◌*◌, ◌%◌, ◌^◌, ◌<◌, ◌⊎◌, inl, inr, Bool, true, false, List, length, Option}
use Rattle.std.proofs.Common.{Some, None, refl, sym, subst, ◌∙◌, arith, cond, eqb}
use Rattle.std.proofs.Math.ListN.{length-set}
use Rattle.std.specs.Prelude.{slice_set, if◌then◌else◌, ◌&&◌, ℤ}
use Rattle.std.proofs.lemmas.Bool.Decides.{eqb_tells}
use Rattle.cycle_table.specs.Class.{has_eight}
use Rattle.sparc_decode.specs.Instr.{instruction_of}
use Rattle.sparc_decode.specs.Register.{mask_of, registers_loaded}
use Rattle.sparc_decode.specs.declared.instruction.Instr.{Instr}
use Rattle.sparc_decode.specs.declared.instruction.Instr.TheVariants.{Call, Unimp, Sethi, Branch, FloatBranch, Alu}
use Rattle.sparc_decode.specs.declared.instruction.Instr.TheVariants.{Tagged, MulStep, Shift, ReadY, WriteY, FloatOp}
use Rattle.sparc_decode.specs.declared.instruction.Instr.TheVariants.{FloatCmp, Jmpl, Flush, Save, Restore, Ticc, Load}
use Rattle.sparc_decode.specs.declared.instruction.Instr.TheVariants.{Store, Atomic, FloatMem}
use Rattle.sparc_decode.specs.declared.instruction.Instr.TheVariants.{Unmodelled as UnmodelledWord, Unknown, Multiply}
use Rattle.sparc_decode.specs.declared.instruction.Instr.TheVariants.{Divide}
use Rattle.sparc_decode.specs.declared.instruction.LoadKind.{LoadKind}
use Rattle.sparc_decode.specs.declared.instruction.LoadKind.TheVariants.{Ld, Ldub, Lduh, Ldd, Ldsb, Ldsh}
use Rattle.sparc_machine.specs.Effect.{Effect, Done, Trapped, goes_on, flags_in, with_flags, is_in_order, in_order}
use Rattle.sparc_machine.specs.Effect.{target_of, address_in, branched, branch_effect, float_taken, jumped, is_invalid}
use Rattle.sparc_machine.specs.Effect.{turned, read_into, load_effect, is_odd_double_load, write_trap, store_effect}
use Rattle.sparc_machine.specs.Effect.{is_odd_double_store, atomic_effect, float_effect, unless_trapped, effect_of}
use Rattle.sparc_machine.specs.Effect.{is_in_version, modelled, step_cost, paid, stepped_from}
use Rattle.sparc_machine.specs.Memory.{load_size, store_size, atomic_size, float_size, is_float_store}
use Rattle.sparc_machine.specs.Kept.{IsKept, EachStepKeeps}
use Rattle.sparc_machine.specs.Machine.{with_register, going_to, advanced, charged}
use Rattle.sparc_machine.specs.Register.{physical_of}
use Rattle.sparc_machine.specs.Outcome.{Outcome, Stepped}
use Rattle.sparc_machine.specs.declared.free.Free.{Free}
use Rattle.sparc_machine.specs.declared.machine.Machine.{Machine}
use Rattle.sparc_machine.specs.declared.trap.Trap.{Trap}
use Rattle.sparc_machine.specs.declared.trap.Trap.TheVariants.{Misaligned, Unmodelled, Overflow, Underflow}
use Rattle.sparc_decode.specs.declared.instruction.FloatKind.{FloatKind}
use Rattle.sparc_decode.specs.declared.instruction.StoreKind.{StoreKind}
use Rattle.word_ops.specs.Condition.{holds_of}
use Rattle.word_ops.specs.declared.arithmetic.Flags.{Flags}

-- what an instruction keeps: that, and the cycles and what was loaded, which the step changes behind it
pub record Keeps (old new : Machine) : Type 0 where
  pub kept : IsKept old new
  pub cycles : new.cycles ≡ old.cycles
  pub loaded : new.loaded ≡ old.loaded

-- what holds of an effect that isn't a trap
abbrev pub KeepsAfter : Machine → Effect → Type 0
KeepsAfter m (Done next annulled) = Keeps m next
KeepsAfter m (Trapped trap) = Unit {0}

-- the parts of a machine that no write of a register changes
record IsSame (old new : Machine) : Type 0 where
  pub size : length new.regs ≡ length old.regs
  pub window : new.cwp ≡ old.cwp
  pub mask : new.wim ≡ old.wim
  pub pc : new.pc ≡ old.pc
  pub npc : new.npc ≡ old.npc
  pub cycles : new.cycles ≡ old.cycles
  pub loaded : new.loaded ≡ old.loaded

same_written : (m : Machine) (r value : ℕ) → IsSame m (with_register m r value)
same_written m r value = elim (eqb r 0) as (λ b. IsSame m (cond b m (record m { regs = slice_set m.regs (physical_of m.cwp r) value }))) [
  | true ↦ record { size = refl; window = refl; mask = refl; pc = refl; npc = refl; cycles = refl; loaded = refl }
  | false ↦ record { size = length-set m.regs (physical_of m.cwp r) value; window = refl; mask = refl; pc = refl; npc = refl; cycles = refl; loaded = refl }
]

same_trans : (a b c : Machine) → IsSame a b → IsSame b c → IsSame a c
same_trans a b c h k =
    record {
      size = k.size ∙ h.size;
      window = k.window ∙ h.window;
      mask = k.mask ∙ h.mask;
      pc = k.pc ∙ h.pc;
      npc = k.npc ∙ h.npc;
      cycles = k.cycles ∙ h.cycles;
      loaded = k.loaded ∙ h.loaded;
    }

same_flags : (m : Machine) (f : Flags) → IsSame m (with_flags m f)
same_flags m f = record { size = refl; window = refl; mask = refl; pc = refl; npc = refl; cycles = refl; loaded = refl }

-- from such a machine it goes on, or to a target
keeps_going : (m s : Machine) (target : ℕ) → m.cwp < 8 → IsSame m s → (m.pc % 4 ≡ 0 → m.npc % 4 ≡ 0 → target % 4 ≡ 0) → Keeps m (going_to s target)
keeps_going m s target w h t = record {
  kept = record { size = h.size; window = omega (arith, h.window); mask = h.mask; aligned = λ a. (omega (arith, h.npc, a.1), t a.0 a.1) };
  cycles = h.cycles;
  loaded = h.loaded;
}

keeps_on : (m s : Machine) → m.cwp < 8 → IsSame m s → Keeps m (advanced s)
keeps_on m s w h = keeps_going m s _ w h (λ p n. omega (arith, h.npc))

-- whether a target is a multiple of 4
target_test : (target : ℕ) → ((eqb (target % 4) 0 ≡ true) × (target % 4 ≡ 0)) ⊎ (eqb (target % 4) 0 ≡ false)
target_test target = elim (eqb_tells (target % 4) 0) [ inl h ↦ inl h | inr h ↦ inr h.0 ]

keeps_if : (m : Machine) (b : Bool) (x y : Effect) → KeepsAfter m x → KeepsAfter m y → KeepsAfter m (cond b x y)
keeps_if m true x y h k = h
keeps_if m false x y h k = k

keeps_unless : (m : Machine) (trap : Option Trap) (x : Effect) → KeepsAfter m x → KeepsAfter m (unless_trapped trap x)
keeps_unless m None x h = h
keeps_unless m (Some trap) x h = tt

keeps_written : (m : Machine) (r value : ℕ) → m.cwp < 8 → KeepsAfter m (goes_on (with_register m r value))
keeps_written m r value w = keeps_on m _ w (same_written m r value)

keeps_flagged : (m : Machine) (f : Flags) (r value : ℕ) → m.cwp < 8 → KeepsAfter m (goes_on (with_register (with_flags m f) r value))
keeps_flagged m f r value w = keeps_on m _ w (same_trans m (with_flags m f) _ (same_flags m f) (same_written (with_flags m f) r value))

keeps_plain : (m : Machine) → m.cwp < 8 → KeepsAfter m (goes_on m)
keeps_plain m w = keeps_on m m w (record { size = refl; window = refl; mask = refl; pc = refl; npc = refl; cycles = refl; loaded = refl })

keeps_branched : (m : Machine) (annul always taken : Bool) (target : ℕ) → m.cwp < 8 → (m.pc % 4 ≡ 0 → target % 4 ≡ 0)
    → KeepsAfter m (branched m annul always taken target)
keeps_branched m annul always true target w t =
    keeps_if m (annul && always) (Done (record m { pc = target; npc = (target + 4) % 2 ^ 32 }) true) (Done (going_to m target) false)
    (record { kept = record { size = refl; window = w; mask = refl; aligned = λ a. (t a.0, (let h = t a.0 in omega arith)) }; cycles = refl; loaded = refl })
    (keeps_going m m target w (record { size = refl; window = refl; mask = refl; pc = refl; npc = refl; cycles = refl; loaded = refl }) (λ p n. t p))
keeps_branched m annul always false target w t =
    keeps_if m annul (Done (record m { pc = (m.pc + 8) % 2 ^ 32; npc = (m.pc + 12) % 2 ^ 32 }) true) (goes_on m)
    (record {
      kept = record { size = refl; window = w; mask = refl; aligned = λ a. ((let h = a.0 in omega arith), (let h = a.0 in omega arith)) };
      cycles = refl;
      loaded = refl;
    })
    (keeps_plain m w)

keeps_jumped : (m : Machine) (r target : ℕ) → m.cwp < 8 → KeepsAfter m (jumped m r target)
keeps_jumped m r target w =
    elim (target_test target) [
      | inl h ↦ subst (λ (b : Bool). KeepsAfter m (cond b (Done (going_to (with_register m r m.pc) target) false) (Trapped Misaligned))) (sym h.0)
          (keeps_going m _ target w (same_written m r m.pc) (λ p n. h.1))
      | inr h ↦ subst (λ (b : Bool). KeepsAfter m (cond b (Done (going_to (with_register m r m.pc) target) false) (Trapped Misaligned))) (sym h) tt
    ]

keeps_turned : (m : Machine) (window : ℕ) (trap : Trap) (r value : ℕ) → window < 8 → KeepsAfter m (turned m window trap r value)
keeps_turned m window trap r value w =
    let there : Machine = record m { cwp = window } in
    let h : Keeps there (advanced (with_register there r value)) = keeps_on there _ w (same_written there r value) in
    let whole : Keeps m (advanced (with_register there r value)) =
    record {
      kept = record { size = h.kept.size; window = h.kept.window; mask = h.kept.mask; aligned = h.kept.aligned };
      cycles = h.cycles;
      loaded = h.loaded;
    } in
    keeps_if m (is_invalid m.wim window) (Trapped trap) (goes_on (with_register there r value)) tt whole

keeps_loaded : (image : List ℕ) (free : Free) (m : Machine) (kind : LoadKind) (r address : ℕ) → m.cwp < 8 → KeepsAfter m (read_into image free m kind r address)
keeps_loaded image free m Ld r address w = keeps_written m r _ w
keeps_loaded image free m Ldub r address w = keeps_written m r _ w
keeps_loaded image free m Lduh r address w = keeps_written m r _ w
keeps_loaded image free m Ldd r address w = keeps_on m _ w (same_trans m _ _ (same_written m r _) (same_written _ (r + 1) _))
keeps_loaded image free m Ldsb r address w = keeps_written m r _ w
keeps_loaded image free m Ldsh r address w = keeps_written m r _ w

keeps_in_order : (m : Machine) (x : Effect) → KeepsAfter m x → KeepsAfter m (in_order m x)
keeps_in_order m x h = keeps_if m (is_in_order m) x (Trapped Unmodelled) h tt

keeps_branch : (m : Machine) (annul : Bool) (condition : ℕ) (taken : Bool) (disp : ℤ) → m.cwp < 8 → KeepsAfter m (branch_effect m annul condition taken disp)
keeps_branch m annul condition taken disp w =
    keeps_in_order m (branched m annul (eqb condition 8) taken (target_of m.pc disp))
    (keeps_branched m annul (eqb condition 8) taken (target_of m.pc disp) w (λ p. omega arith))

keeps_load : (image : List ℕ) (free : Free) (m : Machine) (kind : LoadKind) (r address : ℕ) → m.cwp < 8 → KeepsAfter m (load_effect image free m kind r address)
keeps_load image free m kind r address w =
    keeps_if m (is_odd_double_load kind r) (Trapped Unmodelled)
    (if eqb (address % load_size kind) 0 then read_into image free m kind r address else Trapped Misaligned) tt
    (keeps_if m (eqb (address % load_size kind) 0) (read_into image free m kind r address) (Trapped Misaligned) (keeps_loaded image free m kind r address w) tt)

keeps_store : (image : List ℕ) (m : Machine) (kind : StoreKind) (r address : ℕ) → m.cwp < 8 → KeepsAfter m (store_effect image m kind r address)
keeps_store image m kind r address w =
    keeps_if m (is_odd_double_store kind r) (Trapped Unmodelled) (unless_trapped (write_trap image address (store_size kind)) (goes_on m)) tt
    (keeps_unless m (write_trap image address (store_size kind)) (goes_on m) (keeps_plain m w))

keeps_atomic : (image : List ℕ) (free : Free) (m : Machine) (swap : Bool) (r address : ℕ) → m.cwp < 8 → KeepsAfter m (atomic_effect image free m swap r address)
keeps_atomic image free m swap r address w =
    let value : ℕ = if swap then free.first else free.first % 2 ^ 8 in
    keeps_unless m (write_trap image address (atomic_size swap)) (goes_on (with_register m r value)) (keeps_written m r value w)

keeps_float : (image : List ℕ) (m : Machine) (kind : FloatKind) (address : ℕ) → m.cwp < 8 → KeepsAfter m (float_effect image m kind address)
keeps_float image m kind address w =
    keeps_if m (is_float_store kind) (unless_trapped (write_trap image address (float_size kind)) (goes_on m))
    (if eqb (address % float_size kind) 0 then goes_on m else Trapped Misaligned)
    (keeps_unless m (write_trap image address (float_size kind)) (goes_on m) (keeps_plain m w))
    (keeps_if m (eqb (address % float_size kind) 0) (goes_on m) (Trapped Misaligned) (keeps_plain m w) tt)

-- each instruction
pub keeps : (image : List ℕ) (free : Free) (m : Machine) (i : Instr) → m.cwp < 8 → KeepsAfter m (effect_of image free m i)
keeps image free m (Call disp) w =
    keeps_in_order m (Done (going_to (with_register m 15 m.pc) ((m.pc + disp * 4) % 2 ^ 32)) false)
    (keeps_going m (with_register m 15 m.pc) ((m.pc + disp * 4) % 2 ^ 32) w (same_written m 15 m.pc) (λ p n. omega arith))
keeps image free m (Unimp imm) w = tt
keeps image free m (Sethi rd imm) w = keeps_written m rd _ w
keeps image free m (Branch annul condition disp) w = keeps_branch m annul condition (holds_of condition (flags_in m)) disp w
keeps image free m (FloatBranch annul condition disp) w = keeps_branch m annul condition (float_taken condition free.taken) disp w
keeps image free m (Alu op true rd rs1 second) w = keeps_flagged m _ rd _ w
keeps image free m (Alu op false rd rs1 second) w = keeps_written m rd _ w
keeps image free m (Tagged op rd rs1 second) w = keeps_flagged m _ rd _ w
keeps image free m (MulStep rd rs1 second) w = keeps_flagged m _ rd _ w
keeps image free m (Shift op rd rs1 second) w = keeps_written m rd _ w
keeps image free m (ReadY rd) w = keeps_written m rd _ w
keeps image free m (WriteY rs1 second) w = keeps_plain m w
keeps image free m (FloatOp these) w = keeps_plain m w
keeps image free m (FloatCmp these) w = keeps_plain m w
keeps image free m (Jmpl rd rs1 second) w = keeps_in_order m (jumped m rd (address_in m rs1 second)) (keeps_jumped m rd (address_in m rs1 second) w)
keeps image free m (Flush rs1 second) w = keeps_plain m w
keeps image free m (Save rd rs1 second) w = keeps_turned m ((m.cwp + 7) % 8) Overflow rd (address_in m rs1 second) (omega arith)
keeps image free m (Restore rd rs1 second) w = keeps_turned m ((m.cwp + 1) % 8) Underflow rd (address_in m rs1 second) (omega arith)
keeps image free m (Ticc condition rs1 second) w = keeps_if m (eqb condition 0) (goes_on m) (Trapped Unmodelled) (keeps_plain m w) tt
keeps image free m (Load kind rd rs1 second) w = keeps_load image free m kind rd (address_in m rs1 second) w
keeps image free m (Store kind rd rs1 second) w = keeps_store image m kind rd (address_in m rs1 second) w
keeps image free m (Atomic swap rd rs1 second) w = keeps_atomic image free m swap rd (address_in m rs1 second) w
keeps image free m (FloatMem kind rd rs1 second) w = keeps_float image m kind (address_in m rs1 second) w
keeps image free m (UnmodelledWord these) w = tt
keeps image free m (Unknown these) w = tt
keeps image free m (Multiply true rd rs1 second) w = keeps_flagged m _ rd _ w
keeps image free m (Multiply false rd rs1 second) w = keeps_written m rd _ w
keeps image free m (Divide true rd rs1 second) w = keeps_flagged m _ rd _ w
keeps image free m (Divide false rd rs1 second) w = keeps_written m rd _ w

-- an instruction leaves the cycles
pub leaves_cycles : (image : List ℕ) (free : Free) (m next : Machine) (i : Instr) (annulled : Bool) → m.cwp < 8
    → effect_of image free m i ≡ Done next annulled → next.cycles ≡ m.cycles
leaves_cycles image free m next i annulled w e = (let h : Keeps m next = subst (KeepsAfter m) e (keeps image free m i w) in h).cycles

-- an instruction leaves what the step before loaded
pub leaves_loaded : (image : List ℕ) (free : Free) (m next : Machine) (i : Instr) (annulled : Bool) → m.cwp < 8
    → effect_of image free m i ≡ Done next annulled → next.loaded ≡ m.loaded
leaves_loaded image free m next i annulled w e = (let h : Keeps m next = subst (KeepsAfter m) e (keeps image free m i w) in h).loaded

-- a step keeps what its instruction keeps
paid_keeps : (cycles : List ℕ) (before : ℕ) (m next : Machine) (i : Instr) (effect : Effect) → KeepsAfter m effect
    → paid cycles before i effect ≡ Stepped next → IsKept m next
paid_keeps cycles before m next i (Done after annulled) h e =
    let is : charged after (step_cost cycles before i annulled) (mask_of (registers_loaded i)) ≡ next = cc in
    subst (IsKept m) is (record { size = h.kept.size; window = h.kept.window; mask = h.kept.mask; aligned = h.kept.aligned })
paid_keeps cycles before m next i (Trapped trap) h e = cc

-- and where it is modelled
modelled_keeps : (m next : Machine) (is : Bool) (outcome : Outcome) → (outcome ≡ Stepped next → IsKept m next) → modelled is outcome ≡ Stepped next
    → IsKept m next
modelled_keeps m next true outcome h e = h e
modelled_keeps m next false outcome h e = cc

step_keeps : (image cycles : List ℕ) (free : Free) (m next : Machine) (here : Option ℕ) → m.cwp < 8
    → stepped_from image cycles free m here ≡ Stepped next → IsKept m next
step_keeps image cycles free m next None w e = cc
step_keeps image cycles free m next (Some these) w e =
    modelled_keeps m next (is_in_version (has_eight cycles) (instruction_of these)) _
    (λ k. paid_keeps cycles m.loaded m next _ _ (keeps image free m (instruction_of these) w) k) e

-- each step keeps the number of registers, the window pointer below 8, the window mask, and the alignment of the program
-- counters
pub each_step_keeps : EachStepKeeps
each_step_keeps image cycles free m next w e = step_keeps image cycles free m next _ w e
