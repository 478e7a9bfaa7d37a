-- What each step writes, keeps and costs, from what its instruction does.
use Rattle.std.proofs.Common.{◌≡◌, ◌≢◌, ℕ, ◌+◌, ◌/◌, ◌%◌, ◌^◌, ◌<◌, ◌⊎◌, inl, inr, Bool, true, false, List, Option}
use Rattle.std.proofs.Common.{Some, None, refl, sym, ap, subst, ◌∙◌, arith, cond, eqb}
use Rattle.std.specs.Prelude.{slice_index, ℤ}
use Rattle.std.proofs.Math.Nat.{div_self}
use Rattle.std.proofs.lemmas.Bool.{eq-eqb, ne_eqb, or_left, or_right, or_from}
use Rattle.std.proofs.lemmas.Bool.Decides.{eqb_tells}
use Rattle.std.proofs.lemmas.Nat.{pow_pos}
use Rattle.std.specs.Option.{option_map}
use Rattle.cycle_table.specs.Class.{cost_at}
use Rattle.cycle_table.specs.Cycles.{pair_of}
use Rattle.sparc_decode.proofs.FieldRanges.{all_in_range}
use Rattle.sparc_decode.proofs.RegisterSets.{set_is_word}
use Rattle.sparc_decode.specs.Instr.{instruction_of}
use Rattle.sparc_decode.specs.Register.{registers_written, registers_loaded, mask_of}
use Rattle.sparc_decode.specs.declared.cost_class.CostClass.TheVariants.{Annulled}
use Rattle.sparc_decode.specs.declared.instruction.Instr.{Instr}
use Rattle.sparc_decode.specs.declared.instruction.Instr.TheVariants.{Call, Unimp, Sethi, Branch, FloatBranch, Alu}
use Rattle.sparc_decode.specs.declared.instruction.Instr.TheVariants.{Tagged, MulStep, Shift, ReadY, WriteY, FloatOp}
use Rattle.sparc_decode.specs.declared.instruction.Instr.TheVariants.{FloatCmp, Jmpl, Flush, Save, Restore, Ticc, Load}
use Rattle.sparc_decode.specs.declared.instruction.Instr.TheVariants.{Store, Atomic, FloatMem}
use Rattle.sparc_decode.specs.declared.instruction.Instr.TheVariants.{Unmodelled as UnmodelledWord, Unknown, Multiply}
use Rattle.sparc_decode.specs.declared.instruction.Instr.TheVariants.{Divide}
use Rattle.sparc_decode.specs.declared.instruction.LoadKind.{LoadKind}
use Rattle.sparc_decode.specs.declared.instruction.LoadKind.TheVariants.{Ld, Ldub, Lduh, Ldd, Ldsb, Ldsh}
use Rattle.sparc_machine.proofs.StraightRuns.{pair_most}
use Rattle.sparc_machine.specs.Effect.{Effect, Done, Trapped, goes_on, flags_in, effect_of, step_cost, is_in_order}
use Rattle.sparc_machine.specs.Effect.{target_of, address_in, branched, branch_effect, float_taken, is_invalid, turned}
use Rattle.sparc_machine.specs.Effect.{read_into, is_odd_double_load, write_trap, is_odd_double_store, unless_trapped}
use Rattle.sparc_machine.specs.Machine.{IsMachine, with_register, going_to, charged}
use Rattle.sparc_machine.specs.Memory.{load_size, store_size, atomic_size, float_size, is_float_store}
use Rattle.sparc_machine.specs.Straight.{code_instruction}
use Rattle.sparc_machine.specs.declared.free.Free.{Free}
use Rattle.sparc_machine.specs.declared.machine.Machine.{Machine}
use Rattle.sparc_machine.specs.declared.trap.Trap.{Trap}
use Rattle.sparc_machine.specs.declared.trap.Trap.TheVariants.{Unmodelled, Overflow, Underflow}
use Rattle.sparc_runs.proofs.Acting.{Acts, ActsAfter, acts, elsewhere_by, window_behind}
use Rattle.sparc_runs.proofs.Stepping.{IsStep, parts, same_instruction}
use Rattle.sparc_runs.specs.Cost.{StepsLoad, AllAreOwedMost, StepsCost, own_cost, annulled_cost, annuls, branch_annuls, pair_cost}
use Rattle.sparc_runs.specs.Sound.{AreBytes, StepsKeepMachines}
use Rattle.sparc_runs.specs.Window.{IsInUse, MovesLevel, WindowsStayInUse, LevelsMove}
use Rattle.sparc_runs.specs.Written.{WritesOnly, StepsWriteOnly}
use Rattle.word_ops.specs.Condition.{holds_of}

module _ (image cycles : List ℕ) (m next : Machine) (s : IsStep image cycles m next) where
  -- the instruction of a step
  abbrev pub the_instruction : Instr
  the_instruction = instruction_of s.this

  -- what it does
  pub acted : Acts image s.free m (registers_written the_instruction) (window_behind the_instruction m.cwp) s.after
  acted =
      subst (ActsAfter image s.free m (registers_written the_instruction) (window_behind the_instruction m.cwp)) s.does
      (acts image s.free m the_instruction (all_in_range s.this))

  -- the window is that which the instruction leaves
  pub same_window : next.cwp ≡ s.after.cwp
  same_window = ap (λ (x : Machine). x.cwp) s.is

  -- and that is known by the instruction
  pub window_is : next.cwp ≡ window_behind the_instruction m.cwp
  window_is = same_window ∙ acted.at

  -- the mask stays
  pub same_mask : next.wim ≡ m.wim
  same_mask = ap (λ (x : Machine). x.wim) s.is ∙ acted.mask

  -- only registers that the instruction writes are written
  pub only_written : WritesOnly (registers_written the_instruction) m next
  only_written place e =
      ap (λ (x : Machine). slice_index x.regs place) s.is
      ∙ acted.only place (elsewhere_by next s.after place same_window (registers_written the_instruction) e)

  -- a machine is left
  pub is_machine : AreBytes image → IsMachine m → IsMachine next
  is_machine bytes machine =
      let k = acted.machine (record { bytes = bytes; within = s.within; machine = machine }) in
      let whole : IsMachine (charged s.after (step_cost cycles m.loaded the_instruction s.annulled) (mask_of (registers_loaded the_instruction))) =
      record {
        registers = k.registers;
        words = k.words;
        pc = k.pc;
        npc = k.npc;
        window = k.window;
        mask = k.mask;
        loaded = set_is_word
            (registers_loaded the_instruction);
      } in
      subst IsMachine (sym s.is) whole

-- a step writes no other registers
pub writes_only : StepsWriteOnly
writes_only image cycles m next i step is =
    let s = parts image cycles m next step in
    subst (λ (x : Instr). WritesOnly (registers_written x) m next) (same_instruction image m.pc s.this i s.code is) (only_written image cycles m next s)

-- a step keeps a machine
pub keeps_machines : StepsKeepMachines
keeps_machines image cycles m next bytes machine step = is_machine image cycles m next (parts image cycles m next step) bytes machine

-- the window that is marked is invalid
marked : (w : ℕ) → is_invalid (2 ^ w) w ≡ true
marked w =
    let one : 2 ^ w / 2 ^ w ≡ 1 = div_self (pow_pos w) in
    eq-eqb (2 ^ w / 2 ^ w % 2) 1 (ap (λ (q : ℕ). q % 2) one)

turned_in_use : (m after : Machine) (w : ℕ) (trap : Trap) (r v invalid : ℕ) (annulled : Bool) → w < 8 → m.wim ≡ 2 ^ invalid
    → turned m w trap r v ≡ Done after annulled → IsInUse invalid w
turned_in_use m after w trap r v invalid annulled below mask does = go (is_invalid m.wim w) refl does where
  go : (b : Bool) → is_invalid m.wim w ≡ b → cond b (Trapped trap) (goes_on (with_register (record m { cwp = w }) r v)) ≡ Done after annulled
      → IsInUse invalid w
  go true e h = cc
  go false e h = record {
    window = below;
    other = λ same.
        (let here : is_invalid m.wim w ≡ true = ap (λ (x : ℕ). is_invalid x w) mask ∙ ap (λ (x : ℕ). is_invalid (2 ^ x) w) (sym same) ∙ marked w in cc);
  }

-- the window behind an instruction that is done is in use
in_use_behind : (image : List ℕ) (free : Free) (m after : Machine) (invalid : ℕ) (annulled : Bool) (i : Instr) → m.wim ≡ 2 ^ invalid → IsInUse invalid m.cwp
    → effect_of image free m i ≡ Done after annulled → IsInUse invalid (window_behind i m.cwp)
in_use_behind image free m after invalid annulled (Save rd rs1 second) mask used does =
    turned_in_use m after ((m.cwp + 7) % 8) Overflow rd (address_in m rs1 second) invalid annulled (omega arith) mask does
in_use_behind image free m after invalid annulled (Restore rd rs1 second) mask used does =
    turned_in_use m after ((m.cwp + 1) % 8) Underflow rd (address_in m rs1 second) invalid annulled (omega arith) mask does
in_use_behind image free m after invalid annulled _ mask used does = used

-- a step keeps the window in use
pub stay_in_use : WindowsStayInUse
stay_in_use image cycles m next invalid masked step =
    let s = parts image cycles m next step in
    let used = in_use_behind image s.free m s.after invalid s.annulled (instruction_of s.this) masked.one masked.used s.does in
    record {
      below = masked.below;
      one = same_mask image cycles m next s ∙ masked.one;
      used = subst (IsInUse invalid) (sym (window_is image cycles m next s)) used;
    }

moves : (invalid : ℕ) (i : Instr) (m next : Machine) → invalid < 8 → IsInUse invalid m.cwp → IsInUse invalid (window_behind i m.cwp)
    → next.cwp ≡ window_behind i m.cwp → MovesLevel invalid i m next
moves invalid (Save rd rs1 second) m next below used behind is =
    let a = used.window in let b = used.other in let c = behind.other in omega arith
moves invalid (Restore rd rs1 second) m next below used behind is =
    let a = used.window in let b = used.other in let c = behind.other in omega arith
moves invalid _ m next below used behind is = is

-- levels move with SAVE and RESTORE alone
pub levels_move : LevelsMove
levels_move image cycles m next invalid i masked step is =
    let s = parts image cycles m next step in
    let used = in_use_behind image s.free m s.after invalid s.annulled (instruction_of s.this) masked.one masked.used s.does in
    subst (λ (x : Instr). MovesLevel invalid x m next) (same_instruction image m.pc s.this i s.code is)
    (moves invalid (instruction_of s.this) m next masked.below masked.used used (window_is image cycles m next s))

-- whether an instruction passes its delay instruction over is read off where it goes on to
module _ (m : Machine) where
  -- an effect passes over as the instruction says
  abbrev AnnulsAfter : Instr → Effect → Type 0
  AnnulsAfter i (Done next annulled) = annulled ≡ annuls (Some i) m.pc next.pc
  AnnulsAfter i (Trapped trap) = Unit {0}

  abbrev QuietAfter : Effect → Type 0
  QuietAfter (Done next annulled) = annulled ≡ false
  QuietAfter (Trapped trap) = Unit {0}

  either : (b : Bool) (x y : Effect) → QuietAfter x → QuietAfter y → QuietAfter (cond b x y)
  either true x y h k = h
  either false x y h k = k

  unless : (trap : Option Trap) (x : Effect) → QuietAfter x → QuietAfter (unless_trapped trap x)
  unless None x h = h
  unless (Some trap) x h = tt

  turned_quiet : (w : ℕ) (trap : Trap) (r v : ℕ) → QuietAfter (turned m w trap r v)
  turned_quiet w trap r v = either (is_invalid m.wim w) (Trapped trap) (goes_on (with_register (record m { cwp = w }) r v)) tt refl

  read_quiet : (image : List ℕ) (free : Free) (kind : LoadKind) (r a : ℕ) → QuietAfter (read_into image free m kind r a)
  read_quiet image free Ld r a = refl
  read_quiet image free Ldub r a = refl
  read_quiet image free Lduh r a = refl
  read_quiet image free Ldd r a = refl
  read_quiet image free Ldsb r a = refl
  read_quiet image free Ldsh r a = refl

  -- a branch at its place goes on to the next instruction, or to the one behind that
  branch_is : (annul always taken : Bool) (condition target : ℕ) → eqb condition 8 ≡ always → m.npc ≡ (m.pc + 4) % 2 ^ 32 → (after : Machine) (annulled : Bool)
      → branched m annul always taken target ≡ Done after annulled → annulled ≡ branch_annuls annul condition m.pc after.pc
  branch_is true true true condition target e order after annulled does =
      let a : annulled ≡ true = cc in a ∙ sym (or_left (eqb condition 8) (eqb after.pc ((m.pc + 8) % 2 ^ 32)) e)
  branch_is true false true condition target e order after annulled does =
      let a : annulled ≡ false = cc in
      let at : after ≡ going_to m target = cc in
      let pc : after.pc ≡ m.npc = ap (λ (x : Machine). x.pc) at in
      a ∙ sym (or_from (eqb condition 8) (eqb after.pc ((m.pc + 8) % 2 ^ 32)) e (ne_eqb after.pc ((m.pc + 8) % 2 ^ 32) (λ same. omega arith)))
  branch_is false always true condition target e order after annulled does = cc
  branch_is true always false condition target e order after annulled does =
      let a : annulled ≡ true = cc in
      let at : after ≡ record m { pc = (m.pc + 8) % 2 ^ 32; npc = (m.pc + 12) % 2 ^ 32 } = cc in
      let pc : after.pc ≡ (m.pc + 8) % 2 ^ 32 = ap (λ (x : Machine). x.pc) at in
      a ∙ sym (or_right (eqb condition 8) (eqb after.pc ((m.pc + 8) % 2 ^ 32)) (eq-eqb after.pc ((m.pc + 8) % 2 ^ 32) pc))
  branch_is false always false condition target e order after annulled does = cc

  branch_done : (annul taken : Bool) (condition : ℕ) (disp : ℤ) (after : Machine) (annulled : Bool)
      → branch_effect m annul condition taken disp ≡ Done after annulled → annulled ≡ branch_annuls annul condition m.pc after.pc
  branch_done annul taken condition disp after annulled does = go (eqb_tells m.npc ((m.pc + 4) % 2 ^ 32)) where
    go : ((eqb m.npc ((m.pc + 4) % 2 ^ 32) ≡ true) × (m.npc ≡ (m.pc + 4) % 2 ^ 32))
        ⊎ ((eqb m.npc ((m.pc + 4) % 2 ^ 32) ≡ false) × (m.npc ≢ (m.pc + 4) % 2 ^ 32))
        → annulled ≡ branch_annuls annul condition m.pc after.pc
    go (inl h) =
        let there : branched m annul (eqb condition 8) taken (target_of m.pc disp) ≡ Done after annulled =
        subst (λ (b : Bool). cond b (branched m annul (eqb condition 8) taken (target_of m.pc disp)) (Trapped Unmodelled) ≡ Done after annulled) h.0 does in
        branch_is annul (eqb condition 8) taken condition (target_of m.pc disp) refl h.1 after annulled there
    go (inr h) =
        let there : Trapped Unmodelled ≡ Done after annulled =
        subst (λ (b : Bool). cond b (branched m annul (eqb condition 8) taken (target_of m.pc disp)) (Trapped Unmodelled) ≡ Done after annulled) h.0 does in
        cc

  -- an effect that never passes anything over
  settled : (x : Effect) (after : Machine) (annulled : Bool) → QuietAfter x → x ≡ Done after annulled → annulled ≡ false
  settled (Done next annuls) after annulled h e = (let same : annuls ≡ annulled = cc in sym same ∙ h)
  settled (Trapped trap) after annulled h e = cc

  -- each instruction passes over as it says
  pub annulled_is : (image : List ℕ) (free : Free) (i : Instr) (after : Machine) (annulled : Bool) → effect_of image free m i ≡ Done after annulled
      → annulled ≡ annuls (Some i) m.pc after.pc
  annulled_is image free (Call disp) after annulled does = settled _ after annulled (either (is_in_order m) _ _ refl tt) does
  annulled_is image free (Unimp imm) after annulled does = cc
  annulled_is image free (Sethi rd imm) after annulled does = settled _ after annulled refl does
  annulled_is image free (Branch annul condition disp) after annulled does =
      branch_done annul (holds_of condition (flags_in m)) condition disp after annulled does
  annulled_is image free (FloatBranch annul condition disp) after annulled does =
      branch_done annul (float_taken condition free.taken) condition disp after annulled does
  annulled_is image free (Alu op true rd rs1 second) after annulled does = settled _ after annulled refl does
  annulled_is image free (Alu op false rd rs1 second) after annulled does = settled _ after annulled refl does
  annulled_is image free (Tagged op rd rs1 second) after annulled does = settled _ after annulled refl does
  annulled_is image free (MulStep rd rs1 second) after annulled does = settled _ after annulled refl does
  annulled_is image free (Shift op rd rs1 second) after annulled does = settled _ after annulled refl does
  annulled_is image free (ReadY rd) after annulled does = settled _ after annulled refl does
  annulled_is image free (WriteY rs1 second) after annulled does = settled _ after annulled refl does
  annulled_is image free (FloatOp these) after annulled does = settled _ after annulled refl does
  annulled_is image free (FloatCmp these) after annulled does = settled _ after annulled refl does
  annulled_is image free (Jmpl rd rs1 second) after annulled does =
      settled _ after annulled (either (is_in_order m) _ _ (either (eqb (address_in m rs1 second % 4) 0) _ _ refl tt) tt) does
  annulled_is image free (Flush rs1 second) after annulled does = settled _ after annulled refl does
  annulled_is image free (Save rd rs1 second) after annulled does =
      settled _ after annulled (turned_quiet ((m.cwp + 7) % 8) Overflow rd (address_in m rs1 second)) does
  annulled_is image free (Restore rd rs1 second) after annulled does =
      settled _ after annulled (turned_quiet ((m.cwp + 1) % 8) Underflow rd (address_in m rs1 second)) does
  annulled_is image free (Ticc condition rs1 second) after annulled does = settled _ after annulled (either (eqb condition 0) _ _ refl tt) does
  annulled_is image free (Load kind rd rs1 second) after annulled does =
      let a : ℕ = address_in m rs1 second in
      settled _ after annulled (either (is_odd_double_load kind rd) _ _ tt (either (eqb (a % load_size kind) 0) _ _ (read_quiet image free kind rd a) tt)) does
  annulled_is image free (Store kind rd rs1 second) after annulled does =
      settled _ after annulled (either (is_odd_double_store kind rd) _ _ tt (unless (write_trap image (address_in m rs1 second) (store_size kind)) _ refl)) does
  annulled_is image free (Atomic swap rd rs1 second) after annulled does =
      settled _ after annulled (unless (write_trap image (address_in m rs1 second) (atomic_size swap)) _ refl) does
  annulled_is image free (FloatMem kind rd rs1 second) after annulled does =
      settled _ after annulled
      (either (is_float_store kind) _ _ (unless (write_trap image (address_in m rs1 second) (float_size kind)) _ refl)
      (either (eqb (address_in m rs1 second % float_size kind) 0) _ _ refl tt)) does
  annulled_is image free (UnmodelledWord these) after annulled does = cc
  annulled_is image free (Unknown these) after annulled does = cc
  annulled_is image free (Multiply cc' rd rs1 second) after annulled does = settled _ after annulled refl does
  annulled_is image free (Divide cc' rd rs1 second) after annulled does = settled _ after annulled refl does

-- what a step costs by its parts
cost_parts : (costs : List ℕ) (i : Instr) (annulled : Bool) (spent loaded from to : ℕ) → annulled ≡ annuls (Some i) from to
    → spent + step_cost costs loaded i annulled ≡ spent + pair_of costs loaded i + own_cost costs (Some i) + annulled_cost costs (Some i) from to
cost_parts costs i true spent loaded from to is =
    subst (λ (b : Bool). spent + step_cost costs loaded i true ≡ spent + pair_of costs loaded i + own_cost costs (Some i) + cond b
    (cost_at costs Annulled) 0) is (omega arith)
cost_parts costs i false spent loaded from to is =
    subst (λ (b : Bool). spent + step_cost costs loaded i false ≡ spent + pair_of costs loaded i + own_cost costs (Some i) + cond b
    (cost_at costs Annulled) 0) is (omega arith)

-- what each step costs
pub steps_cost : StepsCost
steps_cost image costs m next step =
    let s = parts image costs m next step in
    let i : Instr = instruction_of s.this in
    let here : code_instruction image m.pc ≡ Some i = ap (λ (w : Option ℕ). option_map instruction_of w) s.code in
    let passed : s.annulled ≡ annuls (Some i) m.pc s.after.pc = annulled_is m image s.free i s.after s.annulled s.does in
    let spent : next.cycles ≡ m.cycles + step_cost costs m.loaded i s.annulled =
    ap (λ (x : Machine). x.cycles) s.is ∙ ap (λ (n : ℕ). n + step_cost costs m.loaded i s.annulled) (acted image costs m next s).cycles in
    let pc : s.after.pc ≡ next.pc = sym (ap (λ (x : Machine). x.pc) s.is) in
    let whole : next.cycles ≡ m.cycles + pair_of costs m.loaded i + own_cost costs (Some i) + annulled_cost costs (Some i) m.pc s.after.pc =
    spent ∙ cost_parts costs i s.annulled m.cycles m.loaded m.pc s.after.pc passed in
    let there : next.cycles ≡ m.cycles + pair_of costs m.loaded i + own_cost costs (Some i) + annulled_cost costs (Some i) m.pc next.pc =
    whole ∙ ap (λ (p : ℕ). m.cycles + pair_of costs m.loaded i + own_cost costs (Some i) + annulled_cost costs (Some i) m.pc p) pc in
    record {
      cycles = subst (λ (o : Option Instr). next.cycles ≡ m.cycles + pair_cost costs m.loaded o + own_cost costs o
          + annulled_cost costs o m.pc next.pc) (sym here) there;
    }

-- what each step leaves as loaded
pub steps_load : StepsLoad
steps_load image cycles m next i step is =
    let s = parts image cycles m next step in
    ap (λ (x : Machine). x.loaded) s.is ∙ ap (λ (x : Instr). mask_of (registers_loaded x)) (same_instruction image m.pc s.this i s.code is)

-- all registers are owed the most
pub owed_most : AllAreOwedMost
owed_most costs loaded None = omega arith
owed_most costs loaded (Some i) = pair_most costs loaded i
