-- What a step says of the transfer that is due behind it, and what the delay instruction of a call keeps.
use Rattle.std.proofs.Common.{◌≡◌, ◌≢◌, ℕ, suc, ◌+◌, ◌-◌, ◌*◌, ◌%◌, ◌^◌, ◌<◌, ◌≤◌, ◌⊎◌, inl, inr, Bool, true, false}
use Rattle.std.proofs.Common.{List, [], ◌∷◌, Option, Some, None, Contains, refl, sym, ap, subst, ◌∙◌, arith, cond, eqb}
use Rattle.std.specs.Prelude.{slice_index, slice_set, ◌&&◌, bit_and}
use Rattle.std.specs.Option.{option_map}
use Rattle.std.proofs.lemmas.Bool.{eqb-true, cases_lt, lt-ltb, le-ltb}
use Rattle.std.proofs.lemmas.Bool.Decides.{eqb_tells}
use Rattle.std.proofs.lemmas.List.{get_or-set_same}
use Rattle.bt_image.specs.Image.{word, is_code}
use Rattle.sparc_decode.proofs.FieldRanges.{all_in_range}
use Rattle.sparc_decode.proofs.RegisterSets.{has_exactly}
use Rattle.sparc_decode.specs.Instr.{instruction_of, InRange}
use Rattle.sparc_decode.specs.Register.{mask_of, registers_written}
use Rattle.sparc_decode.specs.declared.instruction.Instr.{Instr}
use Rattle.sparc_decode.specs.declared.instruction.Instr.TheVariants.{Call, Sethi, Alu, Tagged, MulStep, Shift, ReadY}
use Rattle.sparc_decode.specs.declared.instruction.Instr.TheVariants.{Jmpl, Save, Restore, Load, Atomic, Multiply}
use Rattle.sparc_decode.specs.declared.instruction.Instr.TheVariants.{Divide}
use Rattle.sparc_decode.specs.declared.instruction.LoadKind.TheVariants.{Ld, Ldub, Lduh, Ldd, Ldsb, Ldsh}
use Rattle.sparc_machine.specs.Effect.{Effect, Done, Trapped, effect_of, code_word, in_order, called, jumped, address_in}
use Rattle.sparc_machine.specs.Frame.{Transfer, Stays, Calls, Returns, lets_call, is_return, transfer_by, transfer_from, transfer_of, instruction_at}
use Rattle.sparc_machine.specs.Machine.{IsMachine, register_of, with_register, going_to}
use Rattle.sparc_machine.specs.Reads.{AreElsewhere}
use Rattle.sparc_machine.specs.Register.{physical_of}
use Rattle.sparc_machine.specs.Straight.{code_instruction, passes, leaves_link}
use Rattle.sparc_machine.specs.declared.machine.Machine.{Machine}
use Rattle.sparc_machine.specs.declared.trap.Trap.TheVariants.{Misaligned, Unmodelled}
use Rattle.sparc_runs.proofs.Acting.{window_behind}
use Rattle.sparc_runs.proofs.StepLaws.{window_is, only_written}
use Rattle.sparc_runs.proofs.Stepping.{IsStep, parts}
use Rattle.sparc_runs.specs.Running.{is_call, returns, IsCalling, IsReturning, IsDue, DelaysKeepLinks}

-- a transfer that leaves its address in a register, at its place
pub record IsJump (m after : Machine) (rd target : ℕ) : Type 0 where
  pub order : m.npc ≡ (m.pc + 4) % 2 ^ 32
  pub is : after ≡ going_to (with_register m rd m.pc) target

ordered : (m after : Machine) (x : Effect) (annulled : Bool) → in_order m x ≡ Done after annulled → (m.npc ≡ (m.pc + 4) % 2 ^ 32) × (x ≡ Done after annulled)
ordered m after x annulled does = elim (eqb_tells m.npc ((m.pc + 4) % 2 ^ 32)) [
  | inl h ↦ (h.1, subst (λ (b : Bool). cond b x (Trapped Unmodelled) ≡ Done after annulled) h.0 does)
  | inr h ↦ (let there : Trapped Unmodelled ≡ Done after annulled = subst (λ (b : Bool). cond b x (Trapped Unmodelled) ≡ Done after annulled) h.0 does in cc)
]

-- the parts of a call
pub call_parts : (m after : Machine) (target : ℕ) (annulled : Bool) → called m target ≡ Done after annulled → IsJump m after 15 target
call_parts m after target annulled does =
    let h = ordered m after (Done (going_to (with_register m 15 m.pc) target) false) annulled does in
    let same : Done (going_to (with_register m 15 m.pc) target) false ≡ Done after annulled = h.1 in
    record { order = h.0; is = cc }

-- the parts of a jump
pub jump_parts : (m after : Machine) (rd target : ℕ) (annulled : Bool) → in_order m (jumped m rd target) ≡ Done after annulled → IsJump m after rd target
jump_parts m after rd target annulled does =
    let h = ordered m after (jumped m rd target) annulled does in
    record { order = h.0; is = go (eqb (target % 4) 0) h.1 } where
      go : (b : Bool) → cond b (Done (going_to (with_register m rd m.pc) target) false) (Trapped Misaligned) ≡ Done after annulled
          → after ≡ going_to (with_register m rd m.pc) target
      go true e = cc
      go false e = cc

-- a word of code is the word at its address
pub word_of_code : (image : List ℕ) (a this : ℕ) → code_word image a ≡ Some this → word image a ≡ Some this
word_of_code image a this h = go (is_code image a) h where
  go : (b : Bool) → cond b (word image a) None ≡ Some this → word image a ≡ Some this
  go true e = e
  go false e = cc

-- the instruction of a word of code is that at its address
pub instruction_there : (image : List ℕ) (a this : ℕ) → code_word image a ≡ Some this → instruction_at image a ≡ Some (instruction_of this)
instruction_there image a this h = ap (λ (w : Option ℕ). option_map instruction_of w) (word_of_code image a this h)

-- the instruction that a step executes says what is due behind it
pub transfer_is : (image : List ℕ) (m : Machine) (this : ℕ) → code_word image m.pc ≡ Some this
    → transfer_of image m ≡ transfer_by m (instruction_of this) (instruction_at image ((m.pc + 4) % 2 ^ 32))
transfer_is image m this code =
    ap (λ (o : Option Instr). transfer_from m o (instruction_at image ((m.pc + 4) % 2 ^ 32))) (instruction_there image m.pc this code)

-- the register that a transfer leaves its address in
linked : (m : Machine) (target : ℕ) → IsMachine m → register_of (going_to (with_register m 15 m.pc) target) 15 ≡ m.pc
linked m target machine =
    let w = machine.window in
    let size = machine.registers in
    get_or-set_same m.regs (physical_of m.cwp 15) m.pc 0 (omega arith)

module _ (image cycles : List ℕ) (m next : Machine) (s : IsStep image cycles m next) (machine : IsMachine m) where
  abbrev delay : Option Instr
  delay = instruction_at image ((m.pc + 4) % 2 ^ 32)

  -- what is due behind a transfer that is a call
  calling : (target : ℕ) (is : passes is_call (code_instruction image m.pc) ≡ true) → lets_call delay ≡ true → IsJump m s.after 15 target
      → IsCalling image target m.pc next
  calling target is lets jump =
      let there : next.pc ≡ s.after.pc = ap (λ (x : Machine). x.pc) s.is in
      let behind : next.npc ≡ s.after.npc = ap (λ (x : Machine). x.npc) s.is in
      let pc : s.after.pc ≡ m.npc = ap (λ (x : Machine). x.pc) jump.is in
      let npc : s.after.npc ≡ target = ap (λ (x : Machine). x.npc) jump.is in
      let at : next.pc ≡ (m.pc + 4) % 2 ^ 32 = there ∙ pc ∙ jump.order in
      record {
        pc = at;
        npc = behind ∙ npc;
        word = machine.pc;
        link = ap (λ (x : Machine). register_of x 15) s.is ∙ ap (λ (x : Machine). register_of x 15) jump.is ∙ linked m target machine;
        call = is;
        delay = subst (λ (a : ℕ). lets_call (instruction_at image a) ≡ true) (sym at) lets;
      }

  returning : passes returns (code_instruction image m.pc) ≡ true → (rd target : ℕ) → IsJump m s.after rd target → IsReturning image next
  returning is rd target jump =
      let there : next.pc ≡ s.after.pc = ap (λ (x : Machine). x.pc) s.is in
      let pc : s.after.pc ≡ (with_register m rd m.pc).npc = ap (λ (x : Machine). x.pc) jump.is in
      let same : (with_register m rd m.pc).npc ≡ m.npc = go (eqb rd 0) in
      let at : next.pc ≡ (m.pc + 4) % 2 ^ 32 = there ∙ pc ∙ same ∙ jump.order in
      let within = machine.pc in
      let back : m.pc ≡ (next.pc + 2 ^ 32 - 4) % 2 ^ 32 = omega arith in
      record { leave = subst (λ (a : ℕ). passes returns (code_instruction image a) ≡ true) back is } where
        go : (b : Bool) → (cond b m (record m { regs = slice_set m.regs (physical_of m.cwp rd) m.pc })).npc ≡ m.npc
        go true = refl
        go false = refl

  -- the instruction that is executed passes a test that its own passes
  passed : (test : Instr → Bool) (i : Instr) → instruction_of s.this ≡ i → test i ≡ true → passes test (code_instruction image m.pc) ≡ true
  passed test i is holds =
      ap (λ (w : Option ℕ). passes test (option_map instruction_of w)) s.code ∙ ap test is ∙ holds

  due_by : (i : Instr) → instruction_of s.this ≡ i → effect_of image s.free m i ≡ Done s.after s.annulled → (t : Transfer) → transfer_by m i delay ≡ t
      → IsDue image t next
  due_by (Call disp) is does t due = go (lets_call delay) refl due where
    jump : IsJump m s.after 15 ((m.pc + disp * 4) % 2 ^ 32)
    jump = call_parts m s.after ((m.pc + disp * 4) % 2 ^ 32) s.annulled does

    go : (b : Bool) → lets_call delay ≡ b → cond b (Calls ((m.pc + disp * 4) % 2 ^ 32) m.pc) Stays ≡ t → IsDue image t next
    go true lets e = subst (λ (x : Transfer). IsDue image x next) e (calling ((m.pc + disp * 4) % 2 ^ 32) (passed is_call (Call disp) is refl) lets jump)
    go false lets e = subst (λ (x : Transfer). IsDue image x next) e tt
  due_by (Jmpl rd rs1 second) is does t due = go (eqb_tells rd 15) (lets_call delay) refl (is_return rd rs1 second) refl due where
    jump : IsJump m s.after rd (address_in m rs1 second)
    jump = jump_parts m s.after rd (address_in m rs1 second) s.annulled does

    back : (b : Bool) → is_return rd rs1 second ≡ b → cond b Returns Stays ≡ t → IsDue image t next
    back true r e = subst (λ (x : Transfer). IsDue image x next) e (returning (passed returns (Jmpl rd rs1 second) is r) rd (address_in m rs1 second) jump)
    back false r e = subst (λ (x : Transfer). IsDue image x next) e tt

    go : ((eqb rd 15 ≡ true) × (rd ≡ 15)) ⊎ ((eqb rd 15 ≡ false) × (rd ≢ 15)) → (b : Bool) → lets_call delay ≡ b → (r : Bool) → is_return rd rs1 second ≡ r
        → transfer_by m (Jmpl rd rs1 second) delay ≡ t → IsDue image t next
    go (inl h) true lets r ret e =
        let call : Calls (address_in m rs1 second) m.pc ≡ t =
        subst (λ (x : Bool). cond x (Calls (address_in m rs1 second) m.pc) (cond (is_return rd rs1 second) Returns Stays) ≡ t) (λ j. h.0 j && lets j) e in
        subst (λ (x : Transfer). IsDue image x next) call
        (calling (address_in m rs1 second) (passed is_call (Jmpl rd rs1 second) is h.0) lets
        (subst (λ (x : ℕ). IsJump m s.after x (address_in m rs1 second)) h.1 jump))
    go (inl h) false lets r ret e =
        back (is_return rd rs1 second) refl
        (subst (λ (x : Bool). cond x (Calls (address_in m rs1 second) m.pc) (cond (is_return rd rs1 second) Returns Stays) ≡ t) (λ j. h.0 j && lets j) e)
    go (inr h) b lets r ret e =
        back (is_return rd rs1 second) refl
        (subst (λ (x : Bool). cond (x && lets_call delay) (Calls (address_in m rs1 second) m.pc) (cond (is_return rd rs1 second) Returns Stays) ≡ t) h.0 e)
  due_by _ is does t due = subst (λ (x : Transfer). IsDue image x next) due tt

  -- what a step says of the transfer that is due behind it
  pub due_behind : IsDue image (transfer_of image m) next
  due_behind = due_by (instruction_of s.this) refl s.does (transfer_of image m) (sym (transfer_is image m s.this s.code))

-- an instruction that lets a call be one leaves the window and r15
lets_parts : (i : Instr) (cwp : ℕ) → lets_call (Some i) ≡ true → (window_behind i cwp ≡ cwp) × (leaves_link i ≡ true)
lets_parts (Save rd rs1 second) cwp lets = cc
lets_parts (Restore rd rs1 second) cwp lets = cc
lets_parts _ cwp lets = (refl, lets)

-- the registers that an instruction writes are below 33
abbrev AreNear : List ℕ → Type 0
AreNear [] = Unit {0}
AreNear (r ∷ rs) = (r ≤ 32) × AreNear rs

near : (i : Instr) → InRange i → AreNear (registers_written i)
near (Call disp) range = (omega arith, tt)
near (Sethi rd imm) range = (let h = range.0 in omega arith, tt)
near (Alu op sets rd rs1 second) range = (let h = range.0 in omega arith, tt)
near (Tagged op rd rs1 second) range = (let h = range.0 in omega arith, tt)
near (MulStep rd rs1 second) range = (let h = range.0 in omega arith, tt)
near (Shift op rd rs1 second) range = (let h = range.0 in omega arith, tt)
near (ReadY rd) range = (omega arith, tt)
near (Jmpl rd rs1 second) range = (let h = range.0 in omega arith, tt)
near (Save rd rs1 second) range = (let h = range.0 in omega arith, tt)
near (Restore rd rs1 second) range = (let h = range.0 in omega arith, tt)
near (Load Ld rd rs1 second) range = (let h = range.0 in omega arith, tt)
near (Load Ldub rd rs1 second) range = (let h = range.0 in omega arith, tt)
near (Load Lduh rd rs1 second) range = (let h = range.0 in omega arith, tt)
near (Load Ldd rd rs1 second) range = (let h = range.0 in omega arith, (let h = range.0 in omega arith, tt))
near (Load Ldsb rd rs1 second) range = (let h = range.0 in omega arith, tt)
near (Load Ldsh rd rs1 second) range = (let h = range.0 in omega arith, tt)
near (Atomic swap rd rs1 second) range = (let h = range.0 in omega arith, tt)
near (Multiply sets rd rs1 second) range = (let h = range.0 in omega arith, tt)
near (Divide sets rd rs1 second) range = (let h = range.0 in omega arith, tt)
near _ range = tt

-- registers that aren't r15 stand elsewhere
apart : (cwp r : ℕ) → cwp < 8 → r ≤ 32 → r ≢ 15 → physical_of cwp r ≢ physical_of cwp 15
apart cwp r w few other same = elim (cases_lt r 8) [
  | inl low ↦
      let here : r ≡ physical_of cwp 15 = subst (λ (b : Bool). cond b r (8 + (16 * cwp + r - 8) % 128) ≡ physical_of cwp 15) (lt-ltb r 8 low) same in
      omega arith
  | inr high ↦
      let here : 8 + (16 * cwp + r - 8) % 128 ≡ physical_of cwp 15 = subst (λ (b : Bool). cond b r (8 + (16 * cwp + r - 8) % 128) ≡ physical_of cwp 15)
      (le-ltb r 8 high) same in
      omega arith
]

without : (x : Machine) (rs : List ℕ) → x.cwp < 8 → AreNear rs → (Contains rs 15 → ⊥) → AreElsewhere x (physical_of x.cwp 15) rs
without x [] w near none = tt
without x (r ∷ rs) w near none = (
  λ some. apart x.cwp r w near.0 (λ same. none (0, omega arith, same)),
  without x rs w near.1 (λ later. none (suc later.0, (let h = later.1 in omega arith), later.2)),
)

-- a set without r15 is of a list without it
not_listed : (rs : List ℕ) → eqb (bit_and (mask_of rs) 0x8000) 0 ≡ true → Contains rs 15 → ⊥
not_listed rs none named = ((has_exactly rs 15).1 (omega arith, omega arith, named)) (eqb-true (bit_and (mask_of rs) 0x8000) 0 none)

-- the delay instruction of a call keeps the window and r15
pub keep_links : DelaysKeepLinks
keep_links image cycles target address m next machine calls step =
    let s = parts image cycles m next step in
    let i : Instr = instruction_of s.this in
    let lets : lets_call (Some i) ≡ true = subst (λ (o : Option Instr). lets_call o ≡ true) (instruction_there image m.pc s.this s.code) calls.delay in
    let leaves = lets_parts i m.cwp lets in
    let window : next.cwp ≡ m.cwp = window_is image cycles m next s ∙ leaves.0 in
    let w = machine.window in
    let below : next.cwp < 8 = omega arith in
    let away : AreElsewhere next (physical_of next.cwp 15) (registers_written i) =
    without next (registers_written i) below (near i (all_in_range s.this)) (not_listed (registers_written i) leaves.1) in
    record {
      window = window;
      link =
          only_written image cycles m next s (physical_of next.cwp 15) away
          ∙ ap (λ (c : ℕ). slice_index m.regs (physical_of c 15)) window
          ∙ calls.link;
    }
