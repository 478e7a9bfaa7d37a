-- A frame that is popped behind its call goes on there, with nothing due.
use Rattle.std.proofs.Common.{◌≡◌, ℕ, ◌+◌, ◌-◌, ◌*◌, ◌%◌, ◌^◌, ◌<◌, ◌⊎◌, inl, inr, Bool, true, false, List, Option}
use Rattle.std.proofs.Common.{Some, None, refl, sym, ap, subst, ◌∙◌, arith, cond, eqb}
use Rattle.std.specs.Prelude.{◌&&◌, slice_set}
use Rattle.std.proofs.lemmas.Bool.{and_parts, eqb-true}
use Rattle.std.proofs.lemmas.Bool.Decides.{eqb_tells}
use Rattle.sparc_decode.specs.Instr.{instruction_of}
use Rattle.sparc_decode.specs.declared.instruction.Instr.{Instr}
use Rattle.sparc_decode.specs.declared.instruction.Instr.TheVariants.{Call, Unimp, Sethi, Branch, FloatBranch, Alu}
use Rattle.sparc_decode.specs.declared.instruction.Instr.TheVariants.{Tagged, MulStep, Shift, ReadY, WriteY, FloatOp}
use Rattle.sparc_decode.specs.declared.instruction.Instr.TheVariants.{FloatCmp, Jmpl, Flush, Save, Restore, Ticc, Load}
use Rattle.sparc_decode.specs.declared.instruction.Instr.TheVariants.{Store, Atomic, FloatMem}
use Rattle.sparc_decode.specs.declared.instruction.Instr.TheVariants.{Unmodelled as UnmodelledWord, Unknown, Multiply}
use Rattle.sparc_decode.specs.declared.instruction.Instr.TheVariants.{Divide}
use Rattle.sparc_decode.specs.declared.instruction.LoadKind.{LoadKind}
use Rattle.sparc_decode.specs.declared.instruction.LoadKind.TheVariants.{Ld, Ldub, Lduh, Ldd, Ldsb, Ldsh}
use Rattle.sparc_decode.specs.declared.instruction.Second.TheVariants.{Reg, Imm}
use Rattle.sparc_machine.specs.Effect.{Effect, Done, Trapped, goes_on, flags_in, effect_of, in_order, target_of}
use Rattle.sparc_machine.specs.Effect.{address_in, branched, float_taken, jumped, is_invalid, read_into}
use Rattle.sparc_machine.specs.Effect.{is_odd_double_load, write_trap, is_odd_double_store, unless_trapped}
use Rattle.sparc_machine.specs.Frame.{Transfer, Stays, transfer_by, transfer_of, instruction_at}
use Rattle.sparc_machine.specs.Machine.{with_register, going_to}
use Rattle.sparc_machine.specs.Memory.{load_size, store_size, atomic_size, float_size, is_float_store}
use Rattle.sparc_machine.specs.Register.{physical_of}
use Rattle.sparc_machine.specs.Straight.{code_instruction, passes}
use Rattle.sparc_machine.specs.declared.free.Free.{Free}
use Rattle.sparc_machine.specs.declared.machine.Machine.{Machine}
use Rattle.sparc_machine.specs.declared.trap.Trap.{Trap}
use Rattle.sparc_machine.specs.declared.trap.Trap.TheVariants.{Misaligned, Unmodelled}
use Rattle.sparc_runs.proofs.Stepping.{IsStep, parts}
use Rattle.sparc_runs.proofs.Transfers.{transfer_is, call_parts, jump_parts}
use Rattle.sparc_runs.specs.Running.{is_call, returns, IsReturning, IsDue}
use Rattle.sparc_runs.specs.Stub.{PopsBehindCallsGoOn}
use Rattle.word_ops.specs.Condition.{holds_of}

-- no instruction is both a call and a return
clash : (o : Option Instr) → passes returns o ≡ true → passes is_call o ≡ true → ⊥
clash None r c = cc
clash (Some (Jmpl rd rs1 (Reg x))) r c = cc
clash (Some (Jmpl rd rs1 (Imm n))) r c =
    let zero_there : rd ≡ 0 = eqb-true rd 0 (and_parts (eqb rd 0) _ r).0 in
    let link_there : rd ≡ 15 = eqb-true rd 15 c in
    omega arith
clash (Some _) r c = cc

module _ (m : Machine) where
  -- behind an instruction the next one is in order, or it went on to the one behind it with a transfer
  abbrev OrderAfter : Effect → Type 0
  OrderAfter (Done next annulled) = (next.npc ≡ (next.pc + 4) % 2 ^ 32) ⊎ ((m.npc ≡ (m.pc + 4) % 2 ^ 32) × (next.pc ≡ m.npc))
  OrderAfter (Trapped trap) = Unit {0}

  either : (b : Bool) (x y : Effect) → OrderAfter x → OrderAfter y → OrderAfter (cond b x y)
  either true x y h k = h
  either false x y h k = k

  unless : (trap : Option Trap) (x : Effect) → OrderAfter x → OrderAfter (unless_trapped trap x)
  unless None x h = h
  unless (Some trap) x h = tt

  -- a transfer at its place
  ordered : (x : Effect) → (m.npc ≡ (m.pc + 4) % 2 ^ 32 → OrderAfter x) → OrderAfter (in_order m x)
  ordered x h = elim (eqb_tells m.npc ((m.pc + 4) % 2 ^ 32)) [
    | inl here ↦ subst (λ (b : Bool). OrderAfter (cond b x (Trapped Unmodelled))) (sym here.0) (h here.1)
    | inr there ↦ subst (λ (b : Bool). OrderAfter (cond b x (Trapped Unmodelled))) (sym there.0) tt
  ]

  branched_order : (annul always taken : Bool) (target : ℕ) → m.npc ≡ (m.pc + 4) % 2 ^ 32 → OrderAfter (branched m annul always taken target)
  branched_order annul always true target e =
      either (annul && always) (Done (record m { pc = target; npc = (target + 4) % 2 ^ 32 }) true) (Done (going_to m target) false) (inl refl) (inr (e, refl))
  branched_order annul always false target e =
      either annul (Done (record m { pc = (m.pc + 8) % 2 ^ 32; npc = (m.pc + 12) % 2 ^ 32 }) true) (goes_on m) (inl (omega arith)) (inl refl)

  read_order : (image : List ℕ) (free : Free) (kind : LoadKind) (r a : ℕ) → OrderAfter (read_into image free m kind r a)
  read_order image free Ld r a = inl refl
  read_order image free Ldub r a = inl refl
  read_order image free Lduh r a = inl refl
  read_order image free Ldd r a = inl refl
  read_order image free Ldsb r a = inl refl
  read_order image free Ldsh r a = inl refl

  written_npc : (r v : ℕ) → (with_register m r v).npc ≡ m.npc
  written_npc r v = go (eqb r 0) where
    go : (b : Bool) → (cond b m (record m { regs = slice_set m.regs (physical_of m.cwp r) v })).npc ≡ m.npc
    go true = refl
    go false = refl

  order : (image : List ℕ) (free : Free) (i : Instr) → OrderAfter (effect_of image free m i)
  order image free (Call disp) = ordered (Done (going_to (with_register m 15 m.pc) ((m.pc + disp * 4) % 2 ^ 32)) false) (λ e. inr (e, refl))
  order image free (Unimp imm) = tt
  order image free (Sethi rd imm) = inl refl
  order image free (Branch annul condition disp) = ordered _ (branched_order annul (eqb condition 8) (holds_of condition (flags_in m)) (target_of m.pc disp))
  order image free (FloatBranch annul condition disp) =
      ordered _ (branched_order annul (eqb condition 8) (float_taken condition free.taken) (target_of m.pc disp))
  order image free (Alu op true rd rs1 second) = inl refl
  order image free (Alu op false rd rs1 second) = inl refl
  order image free (Tagged op rd rs1 second) = inl refl
  order image free (MulStep rd rs1 second) = inl refl
  order image free (Shift op rd rs1 second) = inl refl
  order image free (ReadY rd) = inl refl
  order image free (WriteY rs1 second) = inl refl
  order image free (FloatOp these) = inl refl
  order image free (FloatCmp these) = inl refl
  order image free (Jmpl rd rs1 second) =
      ordered (jumped m rd (address_in m rs1 second))
      (λ e. either (eqb (address_in m rs1 second % 4) 0) (Done (going_to (with_register m rd m.pc) (address_in m rs1 second)) false) (Trapped Misaligned)
      (inr (e, written_npc rd m.pc)) tt)
  order image free (Flush rs1 second) = inl refl
  order image free (Save rd rs1 second) = either (is_invalid m.wim ((m.cwp + 7) % 8)) _ _ tt (inl refl)
  order image free (Restore rd rs1 second) = either (is_invalid m.wim ((m.cwp + 1) % 8)) _ _ tt (inl refl)
  order image free (Ticc condition rs1 second) = either (eqb condition 0) _ _ (inl refl) tt
  order image free (Load kind rd rs1 second) =
      either (is_odd_double_load kind rd) _ _ tt
      (either (eqb (address_in m rs1 second % load_size kind) 0) _ _ (read_order image free kind rd (address_in m rs1 second)) tt)
  order image free (Store kind rd rs1 second) =
      either (is_odd_double_store kind rd) _ _ tt (unless (write_trap image (address_in m rs1 second) (store_size kind)) _ (inl refl))
  order image free (Atomic swap rd rs1 second) = unless (write_trap image (address_in m rs1 second) (atomic_size swap)) _ (inl refl)
  order image free (FloatMem kind rd rs1 second) =
      either (is_float_store kind) _ _ (unless (write_trap image (address_in m rs1 second) (float_size kind)) _ (inl refl))
      (either (eqb (address_in m rs1 second % float_size kind) 0) _ _ (inl refl) tt)
  order image free (UnmodelledWord these) = tt
  order image free (Unknown these) = tt
  order image free (Multiply sets rd rs1 second) = inl refl
  order image free (Divide sets rd rs1 second) = inl refl

  -- a transfer that isn't a branch is in order
  transfer_order : (image : List ℕ) (free : Free) (i : Instr) (delay : Option Instr) (after : Machine) (annulled : Bool)
      → effect_of image free m i ≡ Done after annulled
      → (transfer_by m i delay ≡ Stays) ⊎ ((m.npc ≡ (m.pc + 4) % 2 ^ 32) × (after.pc ≡ m.npc))
  transfer_order image free (Call disp) delay after annulled does =
      let h = call_parts m after ((m.pc + disp * 4) % 2 ^ 32) annulled does in inr (h.order, ap (λ (x : Machine). x.pc) h.is)
  transfer_order image free (Jmpl rd rs1 second) delay after annulled does =
      let h = jump_parts m after rd (address_in m rs1 second) annulled does in inr (h.order, ap (λ (x : Machine). x.pc) h.is ∙ written_npc rd m.pc)
  transfer_order image free _ delay after annulled does = inl refl

-- what an effect leads to, where it is done
done_order : (m after : Machine) (annulled : Bool) (x : Effect) → OrderAfter m x → x ≡ Done after annulled
    → (after.npc ≡ (after.pc + 4) % 2 ^ 32) ⊎ ((m.npc ≡ (m.pc + 4) % 2 ^ 32) × (after.pc ≡ m.npc))
done_order m after annulled x h e = subst (OrderAfter m) e h

-- a transfer that ends behind the call that it stands behind can't be: the word there is the call's
not_behind : (image : List ℕ) (m : Machine) (pc caller : ℕ) → m.pc < 2 ^ 32 → caller < 2 ^ 32 → IsReturning image m
    → passes is_call (code_instruction image caller) ≡ true → pc ≡ (caller + 8) % 2 ^ 32
    → m.npc ≡ (m.pc + 4) % 2 ^ 32 → pc ≡ m.npc → ⊥
not_behind image m pc caller within word leaves call behind order at =
    let there : (m.pc + 2 ^ 32 - 4) % 2 ^ 32 ≡ caller = omega arith in
    clash (code_instruction image caller) (subst (λ (a : ℕ). passes returns (code_instruction image a) ≡ true) there leaves.leave) call

-- a frame that is popped behind its call goes on there
pub pops_go_on : PopsBehindCallsGoOn
pops_go_on image cycles invalid c next F running due step word call behind = record { npc = npc; due = stays } where
  s : IsStep image cycles c.machine next
  s = parts image cycles c.machine next step

  leaves : IsReturning image c.machine
  leaves = subst (λ (t : Transfer). IsDue image t c.machine) due running.due

  there : next.pc ≡ s.after.pc
  there = ap (λ (x : Machine). x.pc) s.is

  never : (c.machine.npc ≡ (c.machine.pc + 4) % 2 ^ 32) × (s.after.pc ≡ c.machine.npc) → ⊥
  never h = not_behind image c.machine next.pc F.caller running.machine.pc word leaves call behind h.0 (there ∙ h.1)

  npc_by : (s.after.npc ≡ (s.after.pc + 4) % 2 ^ 32) ⊎ ((c.machine.npc ≡ (c.machine.pc + 4) % 2 ^ 32) × (s.after.pc ≡ c.machine.npc))
      → next.npc ≡ (F.caller + 12) % 2 ^ 32
  npc_by (inl h) = (let to : next.npc ≡ s.after.npc = ap (λ (x : Machine). x.npc) s.is in let at = there in omega arith)
  npc_by (inr h) = absurd (never h)

  npc : next.npc ≡ (F.caller + 12) % 2 ^ 32
  npc = npc_by (done_order c.machine s.after s.annulled _ (order c.machine image s.free (instruction_of s.this)) s.does)

  stays_by : (transfer_by c.machine (instruction_of s.this) (instruction_at image ((c.machine.pc + 4) % 2 ^ 32)) ≡ Stays)
      ⊎ ((c.machine.npc ≡ (c.machine.pc + 4) % 2 ^ 32) × (s.after.pc ≡ c.machine.npc))
      → transfer_of image c.machine ≡ Stays
  stays_by (inl h) = transfer_is image c.machine s.this s.code ∙ h
  stays_by (inr h) = absurd (never h)

  stays : transfer_of image c.machine ≡ Stays
  stays =
      stays_by (transfer_order c.machine image s.free (instruction_of s.this) (instruction_at image ((c.machine.pc + 4) % 2 ^ 32)) s.after s.annulled s.does)
