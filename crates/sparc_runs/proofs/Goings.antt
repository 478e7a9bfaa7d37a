-- Where each instruction goes on to.
use Rattle.std.proofs.Common.{◌≡◌, ◌≢◌, ℕ, ℤ, pos, ◌+◌, ◌*◌, ◌%◌, ◌^◌, ◌⊎◌, inl, inr, Bool, true, false, List, Option}
use Rattle.std.proofs.Common.{Some, None, refl, sym, ap, subst, ◌∙◌, cond, eqb}
use Rattle.std.specs.Prelude.{◌&&◌, ◌||◌, slice_set}
use Rattle.std.specs.Ordering.{int_eq}
use Rattle.std.specs.Int.{w32, cast_unsigned}
use Rattle.std.proofs.lemmas.Bool.{and_parts, or_cases, eqb-true, cases_Bool}
use Rattle.std.proofs.lemmas.Bool.Decides.{eqb_tells, Decides-int_eq}
use Rattle.sparc_decode.specs.Instr.{instruction_of}
use Rattle.sparc_decode.specs.declared.instruction.Instr.{Instr}
use Rattle.sparc_decode.specs.declared.instruction.Instr.TheVariants.{Call, Unimp, Sethi, Branch, FloatBranch, Alu}
use Rattle.sparc_decode.specs.declared.instruction.Instr.TheVariants.{Tagged, MulStep, Shift, ReadY, WriteY, FloatOp}
use Rattle.sparc_decode.specs.declared.instruction.Instr.TheVariants.{FloatCmp, Jmpl, Flush, Save, Restore, Ticc, Load}
use Rattle.sparc_decode.specs.declared.instruction.Instr.TheVariants.{Store, Atomic, FloatMem}
use Rattle.sparc_decode.specs.declared.instruction.Instr.TheVariants.{Unmodelled as UnmodelledWord, Unknown, Multiply}
use Rattle.sparc_decode.specs.declared.instruction.Instr.TheVariants.{Divide}
use Rattle.sparc_decode.specs.declared.instruction.LoadKind.{LoadKind}
use Rattle.sparc_decode.specs.declared.instruction.LoadKind.TheVariants.{Ld, Ldub, Lduh, Ldd, Ldsb, Ldsh}
use Rattle.sparc_decode.specs.declared.instruction.Second.TheVariants.{Imm}
use Rattle.sparc_machine.specs.Effect.{Effect, Done, Trapped, goes_on, flags_in, with_flags, flags_from, effect_of}
use Rattle.sparc_machine.specs.Effect.{target_of, address_in, branched, branch_effect, float_taken, is_invalid, turned}
use Rattle.sparc_machine.specs.Effect.{read_into, is_odd_double_load, write_trap, is_odd_double_store, unless_trapped}
use Rattle.sparc_machine.specs.Effect.{freely_flagged}
use Rattle.sparc_machine.specs.Machine.{with_register, register_of, charged}
use Rattle.sparc_machine.specs.Memory.{load_size, store_size, atomic_size, float_size, is_float_store}
use Rattle.sparc_machine.specs.Register.{physical_of}
use Rattle.sparc_machine.specs.declared.free.Free.{Free}
use Rattle.sparc_machine.specs.declared.machine.Machine.{Machine}
use Rattle.sparc_machine.specs.declared.trap.Trap.{Trap}
use Rattle.sparc_machine.specs.declared.trap.Trap.TheVariants.{Unmodelled}
use Rattle.sparc_runs.proofs.Stepping.{parts, same_instruction}
use Rattle.sparc_runs.proofs.Transfers.{IsJump, call_parts, jump_parts}
use Rattle.sparc_runs.specs.Going.{StandsAt, Leads, BranchLeads, Goes, StepsGo, ReturnsLeadBack}
use Rattle.word_ops.specs.Condition.{holds_of}
use Rattle.word_ops.specs.declared.arithmetic.Flags.{Flags}

-- a write of a register leaves the next program counter
pub written_npc : (m : Machine) (r v : ℕ) → (with_register m r v).npc ≡ m.npc
written_npc m r v = go (eqb r 0) where
  go : (b : Bool) → (cond b m (record m { regs = slice_set m.regs (physical_of m.cwp r) v })).npc ≡ m.npc
  go true = refl
  go false = refl

module _ (m : Machine) where
  -- an effect goes on to the next instruction
  abbrev PlainAfter : Effect → Type 0
  PlainAfter (Done next annulled) = StandsAt m.npc ((m.npc + 4) % 2 ^ 32) next
  PlainAfter (Trapped trap) = Unit {0}

  either : (b : Bool) (x y : Effect) → PlainAfter x → PlainAfter y → PlainAfter (cond b x y)
  either true x y h k = h
  either false x y h k = k

  unless : (trap : Option Trap) (x : Effect) → PlainAfter x → PlainAfter (unless_trapped trap x)
  unless None x h = h
  unless (Some trap) x h = tt

  -- from a machine with the same next program counter it goes on as from this one
  on : (x : Machine) → x.npc ≡ m.npc → PlainAfter (goes_on x)
  on x same = record { this = same; after = ap (λ (n : ℕ). (n + 4) % 2 ^ 32) same }

  writes : (r v : ℕ) → PlainAfter (goes_on (with_register m r v))
  writes r v = on (with_register m r v) (written_npc m r v)

  flagged : (f : Flags) (r v : ℕ) → PlainAfter (goes_on (with_register (with_flags m f) r v))
  flagged f r v = on (with_register (with_flags m f) r v) (written_npc (with_flags m f) r v)

  twice : (r v q w : ℕ) → PlainAfter (goes_on (with_register (with_register m r v) q w))
  twice r v q w = on (with_register (with_register m r v) q w) (written_npc (with_register m r v) q w ∙ written_npc m r v)

  freely : (free : Free) (sets : Bool) (r v : ℕ) → PlainAfter (goes_on (with_register (freely_flagged m free sets) r v))
  freely free true r v = flagged (flags_from free.flags) r v
  freely free false r v = writes r v

  read : (image : List ℕ) (free : Free) (kind : LoadKind) (r a : ℕ) → PlainAfter (read_into image free m kind r a)
  read image free Ld r a = writes r _
  read image free Ldub r a = writes r _
  read image free Lduh r a = writes r _
  read image free Ldd r a = twice r _ (r + 1) _
  read image free Ldsb r a = writes r _
  read image free Ldsh r a = writes r _

  turns : (w : ℕ) (trap : Trap) (r v : ℕ) → PlainAfter (turned m w trap r v)
  turns w trap r v = either (is_invalid m.wim w) (Trapped trap) (goes_on (with_register (record m { cwp = w }) r v)) tt
      (on (with_register (record m { cwp = w }) r v) (written_npc (record m { cwp = w }) r v))

  done_plain : (x : Effect) (after : Machine) (annulled : Bool) → PlainAfter x → x ≡ Done after annulled → StandsAt m.npc ((m.npc + 4) % 2 ^ 32) after
  done_plain x after annulled h e = subst PlainAfter e h

  jumped_leads : (after : Machine) (rd target : ℕ) → IsJump m after rd target → Leads m m.npc target after
  jumped_leads after rd target jump = record {
    order = jump.order;
    to = record { this = ap (λ (x : Machine). x.pc) jump.is ∙ written_npc m rd m.pc; after = ap (λ (x : Machine). x.npc) jump.is };
  }

  -- a branch at its place
  at_exit : (pc npc : ℕ) (x after : Machine) (annulled passed : Bool) → m.npc ≡ (m.pc + 4) % 2 ^ 32 → StandsAt pc npc x
      → Done x passed ≡ Done after annulled → Leads m pc npc after
  at_exit pc npc x after annulled passed order stands e =
      let same : x ≡ after = cc in record { order = order; to = subst (StandsAt pc npc) same stands }

  exits : (annul always taken : Bool) (target : ℕ) (after : Machine) (annulled : Bool) → m.npc ≡ (m.pc + 4) % 2 ^ 32
      → branched m annul always taken target ≡ Done after annulled
      → BranchLeads m annul always taken target after
  exits true true true target after annulled order e = at_exit _ _ _ after annulled true order (record { this = refl; after = refl }) e
  exits true false true target after annulled order e = at_exit _ _ _ after annulled false order (record { this = refl; after = refl }) e
  exits false always true target after annulled order e = at_exit _ _ _ after annulled false order (record { this = refl; after = refl }) e
  exits true always false target after annulled order e = at_exit _ _ _ after annulled true order (record { this = refl; after = refl }) e
  exits false always false target after annulled order e = at_exit _ _ _ after annulled false order (record { this = refl; after = refl }) e

  branch_leads : (annul taken : Bool) (condition : ℕ) (disp : ℤ) (after : Machine) (annulled : Bool)
      → branch_effect m annul condition taken disp ≡ Done after annulled
      → BranchLeads m annul (eqb condition 8) taken (target_of m.pc disp) after
  branch_leads annul taken condition disp after annulled does = go (eqb_tells m.npc ((m.pc + 4) % 2 ^ 32)) where
    go : ((eqb m.npc ((m.pc + 4) % 2 ^ 32) ≡ true) × (m.npc ≡ (m.pc + 4) % 2 ^ 32))
        ⊎ ((eqb m.npc ((m.pc + 4) % 2 ^ 32) ≡ false) × (m.npc ≢ (m.pc + 4) % 2 ^ 32))
        → BranchLeads m annul (eqb condition 8) taken (target_of m.pc disp) after
    go (inl h) =
        exits annul (eqb condition 8) taken (target_of m.pc disp) after annulled h.1
        (subst (λ (b : Bool). cond b (branched m annul (eqb condition 8) taken (target_of m.pc disp)) (Trapped Unmodelled) ≡ Done after annulled) h.0 does)
    go (inr h) =
        let there : Trapped Unmodelled ≡ Done after annulled =
        subst (λ (b : Bool). cond b (branched m annul (eqb condition 8) taken (target_of m.pc disp)) (Trapped Unmodelled) ≡ Done after annulled) h.0 does in
        cc

  -- where each instruction goes on to
  pub goes : (image : List ℕ) (free : Free) (i : Instr) (after : Machine) (annulled : Bool) → effect_of image free m i ≡ Done after annulled → Goes i m after
  goes image free (Call disp) after annulled does = jumped_leads after 15 _ (call_parts m after ((m.pc + disp * 4) % 2 ^ 32) annulled does)
  goes image free (Unimp imm) after annulled does = cc
  goes image free (Sethi rd imm) after annulled does = done_plain _ after annulled (writes rd _) does
  goes image free (Branch annul condition disp) after annulled does = branch_leads annul (holds_of condition (flags_in m)) condition disp after annulled does
  goes image free (FloatBranch annul condition disp) after annulled does =
      (free.taken, branch_leads annul (float_taken condition free.taken) condition disp after annulled does)
  goes image free (Alu op true rd rs1 second) after annulled does = done_plain _ after annulled (flagged _ rd _) does
  goes image free (Alu op false rd rs1 second) after annulled does = done_plain _ after annulled (writes rd _) does
  goes image free (Tagged op rd rs1 second) after annulled does = done_plain _ after annulled (flagged _ rd _) does
  goes image free (MulStep rd rs1 second) after annulled does = done_plain _ after annulled (flagged _ rd _) does
  goes image free (Shift op rd rs1 second) after annulled does = done_plain _ after annulled (writes rd _) does
  goes image free (ReadY rd) after annulled does = done_plain _ after annulled (writes rd _) does
  goes image free (WriteY rs1 second) after annulled does = done_plain _ after annulled (on m refl) does
  goes image free (FloatOp these) after annulled does = done_plain _ after annulled (on m refl) does
  goes image free (FloatCmp these) after annulled does = done_plain _ after annulled (on m refl) does
  goes image free (Jmpl rd rs1 second) after annulled does = jumped_leads after rd _ (jump_parts m after rd (address_in m rs1 second) annulled does)
  goes image free (Flush rs1 second) after annulled does = done_plain _ after annulled (on m refl) does
  goes image free (Save rd rs1 second) after annulled does = done_plain _ after annulled (turns ((m.cwp + 7) % 8) _ rd (address_in m rs1 second)) does
  goes image free (Restore rd rs1 second) after annulled does = done_plain _ after annulled (turns ((m.cwp + 1) % 8) _ rd (address_in m rs1 second)) does
  goes image free (Ticc condition rs1 second) after annulled does = done_plain _ after annulled (either (eqb condition 0) _ _ (on m refl) tt) does
  goes image free (Load kind rd rs1 second) after annulled does =
      let a : ℕ = address_in m rs1 second in
      done_plain _ after annulled (either (is_odd_double_load kind rd) _ _ tt (either (eqb (a % load_size kind) 0) _ _ (read image free kind rd a) tt)) does
  goes image free (Store kind rd rs1 second) after annulled does =
      done_plain _ after annulled (either (is_odd_double_store kind rd) _ _ tt
      (unless (write_trap image (address_in m rs1 second) (store_size kind)) _ (on m refl))) does
  goes image free (Atomic swap rd rs1 second) after annulled does =
      done_plain _ after annulled (unless (write_trap image (address_in m rs1 second) (atomic_size swap)) _ (writes rd _)) does
  goes image free (FloatMem kind rd rs1 second) after annulled does =
      done_plain _ after annulled
      (either (is_float_store kind) _ _ (unless (write_trap image (address_in m rs1 second) (float_size kind)) _ (on m refl))
      (either (eqb (address_in m rs1 second % float_size kind) 0) _ _ (on m refl) tt)) does
  goes image free (UnmodelledWord these) after annulled does = cc
  goes image free (Unknown these) after annulled does = cc
  goes image free (Multiply sets rd rs1 second) after annulled does = done_plain _ after annulled (freely free sets rd _) does
  goes image free (Divide sets rd rs1 second) after annulled does = done_plain _ after annulled (freely free sets rd _) does

-- the cost of a step changes no program counter
stands_charged : (pc npc : ℕ) (after : Machine) (cost these : ℕ) → StandsAt pc npc after → StandsAt pc npc (charged after cost these)
stands_charged pc npc after cost these h = record { this = h.this; after = h.after }

leads_charged : (m : Machine) (pc npc : ℕ) (after : Machine) (cost these : ℕ) → Leads m pc npc after → Leads m pc npc (charged after cost these)
leads_charged m pc npc after cost these h = record { order = h.order; to = stands_charged pc npc after cost these h.to }

branch_charged : (m : Machine) (annul always taken : Bool) (target : ℕ) (after : Machine) (cost these : ℕ) → BranchLeads m annul always taken target after
    → BranchLeads m annul always taken target (charged after cost these)
branch_charged m true true true target after cost these h = leads_charged m _ _ after cost these h
branch_charged m true false true target after cost these h = leads_charged m _ _ after cost these h
branch_charged m false always true target after cost these h = leads_charged m _ _ after cost these h
branch_charged m true always false target after cost these h = leads_charged m _ _ after cost these h
branch_charged m false always false target after cost these h = leads_charged m _ _ after cost these h

goes_charged : (i : Instr) (m after : Machine) (cost these : ℕ) → Goes i m after → Goes i m (charged after cost these)
goes_charged (Call disp) m after cost these h = leads_charged m _ _ after cost these h
goes_charged (Jmpl rd rs1 second) m after cost these h = leads_charged m _ _ after cost these h
goes_charged (Branch annul condition disp) m after cost these h =
    branch_charged m annul (eqb condition 8) (holds_of condition (flags_in m)) (target_of m.pc disp) after cost these h
goes_charged (FloatBranch annul condition disp) m after cost these h =
    (h.0, branch_charged m annul (eqb condition 8) (float_taken condition h.0) (target_of m.pc disp) after cost these h.1)
goes_charged _ m after cost these h = stands_charged _ _ after cost these h

-- so each step does
pub steps_go : StepsGo
steps_go image cycles m next i step is =
    let s = parts image cycles m next step in
    let same : instruction_of s.this ≡ i = same_instruction image m.pc s.this i s.code is in
    subst (λ (x : Instr). Goes x m next) same
    (subst (Goes (instruction_of s.this) m) (sym s.is)
    (goes_charged (instruction_of s.this) m s.after _ _ (goes m image s.free (instruction_of s.this) s.after s.annulled s.does)))

-- the immediate of a return is 8 or 12
offset_of : (n : ℤ) → (int_eq n (pos 8) || int_eq n (pos 12)) ≡ true → cast_unsigned w32 n ≡ cond (int_eq n (pos 12)) 12 8
offset_of n h = go (cases_Bool (int_eq n (pos 12))) (or_cases (int_eq n (pos 8)) (int_eq n (pos 12)) h) where
  go : (int_eq n (pos 12) ≡ true) ⊎ (int_eq n (pos 12) ≡ false) → (int_eq n (pos 8) ≡ true) ⊎ (int_eq n (pos 12) ≡ true)
      → cast_unsigned w32 n ≡ cond (int_eq n (pos 12)) 12 8
  go (inl twelve) which =
      let is : n ≡ pos 12 = (Decides-int_eq n (pos 12)).0 twelve in
      ap (cast_unsigned w32) is ∙ sym (ap (λ (t : Bool). cond t 12 8) twelve)
  go (inr other) (inl eight) =
      let is : n ≡ pos 8 = (Decides-int_eq n (pos 8)).0 eight in
      ap (cast_unsigned w32) is ∙ sym (ap (λ (t : Bool). cond t 12 8) other)
  go (inr other) (inr twelve) = cc

-- a return leads eight or twelve bytes behind what r15 or r31 has
pub lead_back : ReturnsLeadBack
lead_back image cycles m next (Jmpl rd rs1 (Imm n)) step is ret =
    let outer = and_parts (eqb rd 0) ((int_eq n (pos 8) || int_eq n (pos 12)) && (eqb rs1 15 || eqb rs1 31)) ret in
    let inner = and_parts (int_eq n (pos 8) || int_eq n (pos 12)) (eqb rs1 15 || eqb rs1 31) outer.1 in
    let to : Leads m m.npc (address_in m rs1 (Imm n)) next = steps_go image cycles m next (Jmpl rd rs1 (Imm n)) step is in
    record {
      either = (elim (or_cases (eqb rs1 15) (eqb rs1 31) inner.1) [ inl a ↦ inl (eqb-true rs1 15 a) | inr b ↦ inr (eqb-true rs1 31 b) ]);
      behind = to.to.after ∙ ap (λ (x : ℕ). (register_of m rs1 + x) % 2 ^ 32) (offset_of n inner.0);
    }
lead_back image cycles m next _ step is ret = cc
