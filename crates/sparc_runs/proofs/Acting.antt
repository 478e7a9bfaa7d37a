-- What each instruction does to the registers, the window and the numbers of a machine.
use Rattle.std.proofs.Common.{◌≡◌, ◌≢◌, ℕ, ℤ, ◌+◌, ◌*◌, ◌%◌, ◌^◌, ◌<◌, Bool, true, false, List, [], ◌∷◌, Option, Some}
use Rattle.std.proofs.Common.{None, refl, sym, subst, ◌∙◌, arith, cond, eqb, inl, inr}
use Rattle.std.specs.Prelude.{slice_index, slice_set, ◌&&◌, if◌then◌else◌}
use Rattle.std.proofs.Math.ListN.{length-set}
use Rattle.std.proofs.lemmas.Bool.Decides.{eqb_tells}
use Rattle.std.proofs.lemmas.List.{get_or-set_other}
use Rattle.std.proofs.lemmas.List.Elements.{All-set}
use Rattle.sparc_decode.specs.Instr.{InRange}
use Rattle.sparc_decode.specs.Register.{registers_written}
use Rattle.sparc_decode.specs.declared.instruction.FloatKind.{FloatKind}
use Rattle.sparc_decode.specs.declared.instruction.Instr.{Instr}
use Rattle.sparc_decode.specs.declared.instruction.Instr.TheVariants.{Call, Unimp, Sethi, Branch, FloatBranch, Alu}
use Rattle.sparc_decode.specs.declared.instruction.Instr.TheVariants.{Tagged, MulStep, Shift, ReadY, WriteY, FloatOp}
use Rattle.sparc_decode.specs.declared.instruction.Instr.TheVariants.{FloatCmp, Jmpl, Flush, Save, Restore, Ticc, Load}
use Rattle.sparc_decode.specs.declared.instruction.Instr.TheVariants.{Store, Atomic, FloatMem}
use Rattle.sparc_decode.specs.declared.instruction.Instr.TheVariants.{Unmodelled as UnmodelledWord, Unknown, Multiply}
use Rattle.sparc_decode.specs.declared.instruction.Instr.TheVariants.{Divide}
use Rattle.sparc_decode.specs.declared.instruction.LoadKind.{LoadKind}
use Rattle.sparc_decode.specs.declared.instruction.LoadKind.TheVariants.{Ld, Ldub, Lduh, Ldd, Ldsb, Ldsh}
use Rattle.sparc_decode.specs.declared.instruction.Second.{Second}
use Rattle.sparc_decode.specs.declared.instruction.StoreKind.{StoreKind}
use Rattle.sparc_machine.specs.Effect.{Effect, Done, Trapped, goes_on, flags_in, with_flags, flags_from, is_in_order}
use Rattle.sparc_machine.specs.Effect.{target_of, address_in, alu_result, alu_flags, tagged_result, shift_result}
use Rattle.sparc_machine.specs.Effect.{branched, branch_effect, float_taken, jumped, is_invalid, turned, read_into}
use Rattle.sparc_machine.specs.Effect.{load_effect, is_odd_double_load, write_trap, store_effect, is_odd_double_store}
use Rattle.sparc_machine.specs.Effect.{atomic_effect, float_effect, unless_trapped, product_of, effect_of}
use Rattle.sparc_machine.specs.Frame.{IsFree}
use Rattle.sparc_machine.specs.Machine.{IsMachine, register_of, operand_of, with_register, going_to, advanced}
use Rattle.sparc_machine.specs.Memory.{load_size, store_size, atomic_size, float_size, is_float_store}
use Rattle.sparc_machine.specs.Reads.{IsElsewhere, AreElsewhere}
use Rattle.sparc_machine.specs.Register.{physical_of}
use Rattle.sparc_machine.specs.declared.free.Free.{Free}
use Rattle.sparc_machine.specs.declared.machine.Machine.{Machine}
use Rattle.sparc_machine.specs.declared.trap.Trap.{Trap}
use Rattle.sparc_machine.specs.declared.trap.Trap.TheVariants.{Misaligned, Unmodelled, Overflow, Underflow}
use Rattle.sparc_runs.proofs.Bounds.{register_word, operand_word, alu_word, shift_word, tagged_word, loaded_word, first_below, second_below}
use Rattle.sparc_runs.specs.Sound.{AreBytes}
use Rattle.word_ops.specs.Condition.{holds_of}
use Rattle.word_ops.specs.declared.arithmetic.Flags.{Flags}

-- where registers stand depends on the window alone
pub elsewhere_by : (a b : Machine) (place : ℕ) → a.cwp ≡ b.cwp → (rs : List ℕ) → AreElsewhere a place rs → AreElsewhere b place rs
elsewhere_by a b place same [] h = tt
elsewhere_by a b place same (r ∷ rs) h = (subst (λ (w : ℕ). r ≢ 0 → physical_of w r ≢ place) same h.0, elsewhere_by a b place same rs h.1)

-- the window behind an instruction
abbrev pub window_behind : Instr → ℕ → ℕ
window_behind (Save rd rs1 second) cwp = (cwp + 7) % 8
window_behind (Restore rd rs1 second) cwp = (cwp + 1) % 8
window_behind _ cwp = cwp

module _ (image : List ℕ) (free : Free) (m : Machine) where
  -- what the numbers of an effect rest on
  pub record Premises : Type 0 where
    pub bytes : AreBytes image
    pub within : IsFree free
    pub machine : IsMachine m

  -- a machine that an instruction leaves: but for these registers of its window it has what was there; its window is this
  -- one, and its mask that of before; and it is a machine
  pub record Acts (registers : List ℕ) (w : ℕ) (after : Machine) : Type 0 where
    pub only : (place : ℕ) → AreElsewhere after place registers → slice_index after.regs place ≡ slice_index m.regs place
    pub at : after.cwp ≡ w
    pub mask : after.wim ≡ m.wim
    pub cycles : after.cycles ≡ m.cycles
    pub machine : Premises → IsMachine after

  -- the same of an effect that is no trap
  abbrev pub ActsAfter : List ℕ → ℕ → Effect → Type 0
  ActsAfter registers w (Done next annulled) = Acts registers w next
  ActsAfter registers w (Trapped trap) = Unit {0}

  -- nothing is done, or the window turned
  stays : (rs : List ℕ) → Acts rs m.cwp m
  stays rs = record { only = λ place e. refl; at = refl; mask = refl; cycles = refl; machine = λ p. p.machine }

  turns : (rs : List ℕ) (w : ℕ) → w < 8 → Acts rs w (record m { cwp = w })
  turns rs w below = record {
    only = λ place e. refl;
    at = refl;
    mask = refl;
    cycles = refl;
    machine =
        λ p. (let k = p.machine in record {
          registers = k.registers;
          words = k.words;
          pc = k.pc;
          npc = k.npc;
          window = below;
          mask = k.mask;
          loaded = k.loaded;
        });
  }

  flagged : (rs : List ℕ) (w : ℕ) (a : Machine) (f : Flags) → Acts rs w a → Acts rs w (with_flags a f)
  flagged rs w a f h = record {
    only = λ place e. h.only place (elsewhere_by (with_flags a f) a place refl rs e);
    at = h.at;
    mask = h.mask;
    cycles = h.cycles;
    machine =
        λ p. (let k = h.machine p in record {
          registers = k.registers;
          words = k.words;
          pc = k.pc;
          npc = k.npc;
          window = k.window;
          mask = k.mask;
          loaded = k.loaded;
        });
  }

  -- a register is written that is one of these
  abbrev HasRegister : List ℕ → ℕ → Type 0
  HasRegister rs r = (x : Machine) (place : ℕ) → AreElsewhere x place rs → IsElsewhere x place r

  wrote : (rs : List ℕ) (w : ℕ) (a : Machine) (r v : ℕ) → Acts rs w a → HasRegister rs r → (Premises → v < 2 ^ 32) → Acts rs w (with_register a r v)
  wrote rs w a r v h has bound = elim (eqb_tells r 0) [
    | inl none ↦ subst (λ (b : Bool). Acts rs w (cond b a (record a { regs = slice_set a.regs (physical_of a.cwp r) v }))) (sym none.0) h
    | inr some ↦ subst (λ (b : Bool). Acts rs w (cond b a (record a { regs = slice_set a.regs (physical_of a.cwp r) v }))) (sym some.0) (put some.1)
  ] where
    put : r ≢ 0 → Acts rs w (record a { regs = slice_set a.regs (physical_of a.cwp r) v })
    put some = record {
      only = λ place e.
          get_or-set_other a.regs (physical_of a.cwp r) place v 0
          (λ same. has (record a { regs = slice_set a.regs (physical_of a.cwp r) v }) place e some (sym same))
          ∙ h.only place (elsewhere_by (record a { regs = slice_set a.regs (physical_of a.cwp r) v }) a place refl rs e);
      at = h.at;
      mask = h.mask;
      cycles = h.cycles;
      machine = λ p.
          (let k = h.machine p in record {
            registers = length-set a.regs (physical_of a.cwp r) v ∙ k.registers;
            words = All-set (λ (word : ℕ). word < 2 ^ 32) a.regs (physical_of a.cwp r) v (bound p) k.words;
            pc = k.pc;
            npc = k.npc;
            window = k.window;
            mask = k.mask;
            loaded = k.loaded;
          });
    }

  went : (rs : List ℕ) (w : ℕ) (a : Machine) (target : ℕ) → Acts rs w a → (Premises → target < 2 ^ 32) → Acts rs w (going_to a target)
  went rs w a target h bound = record {
    only = λ place e. h.only place (elsewhere_by (going_to a target) a place refl rs e);
    at = h.at;
    mask = h.mask;
    cycles = h.cycles;
    machine =
        λ p. (let k = h.machine p in record {
          registers = k.registers;
          words = k.words;
          pc = k.npc;
          npc = bound p;
          window = k.window;
          mask = k.mask;
          loaded = k.loaded;
        });
  }

  placed : (rs : List ℕ) (a b : ℕ) → a < 2 ^ 32 → b < 2 ^ 32 → Acts rs m.cwp (record m { pc = a; npc = b })
  placed rs a b h k = record {
    only = λ place e. refl;
    at = refl;
    mask = refl;
    cycles = refl;
    machine =
        λ p. (let q = p.machine in record { registers = q.registers; words = q.words; pc = h; npc = k; window = q.window; mask = q.mask; loaded = q.loaded });
  }

  goes : (rs : List ℕ) (w : ℕ) (a : Machine) → Acts rs w a → Acts rs w (advanced a)
  goes rs w a h = went rs w a ((a.npc + 4) % 2 ^ 32) h (λ p. omega arith)

  plain : (rs : List ℕ) → ActsAfter rs m.cwp (goes_on m)
  plain rs = goes rs m.cwp m (stays rs)

  only_one : (r : ℕ) → HasRegister (r ∷ []) r
  only_one r x place e = e.0

  -- one register is written, behind a change of the condition codes or without one
  writes_one : (r v : ℕ) → (Premises → v < 2 ^ 32) → ActsAfter (r ∷ []) m.cwp (goes_on (with_register m r v))
  writes_one r v bound = goes (r ∷ []) m.cwp _ (wrote (r ∷ []) m.cwp m r v (stays (r ∷ [])) (only_one r) bound)

  writes_flagged : (f : Flags) (r v : ℕ) → (Premises → v < 2 ^ 32) → ActsAfter (r ∷ []) m.cwp (goes_on (with_register (with_flags m f) r v))
  writes_flagged f r v bound =
      goes (r ∷ []) m.cwp _ (wrote (r ∷ []) m.cwp (with_flags m f) r v (flagged (r ∷ []) m.cwp m f (stays (r ∷ []))) (only_one r) bound)

  -- either of two effects
  either : (rs : List ℕ) (w : ℕ) (b : Bool) (x y : Effect) → ActsAfter rs w x → ActsAfter rs w y → ActsAfter rs w (cond b x y)
  either rs w true x y h k = h
  either rs w false x y h k = k

  unless : (rs : List ℕ) (w : ℕ) (trap : Option Trap) (x : Effect) → ActsAfter rs w x → ActsAfter rs w (unless_trapped trap x)
  unless rs w None x h = h
  unless rs w (Some trap) x h = tt

  acts_branched : (annul always taken : Bool) (target : ℕ) → target < 2 ^ 32 → ActsAfter [] m.cwp (branched m annul always taken target)
  acts_branched annul always true target t =
      either [] m.cwp (annul && always) (Done (record m { pc = target; npc = (target + 4) % 2 ^ 32 }) true) (Done (going_to m target) false)
      (placed [] target ((target + 4) % 2 ^ 32) t (omega arith)) (went [] m.cwp m target (stays []) (λ p. t))
  acts_branched annul always false target t =
      either [] m.cwp annul (Done (record m { pc = (m.pc + 8) % 2 ^ 32; npc = (m.pc + 12) % 2 ^ 32 }) true) (goes_on m)
      (placed [] ((m.pc + 8) % 2 ^ 32) ((m.pc + 12) % 2 ^ 32) (omega arith) (omega arith)) (plain [])

  acts_branch : (annul : Bool) (condition : ℕ) (taken : Bool) (disp : ℤ) → ActsAfter [] m.cwp (branch_effect m annul condition taken disp)
  acts_branch annul condition taken disp =
      either [] m.cwp (is_in_order m) (branched m annul (eqb condition 8) taken (target_of m.pc disp)) (Trapped Unmodelled)
      (acts_branched annul (eqb condition 8) taken (target_of m.pc disp) (omega arith)) tt

  -- a transfer that leaves its address in a register
  acts_linked : (r target : ℕ) → target < 2 ^ 32 → Acts (r ∷ []) m.cwp (going_to (with_register m r m.pc) target)
  acts_linked r target t = went (r ∷ []) m.cwp _ target (wrote (r ∷ []) m.cwp m r m.pc (stays (r ∷ [])) (only_one r) (λ p. p.machine.pc)) (λ p. t)

  acts_turned : (w : ℕ) (trap : Trap) (r v : ℕ) → w < 8 → v < 2 ^ 32 → ActsAfter (r ∷ []) w (turned m w trap r v)
  acts_turned w trap r v below bound =
      either (r ∷ []) w (is_invalid m.wim w) (Trapped trap) (goes_on (with_register (record m { cwp = w }) r v)) tt
      (goes (r ∷ []) w _ (wrote (r ∷ []) w (record m { cwp = w }) r v (turns (r ∷ []) w below) (only_one r) (λ p. bound)))

  acts_read : (kind : LoadKind) (rd rs1 : ℕ) (second : Second) (a : ℕ)
      → ActsAfter (registers_written (Load kind rd rs1 second)) m.cwp (read_into image free m kind rd a)
  acts_read Ld rd rs1 second a = writes_one rd _ (λ p. loaded_word Ld image a free.first p.bytes (λ e. cc))
  acts_read Ldub rd rs1 second a = writes_one rd _ (λ p. loaded_word Ldub image a free.first p.bytes (λ e. cc))
  acts_read Lduh rd rs1 second a = writes_one rd _ (λ p. loaded_word Lduh image a free.first p.bytes (λ e. cc))
  acts_read Ldd rd rs1 second a =
      let both : List ℕ = rd ∷ (rd + 1) ∷ [] in
      goes both m.cwp _ (wrote both m.cwp _ (rd + 1) _
      (wrote both m.cwp m rd _ (stays both) (λ x place e. e.0) (λ p. first_below image a free.first p.bytes p.within.first)) (λ x place e. e.1.0)
      (λ p. second_below image a free.second p.bytes p.within.second))
  acts_read Ldsb rd rs1 second a = writes_one rd _ (λ p. loaded_word Ldsb image a free.first p.bytes (λ e. cc))
  acts_read Ldsh rd rs1 second a = writes_one rd _ (λ p. loaded_word Ldsh image a free.first p.bytes (λ e. cc))

  acts_load : (kind : LoadKind) (rd rs1 : ℕ) (second : Second) (a : ℕ)
      → ActsAfter (registers_written (Load kind rd rs1 second)) m.cwp (load_effect image free m kind rd a)
  acts_load kind rd rs1 second a =
      either (registers_written (Load kind rd rs1 second)) m.cwp (is_odd_double_load kind rd) (Trapped Unmodelled)
      (if eqb (a % load_size kind) 0 then read_into image free m kind rd a else Trapped Misaligned) tt
      (either (registers_written (Load kind rd rs1 second)) m.cwp (eqb (a % load_size kind) 0) (read_into image free m kind rd a) (Trapped Misaligned)
      (acts_read kind rd rs1 second a) tt)

  acts_store : (kind : StoreKind) (rd a : ℕ) → ActsAfter [] m.cwp (store_effect image m kind rd a)
  acts_store kind rd a =
      either [] m.cwp (is_odd_double_store kind rd) (Trapped Unmodelled) (unless_trapped (write_trap image a (store_size kind)) (goes_on m)) tt
      (unless [] m.cwp (write_trap image a (store_size kind)) (goes_on m) (plain []))

  atomic_word : (swap : Bool) → Premises → (if swap then free.first else free.first % 2 ^ 8) < 2 ^ 32
  atomic_word true p = p.within.first
  atomic_word false p = omega arith

  acts_atomic : (swap : Bool) (rd a : ℕ) → ActsAfter (rd ∷ []) m.cwp (atomic_effect image free m swap rd a)
  acts_atomic swap rd a =
      let v : ℕ = if swap then free.first else free.first % 2 ^ 8 in
      unless (rd ∷ []) m.cwp (write_trap image a (atomic_size swap)) (goes_on (with_register m rd v)) (writes_one rd v (atomic_word swap))

  acts_float : (kind : FloatKind) (a : ℕ) → ActsAfter [] m.cwp (float_effect image m kind a)
  acts_float kind a =
      either [] m.cwp (is_float_store kind) (unless_trapped (write_trap image a (float_size kind)) (goes_on m))
      (if eqb (a % float_size kind) 0 then goes_on m else Trapped Misaligned)
      (unless [] m.cwp (write_trap image a (float_size kind)) (goes_on m) (plain []))
      (either [] m.cwp (eqb (a % float_size kind) 0) (goes_on m) (Trapped Misaligned) (plain []) tt)

  -- each instruction
  pub acts : (i : Instr) → InRange i → ActsAfter (registers_written i) (window_behind i m.cwp) (effect_of image free m i)
  acts (Call disp) range =
      either (15 ∷ []) m.cwp (is_in_order m) (Done (going_to (with_register m 15 m.pc) ((m.pc + disp * 4) % 2 ^ 32)) false) (Trapped Unmodelled)
      (acts_linked 15 ((m.pc + disp * 4) % 2 ^ 32) (omega arith)) tt
  acts (Unimp imm) range = tt
  acts (Sethi rd imm) range = let h = range.1 in writes_one rd (imm * 1024) (λ p. omega arith)
  acts (Branch annul condition disp) range = acts_branch annul condition (holds_of condition (flags_in m)) disp
  acts (FloatBranch annul condition disp) range = acts_branch annul condition (float_taken condition free.taken) disp
  acts (Alu op true rd rs1 second) range =
      writes_flagged (alu_flags op (register_of m rs1) (operand_of m second) m.c) rd (alu_result op (register_of m rs1) (operand_of m second) m.c)
      (λ p. alu_word op (register_of m rs1) (operand_of m second) m.c (register_word m rs1 p.machine) (operand_word m second p.machine range.2))
  acts (Alu op false rd rs1 second) range =
      writes_one rd (alu_result op (register_of m rs1) (operand_of m second) m.c)
      (λ p. alu_word op (register_of m rs1) (operand_of m second) m.c (register_word m rs1 p.machine) (operand_word m second p.machine range.2))
  acts (Tagged op rd rs1 second) range =
      writes_flagged (flags_from free.flags) rd (tagged_result op (register_of m rs1) (operand_of m second))
      (λ p. tagged_word op (register_of m rs1) (operand_of m second))
  acts (MulStep rd rs1 second) range = writes_flagged (flags_from free.flags) rd free.first (λ p. p.within.first)
  acts (Shift op rd rs1 second) range =
      writes_one rd (shift_result op (register_of m rs1) (operand_of m second))
      (λ p. shift_word op (register_of m rs1) (operand_of m second) (register_word m rs1 p.machine))
  acts (ReadY rd) range = writes_one rd free.first (λ p. p.within.first)
  acts (WriteY rs1 second) range = plain []
  acts (FloatOp these) range = plain []
  acts (FloatCmp these) range = plain []
  acts (Jmpl rd rs1 second) range =
      either (rd ∷ []) m.cwp (is_in_order m) (jumped m rd (address_in m rs1 second)) (Trapped Unmodelled)
      (either (rd ∷ []) m.cwp (eqb (address_in m rs1 second % 4) 0) (Done (going_to (with_register m rd m.pc) (address_in m rs1 second)) false)
      (Trapped Misaligned)
      (acts_linked rd (address_in m rs1 second) (omega arith)) tt) tt
  acts (Flush rs1 second) range = plain []
  acts (Save rd rs1 second) range = acts_turned ((m.cwp + 7) % 8) Overflow rd (address_in m rs1 second) (omega arith) (omega arith)
  acts (Restore rd rs1 second) range = acts_turned ((m.cwp + 1) % 8) Underflow rd (address_in m rs1 second) (omega arith) (omega arith)
  acts (Ticc condition rs1 second) range = either [] m.cwp (eqb condition 0) (goes_on m) (Trapped Unmodelled) (plain []) tt
  acts (Load kind rd rs1 second) range = acts_load kind rd rs1 second (address_in m rs1 second)
  acts (Store kind rd rs1 second) range = acts_store kind rd (address_in m rs1 second)
  acts (Atomic swap rd rs1 second) range = acts_atomic swap rd (address_in m rs1 second)
  acts (FloatMem kind rd rs1 second) range = acts_float kind (address_in m rs1 second)
  acts (UnmodelledWord these) range = tt
  acts (Unknown these) range = tt
  acts (Multiply true rd rs1 second) range = writes_flagged (flags_from free.flags) rd (product_of (register_of m rs1) (operand_of m second)) (λ p. omega arith)
  acts (Multiply false rd rs1 second) range = writes_one rd (product_of (register_of m rs1) (operand_of m second)) (λ p. omega arith)
  acts (Divide true rd rs1 second) range = writes_flagged (flags_from free.flags) rd free.first (λ p. p.within.first)
  acts (Divide false rd rs1 second) range = writes_one rd free.first (λ p. p.within.first)
