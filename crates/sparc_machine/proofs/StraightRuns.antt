-- A run over straight code stands at its words one after the other, up to the pop of its frame.
use Rattle.std.proofs.Common.{◌≡◌, ◌≢◌, ℕ, zero, suc, ◌+◌, ◌-◌, ◌*◌, ◌%◌, ◌^◌, ◌<◌, ◌≤◌, ◌⊎◌, inl, inr, Bool, true}
use Rattle.std.proofs.Common.{false, List, [], ◌∷◌, length, Option, Some, None, refl, sym, ap, subst, ◌∙◌, arith, cond}
use Rattle.std.proofs.Common.{eqb}
use Rattle.std.proofs.Math.Nat.{eq-or-lt_of_le, le_of_eq}
use Rattle.std.proofs.lemmas.Bool.{cases_eq, eq-eqb, ne_eqb}
use Rattle.std.proofs.lemmas.Nat.{and_mask, and_comm, and_le_r}
use Rattle.std.specs.Prelude.{slice_get, slice_set, pos, bit_and}
use Rattle.std.specs.Option.{option_map}
use Rattle.bt_image.specs.Image.{word, is_code}
use Rattle.cycle_table.specs.Class.{cost_at}
use Rattle.cycle_table.specs.Cycles.{pair_of}
use Rattle.sparc_decode.specs.Instr.{instruction_of}
use Rattle.sparc_decode.specs.Register.{mask_of, registers_read, registers_loaded}
use Rattle.sparc_decode.proofs.RegisterSets.{set_is_word}
use Rattle.sparc_decode.specs.declared.cost_class.CostClass.TheVariants.{Loaduse}
use Rattle.sparc_decode.specs.declared.instruction.AluOp.TheVariants.{Add, Or}
use Rattle.sparc_decode.specs.declared.instruction.Instr.{Instr}
use Rattle.sparc_decode.specs.declared.instruction.Instr.TheVariants.{Sethi, Alu, Jmpl}
use Rattle.sparc_decode.specs.declared.instruction.Second.TheVariants.{Imm}
use Rattle.sparc_machine.specs.Effect.{Done, Trapped, in_order, is_in_order, jumped, step_cost, paid, performed, stepped_from, code_word}
use Rattle.sparc_machine.specs.Frame.{Transfer, Stays, Returns, Frame, StepsTo, RunsFrom, transfer_from, transfer_of, instruction_at, config_from}
use Rattle.sparc_machine.specs.Machine.{with_register, going_to, advanced, charged}
use Rattle.sparc_machine.specs.Outcome.{Stepped}
use Rattle.sparc_machine.specs.Register.{physical_of}
use Rattle.sparc_machine.specs.Straight.{IsStraight, only_computes, passes, code_instruction, all_registers, loads}
use Rattle.sparc_machine.specs.Straight.{loaded_before, cost_alone, code_cost, return_word}
use Rattle.sparc_machine.specs.declared.free.Free.{Free}
use Rattle.sparc_machine.specs.declared.machine.Machine.{Machine}
use Rattle.sparc_machine.specs.declared.trap.Trap.TheVariants.{Unmodelled, Misaligned}

-- a write of a register leaves the program counters and the cycles
record SameCounters (m next : Machine) : Type 0 where
  pub pc : next.pc ≡ m.pc
  pub npc : next.npc ≡ m.npc
  pub cycles : next.cycles ≡ m.cycles

same_counters : (m : Machine) (r value : ℕ) → SameCounters m (with_register m r value)
same_counters m r value = elim (eqb r 0) as (λ b. SameCounters m (cond b m (record m { regs = slice_set m.regs (physical_of m.cwp r) value }))) [
  | true ↦ record { pc = refl; npc = refl; cycles = refl }
  | false ↦ record { pc = refl; npc = refl; cycles = refl }
]

-- a step of an instruction that goes on by one instruction
record GoesOn (costs : List ℕ) (i : Instr) (m next : Machine) : Type 0 where
  pub pc : next.pc ≡ m.npc
  pub npc : next.npc ≡ (m.npc + 4) % 2 ^ 32
  pub cycles : next.cycles ≡ m.cycles + step_cost costs m.loaded i false
  pub loaded : next.loaded ≡ mask_of (registers_loaded i)

-- a step of an instruction that goes on to its next instruction and from there anywhere
record GoesSomewhere (costs : List ℕ) (i : Instr) (m next : Machine) : Type 0 where
  pub pc : next.pc ≡ m.npc
  pub cycles : next.cycles ≡ m.cycles + step_cost costs m.loaded i false
  pub loaded : next.loaded ≡ mask_of (registers_loaded i)

wrote : (costs : List ℕ) (i : Instr) (m next : Machine) (r value : ℕ)
    → Stepped (charged (advanced (with_register m r value)) (step_cost costs m.loaded i false) (mask_of (registers_loaded i))) ≡ Stepped next
    → GoesOn costs i m next
wrote costs i m next r value e =
    let cost : ℕ = step_cost costs m.loaded i false in
    let same : SameCounters m (with_register m r value) = same_counters m r value in
    let is : charged (advanced (with_register m r value)) cost (mask_of (registers_loaded i)) ≡ next = cc in
    record {
      pc = sym (ap (λ (s : Machine). s.pc) is) ∙ same.npc;
      npc = sym (ap (λ (s : Machine). s.npc) is) ∙ ap (λ (n : ℕ). (n + 4) % 2 ^ 32) same.npc;
      cycles = sym (ap (λ (s : Machine). s.cycles) is) ∙ ap (λ (n : ℕ). n + cost) same.cycles;
      loaded = sym (ap (λ (s : Machine). s.loaded) is);
    }

computed : (image costs : List ℕ) (free : Free) (m next : Machine) (i : Instr) → only_computes i ≡ true
    → performed image costs free m i ≡ Stepped next → GoesOn costs i m next
computed image costs free m next (Sethi rd imm) h e = wrote costs (Sethi rd imm) m next rd (imm * 1024) e
computed image costs free m next (Alu Add false rd rs1 second) h e = wrote costs (Alu Add false rd rs1 second) m next rd _ e
computed image costs free m next (Alu Or false rd rs1 second) h e = wrote costs (Alu Or false rd rs1 second) m next rd _ e
computed image costs free m next _ h e = cc

-- an instruction that only computes leaves the stack
stays : (m : Machine) (i : Instr) (delay : Option Instr) → only_computes i ≡ true → transfer_from m (Some i) delay ≡ Stays
stays m (Sethi rd imm) delay h = refl
stays m (Alu op sets rd rs1 second) delay h = refl
stays m _ delay h = cc

-- the instruction of the return
abbrev pub leaf_return : Instr
leaf_return = Jmpl 0 15 (Imm (pos 8))

-- the word of a leaf's return stands for it
pub the_return : instruction_of return_word ≡ leaf_return
unfolding instruction_of
the_return = refl

-- a jump goes to its delay instruction first
jumps : (costs : List ℕ) (i : Instr) (m next : Machine) (rd target : ℕ) → paid costs m.loaded i (in_order m (jumped m rd target)) ≡ Stepped next
    → GoesSomewhere costs i m next
jumps costs i m next rd target e =
    elim (is_in_order m) as
    (λ b.
    paid costs m.loaded i
    (cond b (cond (eqb (target % 4) 0) (Done (going_to (with_register m rd m.pc) target) false) (Trapped Misaligned)) (Trapped Unmodelled))
    ≡ Stepped next → GoesSomewhere costs i m next) [
      | true ↦
          elim (eqb (target % 4) 0) as
          (λ b.
          paid costs m.loaded i (cond b (Done (going_to (with_register m rd m.pc) target) false) (Trapped Misaligned)) ≡ Stepped next
          → GoesSomewhere costs i m next) [
            | true ↦ λ k.
                let cost : ℕ = step_cost costs m.loaded i false in
                let same : SameCounters m (with_register m rd m.pc) = same_counters m rd m.pc in
                let is : charged (going_to (with_register m rd m.pc) target) cost (mask_of (registers_loaded i)) ≡ next = cc in
                record {
                  pc = sym (ap (λ (s : Machine). s.pc) is) ∙ same.npc;
                  cycles = sym (ap (λ (s : Machine). s.cycles) is) ∙ ap (λ (n : ℕ). n + cost) same.cycles;
                  loaded = sym (ap (λ (s : Machine). s.loaded) is);
                }
            | false ↦ λ k. cc
          ]
      | false ↦ λ k. cc
    ]
    e

-- an instruction that a test passes is there
record Passed (image : List ℕ) (test : Instr → Bool) (a : ℕ) : Type 0 where
  pub this : ℕ
  pub word : code_word image a ≡ Some this
  pub holds : test (instruction_of this) ≡ true

passed : (image : List ℕ) (test : Instr → Bool) (a : ℕ) → passes test (code_instruction image a) ≡ true → Passed image test a
passed image test a h = go (code_word image a) refl h where
  go : (w : Option ℕ) → code_word image a ≡ w → passes test (option_map instruction_of w) ≡ true → Passed image test a
  go None e t = cc
  go (Some this) e t = record { this = this; word = e; holds = t }

-- the step from an address where a word of code stands
step_at : (image costs : List ℕ) (a this : ℕ) (m next : Machine) (step : StepsTo image costs m next) → m.pc ≡ a → code_word image a ≡ Some this
    → performed image costs step.free m (instruction_of this) ≡ Stepped next
step_at image costs a this m next step at word =
    let fetch : code_word image m.pc ≡ Some this = ap (code_word image) at ∙ word in
    subst (λ (w : Option ℕ). stepped_from image costs step.free m w ≡ Stepped next) fetch step.steps

-- a word of code is the word at its address
word_of_code : (image : List ℕ) (a this : ℕ) → code_word image a ≡ Some this → word image a ≡ Some this
word_of_code image a this h = go (is_code image a) h where
  go : (b : Bool) → cond b (word image a) None ≡ Some this → word image a ≡ Some this
  go true e = e
  go false e = cc

-- what the step from an address where a word of code stands does to the stack
transfer_at : (image : List ℕ) (a this : ℕ) (m : Machine) → m.pc ≡ a → code_word image a ≡ Some this
    → transfer_of image m ≡ transfer_from m (Some (instruction_of this)) (instruction_at image ((m.pc + 4) % 2 ^ 32))
transfer_at image a this m at code =
    let fetch : word image m.pc ≡ Some this = ap (word image) at ∙ word_of_code image a this code in
    ap (λ (w : Option ℕ). transfer_from m (option_map instruction_of w) (instruction_at image ((m.pc + 4) % 2 ^ 32))) fetch

-- the cost of more words is no less
cost_within : (image costs : List ℕ) (entry i n : ℕ) → i ≤ n → code_cost image costs entry i ≤ code_cost image costs entry n
cost_within image costs entry i zero h = le_of_eq (ap (code_cost image costs entry) (let same : i ≡ 0 = omega arith in same))
cost_within image costs entry i (suc n) h = elim (eq-or-lt_of_le h) [
  | inl same ↦ le_of_eq (ap (code_cost image costs entry) same)
  | inr less ↦ omega (arith, cost_within image costs entry i n (omega arith))
]

-- the cost of one word more
pub code_cost_next : (image costs : List ℕ) (entry i : ℕ)
    → code_cost image costs entry (i + 1) ≡ code_cost image costs entry i + cost_alone costs (loaded_before image entry i)
    (code_instruction image (entry + 4 * i))
code_cost_next image costs entry i = ap (code_cost image costs entry) (let same : i + 1 ≡ suc i = omega arith in same)

-- the cost of a word where its instruction is known
cost_of_word : (image costs : List ℕ) (before a this : ℕ) → code_word image a ≡ Some this
    → cost_alone costs before (code_instruction image a) ≡ step_cost costs before (instruction_of this) false
cost_of_word image costs before a this h = ap (λ (w : Option ℕ). cost_alone costs before (option_map instruction_of w)) h

-- no registers that are loaded make an instruction cost more than all do
pub pair_most : (costs : List ℕ) (before : ℕ) (i : Instr) → pair_of costs before i ≤ pair_of costs all_registers i
pair_most costs before i = go (cases_eq (bit_and all_registers (mask_of (registers_read i))) 0) where
  go : (bit_and all_registers (mask_of (registers_read i)) ≡ 0) ⊎ (bit_and all_registers (mask_of (registers_read i)) ≢ 0)
      → pair_of costs before i ≤ pair_of costs all_registers i
  go (inl none) =
      let word = set_is_word (registers_read i) in
      let low : bit_and (mask_of (registers_read i)) all_registers ≡ mask_of (registers_read i) % 2 ^ 32 = and_mask (mask_of (registers_read i)) 32 in
      let turned : bit_and all_registers (mask_of (registers_read i)) ≡ bit_and (mask_of (registers_read i)) all_registers =
      and_comm all_registers (mask_of (registers_read i)) in
      let empty : mask_of (registers_read i) ≡ 0 = omega arith in
      let own : bit_and before (mask_of (registers_read i)) ≤ mask_of (registers_read i) = and_le_r before (mask_of (registers_read i)) in
      let nothing : bit_and before (mask_of (registers_read i)) ≡ 0 = omega arith in
      rw (eq-eqb (bit_and before (mask_of (registers_read i))) 0 nothing) (omega arith)
  go (inr some) = rw (ne_eqb (bit_and all_registers (mask_of (registers_read i))) 0 some) (at_most (eqb (bit_and before (mask_of (registers_read i))) 0)) where
    at_most : (b : Bool) → cond b 0 (cost_at costs Loaduse) ≤ cost_at costs Loaduse
    at_most true = omega arith
    at_most false = omega arith

-- the machines from the one at place i on, of so many words that cost no more than the bound
pub record IsRest (entry count most : ℕ) (i : ℕ) (run : List Machine) : Type 0 where
  pub ends : length run + i ≤ count + 1
  pub places : (k : ℕ) (m : Machine) → i + k < count → slice_get run k ≡ Some m → m.pc ≡ entry + 4 * (i + k)
  pub spends : (k : ℕ) (m : Machine) → slice_get run k ≡ Some m → m.cycles ≤ most

-- nothing is left
rest_none : (entry count most i : ℕ) → i ≤ count + 1 → IsRest entry count most i []
rest_none entry count most i h = record { ends = omega arith; places = λ k m w e. cc; spends = λ k m e. cc }

-- one machine more in front
rest_cons : (entry count most i : ℕ) (m : Machine) (run : List Machine) → (i < count → m.pc ≡ entry + 4 * i) → m.cycles ≤ most
    → IsRest entry count most (i + 1) run → IsRest entry count most i (m ∷ run)
rest_cons entry count most i m run at spent rest = record { ends = omega (arith, rest.ends); places = rest_places; spends = rest_spends } where
  rest_places : (k : ℕ) (x : Machine) → i + k < count → slice_get (m ∷ run) k ≡ Some x → x.pc ≡ entry + 4 * (i + k)
  rest_places zero x w e = let same : m ≡ x = cc in subst (λ (y : Machine). y.pc ≡ entry + 4 * (i + 0)) same (omega (arith, at (omega arith)))
  rest_places (suc k) x w e = omega (arith, rest.places k x (omega arith) e)

  rest_spends : (k : ℕ) (x : Machine) → slice_get (m ∷ run) k ≡ Some x → x.cycles ≤ most
  rest_spends zero x e = let same : m ≡ x = cc in subst (λ (y : Machine). y.cycles ≤ most) same spent
  rest_spends (suc k) x e = rest.spends k x e

-- the stack at a place of a run that begins with this transfer due and this stack
abbrev pub frames_from : List ℕ → Transfer → List Frame → List Machine → ℕ → List Frame
frames_from image due frames [] i = frames
frames_from image due frames (m ∷ rest) i = (config_from image (record { machine = m; due = due; frames = frames }) rest i).frames

module _ (image costs : List ℕ) (entry count : ℕ) (s : IsStraight image entry count) (start : ℕ) where
  -- a machine at a place of the code
  pub record IsAt (i : ℕ) (m : Machine) : Type 0 where
    pub pc : m.pc ≡ entry + 4 * i
    pub spent : m.cycles ≤ start + code_cost image costs entry i
    pub behind : (x : Instr) → pair_of costs m.loaded x ≤ pair_of costs (loaded_before image entry i) x

  -- the most that may be spent
  abbrev pub most : ℕ
  most = start + code_cost image costs entry count

  spent_within : (i : ℕ) (m : Machine) → i ≤ count → IsAt i m → m.cycles ≤ most
  spent_within i m h here = omega (arith, here.spent, cost_within image costs entry i count h)

  -- a step from a place spends no more than its word costs there
  spent_behind : (i : ℕ) (m next : Machine) (this : ℕ) → IsAt i m → code_word image (entry + 4 * i) ≡ Some this
      → next.cycles ≡ m.cycles + step_cost costs m.loaded (instruction_of this) false → next.cycles ≤ start + code_cost image costs entry (i + 1)
  spent_behind i m next this here word spends =
      let cost : cost_alone costs (loaded_before image entry i) (code_instruction image (entry + 4 * i)) ≡ step_cost costs
      (loaded_before image entry i) (instruction_of this) false =
      cost_of_word image costs (loaded_before image entry i) (entry + 4 * i) this word in
      omega (arith, spends, here.spent, here.behind (instruction_of this), cost, code_cost_next image costs entry i)

  -- behind a step from a place, what it loaded is what its word loads
  behind_word : (i : ℕ) (next : Machine) (this : ℕ) → code_word image (entry + 4 * i) ≡ Some this
      → next.loaded ≡ mask_of (registers_loaded (instruction_of this))
      → (x : Instr) → pair_of costs next.loaded x ≤ pair_of costs (loaded_before image entry (i + 1)) x
  behind_word i next this word is x =
      let loaded : loaded_before image entry (suc i) ≡ mask_of (registers_loaded (instruction_of this)) =
      ap (λ (w : Option ℕ). loads (option_map instruction_of w)) word in
      let place : i + 1 ≡ suc i = omega arith in
      le_of_eq (ap (λ (these : ℕ). pair_of costs these x) (is ∙ sym loaded ∙ ap (loaded_before image entry) (sym place)))

  -- the stack isn't empty before the last machine; the stack at the first is this one, and this transfer is due
  abbrev pub KeepsFrame : Transfer → List Frame → List Machine → Type 0
  KeepsFrame due frames run = (i : ℕ) → i + 1 < length run → frames_from image due frames run i ≢ []

  -- from the delay instruction of the return: one step, and the frame is popped
  from_last : (i : ℕ) (m : Machine) (rest : List Machine) (frame : Frame) → i + 1 ≡ count → IsAt i m → RunsFrom image costs m rest
      → KeepsFrame Returns (frame ∷ []) (m ∷ rest) → IsRest entry count most i (m ∷ rest)
  from_last i m [] frame last here steps ends =
      rest_cons entry count most i m [] (λ _. here.pc) (spent_within i m (omega arith) here) (rest_none entry count most (i + 1) (omega arith))
  from_last i m (next ∷ rest) frame last here steps ends =
      let at : Passed image only_computes (entry + 4 * i) = passed image only_computes (entry + 4 * i) (s.compute i (omega arith) (λ e. omega arith)) in
      let goes : GoesOn costs (instruction_of at.this) m next =
      computed image costs steps.0.free m next (instruction_of at.this) at.holds (step_at image costs (entry + 4 * i) at.this m next steps.0 here.pc at.word) in
      let spent : next.cycles ≤ start + code_cost image costs entry (i + 1) = spent_behind i m next at.this here at.word goes.cycles in
      let within : next.cycles ≤ most = omega (arith, spent, cost_within image costs entry (i + 1) count (omega arith)) in
      let none : rest ≡ [] = go rest ends in
      rest_cons entry count most i m (next ∷ rest) (λ _. here.pc) (spent_within i m (omega arith) here)
      (subst (λ (r : List Machine). IsRest entry count most (i + 1) (next ∷ r)) (sym none)
      (rest_cons entry count most (i + 1) next [] (λ h. absurd (omega arith)) within (rest_none entry count most (i + 1 + 1) (omega arith)))) where
        go : (r : List Machine) → KeepsFrame Returns (frame ∷ []) (m ∷ next ∷ r) → r ≡ []
        go [] k = refl
        go (x ∷ r) k = absurd (k (suc zero) (omega arith) refl)

  -- from any place before that
  pub from_place : (i : ℕ) (m : Machine) (rest : List Machine) (frame : Frame) → i + 2 ≤ count → IsAt i m → m.npc ≡ entry + 4 * (i + 1)
      → RunsFrom image costs m rest → KeepsFrame Stays (frame ∷ []) (m ∷ rest) → IsRest entry count most i (m ∷ rest)
  from_place i m [] frame before here behind steps ends =
      rest_cons entry count most i m [] (λ _. here.pc) (spent_within i m (omega arith) here) (rest_none entry count most (i + 1) (omega arith))
  from_place i m (next ∷ rest) frame before here behind steps ends =
      let within = s.within in
      rest_cons entry count most i m (next ∷ rest) (λ _. here.pc) (spent_within i m (omega arith) here)
      (elim (eq-or-lt_of_le before) [
        | inl leaves ↦
            let place : count - 2 ≡ i = omega arith in
            let code : code_word image (entry + 4 * i) ≡ Some return_word = ap (λ (k : ℕ). code_word image (entry + 4 * k)) (sym place) ∙ s.leave in
            let is : instruction_of return_word ≡ leaf_return = the_return in
            let stepped = step_at image costs (entry + 4 * i) return_word m next steps.0 here.pc code in
            let goes : GoesSomewhere costs leaf_return m next =
            jumps costs leaf_return m next 0 _ (subst (λ (x : Instr). performed image costs steps.0.free m x ≡ Stepped next) is stepped) in
            let spends : next.cycles ≡ m.cycles + step_cost costs m.loaded (instruction_of return_word) false =
            goes.cycles ∙ ap (λ (x : Instr). m.cycles + step_cost costs m.loaded x false) (sym is) in
            let loaded : next.loaded ≡ mask_of (registers_loaded (instruction_of return_word)) =
            goes.loaded ∙ ap (λ (x : Instr). mask_of (registers_loaded x)) (sym is) in
            let transfer : transfer_of image m ≡ Returns =
            transfer_at image (entry + 4 * i) return_word m here.pc code
            ∙ ap (λ (x : Instr). transfer_from m (Some x) (instruction_at image ((m.pc + 4) % 2 ^ 32))) is in
            from_last (i + 1) next rest frame (omega arith)
            (record { pc = goes.pc ∙ behind; spent = spent_behind i m next return_word here code spends; behind = behind_word i next return_word code loaded })
            steps.1 (λ k h. subst (λ (t : Transfer). frames_from image t (frame ∷ []) (next ∷ rest) k ≢ []) transfer (ends (suc k) (omega arith)))
        | inr earlier ↦
            let at : Passed image only_computes (entry + 4 * i) = passed image only_computes (entry + 4 * i) (s.compute i (omega arith) (λ e. omega arith)) in
            let goes : GoesOn costs (instruction_of at.this) m next =
            computed image costs steps.0.free m next (instruction_of at.this) at.holds
            (step_at image costs (entry + 4 * i) at.this m next steps.0 here.pc at.word) in
            let transfer : transfer_of image m ≡ Stays = transfer_at image (entry + 4 * i) at.this m here.pc at.word ∙ stays m _ _ at.holds in
            from_place (i + 1) next rest frame (omega arith)
            (record {
              pc = goes.pc ∙ behind;
              spent = spent_behind i m next at.this here at.word goes.cycles;
              behind = behind_word i next at.this at.word goes.loaded;
            })
            (let n = goes.npc in omega arith)
            steps.1 (λ k h. subst (λ (t : Transfer). frames_from image t (frame ∷ []) (next ∷ rest) k ≢ []) transfer (ends (suc k) (omega arith)))
      ])
