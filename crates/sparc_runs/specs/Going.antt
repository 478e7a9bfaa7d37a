-- Where each instruction goes on to (SPARC Architecture Manual Version 7, "Instructions": control transfer).
use Rattle.std.specs.Prelude.{◌==◌, ◌≡◌, ℕ, ◌+◌, ◌*◌, ◌%◌, ◌^◌, ◌⊎◌, Bool, true, false, pos, List, Some, if◌then◌else◌}
use Rattle.std.specs.Ordering.{int_eq}
use Rattle.sparc_decode.specs.declared.instruction.Instr.{Instr}
use Rattle.sparc_decode.specs.declared.instruction.Instr.TheVariants.{Call, Branch, FloatBranch, Jmpl}
use Rattle.sparc_decode.specs.declared.instruction.Second.TheVariants.{Imm}
use Rattle.sparc_machine.specs.Effect.{flags_in, float_taken, target_of, address_in}
use Rattle.sparc_machine.specs.Frame.{StepsTo}
use Rattle.sparc_machine.specs.Machine.{register_of}
use Rattle.sparc_machine.specs.Straight.{code_instruction}
use Rattle.sparc_machine.specs.declared.machine.Machine.{Machine}
use Rattle.sparc_runs.specs.Running.{returns}
use Rattle.word_ops.specs.Condition.{holds_of}

-- the next machine stands at these two addresses
pub record StandsAt (pc npc : ℕ) (next : Machine) : Type 0 where
  pub this : next.pc ≡ pc
  pub after : next.npc ≡ npc

-- a transfer stands in order, and goes on to these two addresses
pub record Leads (m : Machine) (pc npc : ℕ) (next : Machine) : Type 0 where
  pub order : m.npc ≡ (m.pc + 4) % 2 ^ 32
  pub to : StandsAt pc npc next

-- where a branch goes on to, by its annul bit, whether it is always taken, and whether it is taken
abbrev pub BranchLeads : Machine → Bool → Bool → Bool → ℕ → Machine → Type 0
BranchLeads m true true true target next = Leads m target ((target + 4) % 2 ^ 32) next
BranchLeads m false always true target next = Leads m m.npc target next
BranchLeads m true false true target next = Leads m m.npc target next
BranchLeads m true always false target next = Leads m ((m.pc + 8) % 2 ^ 32) ((m.pc + 12) % 2 ^ 32) next
BranchLeads m false always false target next = Leads m m.npc ((m.npc + 4) % 2 ^ 32) next

-- where an instruction goes on to: a call and a jump to their targets behind their delay instructions, a branch by its
-- condition, and any other to the next instruction
abbrev pub Goes : Instr → Machine → Machine → Type 0
Goes (Call disp) m next = Leads m m.npc ((m.pc + disp * 4) % 2 ^ 32) next
Goes (Jmpl rd rs1 second) m next = Leads m m.npc (address_in m rs1 second) next
Goes (Branch annul cond disp) m next = BranchLeads m annul (cond == 8) (holds_of cond (flags_in m)) (target_of m.pc disp) next
Goes (FloatBranch annul cond disp) m next = (free : Bool) × BranchLeads m annul (cond == 8) (float_taken cond free) (target_of m.pc disp) next
Goes _ m next = StandsAt m.npc ((m.npc + 4) % 2 ^ 32) next

-- so each step does
abbrev pub StepsGo : Type 0
StepsGo = (image cycles : List ℕ) (m next : Machine) (i : Instr) → StepsTo image cycles m next → code_instruction image m.pc ≡ Some i → Goes i m next

-- whether a return skips the word behind the call's delay instruction
abbrev pub skips : Instr → Bool
skips (Jmpl rd rs1 (Imm n)) = int_eq n (pos 12)
skips _ = false

-- how many bytes behind its call a return leads
abbrev pub back_by : Instr → ℕ
back_by i = if skips i then 12 else 8

-- the register that a jump starts from
abbrev pub jumps_from : Instr → ℕ
jumps_from (Jmpl rd rs1 second) = rs1
jumps_from _ = 0

-- a return starts from r15 or r31, and leads so far behind what that register has
pub record LeadsBack (m : Machine) (i : Instr) (next : Machine) : Type 0 where
  pub either : (jumps_from i ≡ 15) ⊎ (jumps_from i ≡ 31)
  pub behind : next.npc ≡ (register_of m (jumps_from i) + back_by i) % 2 ^ 32

abbrev pub ReturnsLeadBack : Type 0
ReturnsLeadBack =
    (image cycles : List ℕ) (m next : Machine) (i : Instr) → StepsTo image cycles m next → code_instruction image m.pc ≡ Some i → returns i ≡ true
    → LeadsBack m i next
