-- What an instruction costs by a table of cycles.
use Rattle.std.specs.Prelude.{◌==◌, ℕ, ◌+◌, Bool, if◌then◌else◌, List, bit_and}
use Rattle.cycle_table.specs.Class.{cost_at}
use Rattle.sparc_decode.specs.CostClass.{class_of}
use Rattle.sparc_decode.specs.declared.cost_class.CostClass.TheVariants.{Annulled, Loaduse}
use Rattle.sparc_decode.specs.Register.{mask_of, registers_read}
use Rattle.sparc_decode.specs.declared.instruction.Instr.{Instr}

-- the cost of its class, which is 0 where that isn't modelled or the table's version hasn't it, and that of an annulled one where it annuls
abbrev pub cost_of : List ℕ → Instr → Bool → ℕ
cost_of costs instruction annulled =
    if annulled then cost_at costs (class_of instruction) + cost_at costs Annulled else cost_at costs (class_of instruction)

-- what an instruction costs more where it reads a register among those that the one before it loaded, which are a set
-- as bits; a table of version 1 has no such cost
abbrev pub pair_of : List ℕ → ℕ → Instr → ℕ
pair_of costs loaded instruction =
    if bit_and loaded (mask_of (registers_read instruction)) == 0 then 0 else cost_at costs Loaduse
