-- A worked run of ten machines over an accepted file: a constant is loaded from code and compared, an annulling branch that
-- isn't taken passes its delay instruction over, a branch that is taken executes its own, and a difference is taken.
use Rattle.std.specs.Prelude.{◌≡◌, ℕ, false, true, List, [], ◌∷◌, ◌++◌, replicate, slice_set, Option, Some, None}
use Rattle.std.specs.Option.{option_and_then}
use Rattle.abs_state.specs.State.{State, entry_state}
use Rattle.abs_state.specs.declared.flags.Flags.TheVariants.{Cmp}
use Rattle.abs_state.specs.declared.flags.Right.TheVariants.{Cell, Word}
use Rattle.abs_state.specs.declared.key.Next.TheVariants.{At}
use Rattle.abs_state.specs.declared.key.Place.{Place}
use Rattle.bt_image.specs.Refusal.{first_refusal}
use Rattle.sparc_machine.specs.Frame.{BeginsAt, StepsTo, root_frame}
use Rattle.sparc_machine.specs.declared.machine.Machine.{Machine}
use Rattle.step_covers.specs.Covered.{IsCoveredSome}
use Rattle.step_covers.specs.Does.{Does, IsHere}
use Rattle.transfer_acts.specs.Act.{act_at}
use Rattle.transfer_acts.specs.Step.{nothing, sets}
use Rattle.transfer_rules.specs.declared.act.Act.TheVariants.{Acts}
use Rattle.transfer_rules.specs.declared.act.Test.{Test}
use Rattle.transfer_rules.specs.declared.act.Test.TheVariants.{Always, When}
use Rattle.transfer_rules.specs.declared.act.Way.{Way}
use Rattle.transfer_rules.specs.declared.act.Way.TheVariants.{Onward, Forks}
use Rattle.transfer_rules.specs.declared.step.Source.TheVariants.{Applied, Exactly, Loaded}
use Rattle.transfer_rules.specs.declared.step.Step.{Step}
use Rattle.transfer_values.specs.Step.{stepped}
use Rattle.transfer_values.specs.Test.{tested}
use Rattle.value_ops.specs.declared.op.Op.TheVariants.{Add, Sub}

-- the header of an executable for SPARC: its one section header begins at 52
abbrev pub file_header : List ℕ
file_header =
    0x7f ∷ 0x45 ∷ 0x4c ∷ 0x46 ∷ 1 ∷ 2 ∷ replicate 10 0 ++ 0 ∷ 2 ∷ 0 ∷ 2 ∷ replicate 12 0 ++ 0 ∷ 0 ∷ 0 ∷ 52 ∷ replicate 10 0 ++ 0 ∷ 40 ∷ 0 ∷ 1 ∷ 0 ∷ 0 ∷ []

-- a section of type PROGBITS that is allocated and executable: 56 bytes at address 4096, from place 92 of the file on
abbrev pub section_header : List ℕ
section_header = replicate 7 0 ++ 1 ∷ 0 ∷ 0 ∷ 0 ∷ 6 ∷ 0 ∷ 0 ∷ 16 ∷ 0 ∷ 0 ∷ 0 ∷ 0 ∷ 92 ∷ 0 ∷ 0 ∷ 0 ∷ 56 ∷ replicate 16 0

-- its words: sethi %hi(4096), %o0; ld [%o0 + 36], %o1; cmp %o1, 7; bne,a 4124; add %o1, 1, %o1; be 4136; add %o1, 1, %o2;
-- two nops and the constant 7; at 4136 sub %o2, %o1, %o3 and three nops
abbrev pub code : List ℕ
code =
    0x11 ∷ 0x00 ∷ 0x00 ∷ 0x04 ∷ 0xd2 ∷ 0x02 ∷ 0x20 ∷ 0x24 ∷ 0x80 ∷ 0xa2 ∷ 0x60 ∷ 0x07 ∷ 0x32 ∷ 0x80 ∷ 0x00 ∷ 0x04
    ∷ 0x92 ∷ 0x02 ∷ 0x60 ∷ 0x01 ∷ 0x02 ∷ 0x80 ∷ 0x00 ∷ 0x05 ∷ 0x94 ∷ 0x02 ∷ 0x60 ∷ 0x01 ∷ 0x01 ∷ 0x00 ∷ 0x00 ∷ 0x00
    ∷ 0x01 ∷ 0x00 ∷ 0x00 ∷ 0x00 ∷ 0x00 ∷ 0x00 ∷ 0x00 ∷ 0x07 ∷ 0x96 ∷ 0x22 ∷ 0x80 ∷ 0x09 ∷ 0x01 ∷ 0x00 ∷ 0x00 ∷ 0x00
    ∷ 0x01 ∷ 0x00 ∷ 0x00 ∷ 0x00 ∷ 0x01 ∷ 0x00 ∷ 0x00 ∷ 0x00 ∷ []

abbrev pub image : List ℕ
image = file_header ++ section_header ++ code

-- each class of instructions costs one cycle
abbrev pub costs : List ℕ
costs = replicate 30 1

-- thresholds: the ends of the words with sign
abbrev pub thresholds : List ℕ
thresholds = 0 ∷ 4294967295 ∷ []

-- at the entry, in window 0, where window 1 is invalid; all registers hold 0
abbrev pub at_entry : Machine
at_entry = record { regs = replicate 136 0; n = false; z = false; v = false; c = false; pc = 4096; npc = 4100; cwp = 0; wim = 2; cycles = 0; loaded = 0 }

-- r8 has the address of the code, and r9 the constant behind the load
abbrev pub at_load : Machine
at_load = record at_entry { regs = slice_set (replicate 136 0) 8 4096; pc = 4100; npc = 4104; cycles = 1 }

abbrev pub at_compare : Machine
at_compare = record at_load { regs = slice_set (slice_set (replicate 136 0) 8 4096) 9 7; pc = 4104; npc = 4108; cycles = 2; loaded = 512 }

-- it is the word that it is compared with; the comparison reads what the load before it loaded, and so costs one more
abbrev pub at_annulling : Machine
at_annulling = record at_compare { z = true; pc = 4108; npc = 4112; cycles = 4; loaded = 0 }

-- the delay instruction at 4112 is passed over
abbrev pub at_branch : Machine
at_branch = record at_annulling { pc = 4116; npc = 4120; cycles = 6 }

-- that at 4120 is executed
abbrev pub at_delay : Machine
at_delay = record at_branch { pc = 4120; npc = 4136; cycles = 7 }

abbrev pub at_difference : Machine
at_difference = record at_delay { regs = slice_set (slice_set (slice_set (replicate 136 0) 8 4096) 9 7) 10 8; pc = 4136; npc = 4140; cycles = 8 }

abbrev pub at_rest : Machine
at_rest =
    record at_difference {
      regs = slice_set (slice_set (slice_set (slice_set (replicate 136 0) 8 4096) 9 7) 10 8) 11 1;
      pc = 4140;
      npc = 4144;
      cycles = 9;
    }

abbrev pub at_last_but_one : Machine
at_last_but_one = record at_rest { pc = 4144; npc = 4148; cycles = 10 }

abbrev pub at_last : Machine
at_last = record at_rest { pc = 4148; npc = 4152; cycles = 11 }

-- a place of the one subprogram, in the window of its entry
abbrev pub place_at : ℕ → ℕ → Place
place_at pc npc = record { sub = 4096; pc = pc; next = At npc; depth = 0 }

-- a step of the run: what the act of a place is, and how the next machine is reached
pub record IsWorkedStep (p : Place) (step : Step) (way : Way) (m next : Machine) : Type 0 where
  pub here : IsHere image p 0 m
  pub act : act_at image [] false p ≡ Acts step way
  pub steps : StepsTo image costs m next
  pub does : Does image step way 0 m next

-- the directions of the two branches
abbrev pub annulling_way : Way
annulling_way =
    Forks (Some (record { pc = 4112; npc = 4124; test = When 9 true })) (Some (record { pc = 4116; npc = 4120; test = When 9 false }))

abbrev pub branch_way : Way
branch_way = Forks (Some (record { pc = 4120; npc = 4136; test = When 1 true })) (Some (record { pc = 4120; npc = 4124; test = When 1 false }))

-- the steps of the acts
abbrev pub load_step : Step
load_step = sets 0 9 (Loaded (Cell 8) (Word 36)) None

abbrev pub compare_step : Step
compare_step = sets 0 0 (Applied Sub (Cell 9) (Word 7)) (Some (Cmp 9 (Word 7)))

abbrev pub delay_step : Step
delay_step = sets 0 10 (Applied Add (Cell 9) (Word 1)) None

abbrev pub difference_step : Step
difference_step = sets 0 11 (Applied Sub (Cell 10) (Cell 9)) None

abbrev pub rest_step : Step
rest_step = sets 0 0 (Exactly 0) None

-- the state behind a step in a direction of it
abbrev pub goes_on_by : Option State → Step → Test → Option State
goes_on_by o step test = option_and_then (tested thresholds test) (option_and_then (stepped thresholds image step) o)

-- the state that the steps of the run lead to from the entry's
abbrev pub reached : Option State
reached =
    goes_on_by (goes_on_by (goes_on_by (goes_on_by (goes_on_by (goes_on_by (goes_on_by (goes_on_by (goes_on_by (Some entry_state)
    (sets 0 8 (Exactly 4096) None) Always)
    load_step Always)
    compare_step Always)
    (nothing 0) (When 9 false))
    (nothing 0) (When 1 true))
    delay_step Always)
    difference_step Always)
    rest_step Always)
    rest_step Always

-- the run, step by step, and that the state which its steps lead to covers its last machine
pub record WorkedRunIsCovered : Type 0 where
  pub accepted : first_refusal image ≡ None
  pub begins : BeginsAt 4096 at_entry
  pub sets_address : IsWorkedStep (place_at 4096 4100) (sets 0 8 (Exactly 4096) None) Onward at_entry at_load
  pub loads : IsWorkedStep (place_at 4100 4104) load_step Onward at_load at_compare
  pub compares : IsWorkedStep (place_at 4104 4108) compare_step Onward at_compare at_annulling
  pub annuls : IsWorkedStep (place_at 4108 4112) (nothing 0) annulling_way at_annulling at_branch
  pub branches : IsWorkedStep (place_at 4116 4120) (nothing 0) branch_way at_branch at_delay
  pub adds : IsWorkedStep (place_at 4120 4136) delay_step Onward at_delay at_difference
  pub subtracts : IsWorkedStep (place_at 4136 4140) difference_step Onward at_difference at_rest
  pub rests : IsWorkedStep (place_at 4140 4144) rest_step Onward at_rest at_last_but_one
  pub ends : IsWorkedStep (place_at 4144 4148) rest_step Onward at_last_but_one at_last
  pub covered : IsCoveredSome thresholds reached 0 (root_frame at_entry) at_last
