-- Where a frame stands: the program point of a machine in its frame, and what the facts say there.
use Rattle.std.specs.Prelude.{◌≡◌, ℕ, ◌+◌, ◌-◌, ◌%◌, ◌^◌, ◌<◌, ◌⊎◌, Bool, true, false, List, [], ◌∷◌, Option, Some, None, is_some, slice_index, if◌then◌else◌}
use Rattle.abs_state.specs.State.{State}
use Rattle.abs_state.specs.declared.key.Key.TheVariants as key
use Rattle.abs_state.specs.declared.key.Next.{Next}
use Rattle.abs_state.specs.declared.key.Next.TheVariants.{At, Into, Back}
use Rattle.abs_state.specs.declared.key.Place.{Place}
use Rattle.call_effects.specs.Cell.{cell_of}
use Rattle.call_effects.specs.Mask.{has_cell, after_call, is_within}
use Rattle.call_effects.specs.declared.summary.Summary.{Summary as Effects}
use Rattle.cell_places.specs.Place.{window_at, content_of}
use Rattle.sparc_machine.specs.Frame.{Frame, Transfer, Stays, Calls, Returns}
use Rattle.sparc_machine.specs.Machine.{IsMachine}
use Rattle.sparc_machine.specs.Register.{physical_of}
use Rattle.sparc_machine.specs.Straight.{code_instruction, passes}
use Rattle.sparc_machine.specs.declared.machine.Machine.{Machine}
use Rattle.sparc_runs.specs.Going.{skips}
use Rattle.sparc_runs.specs.Window.{depth_from}
use Rattle.state_covers.specs.Covers.{Covers}
use Rattle.transfer_rules.specs.Fact.{state_in, effects_in}
use Rattle.transfer_rules.specs.Give.{Facts}

-- where control goes behind the instruction of a machine: into a subprogram behind the delay instruction of a call, back
-- behind that of a return, and else to the next address
abbrev pub next_of : Transfer → ℕ → Next
next_of Stays npc = At npc
next_of (Calls target address) npc = Into target
next_of Returns npc = Back

-- the program point of a machine in its frame, with a transfer due
abbrev pub place_of : Transfer → Frame → Machine → Place
place_of due F m = record { sub = F.sub; pc = m.pc; next = next_of due m.npc; depth = depth_from F.start.cwp m.cwp }

-- the program point at which a frame waits for the one that it called: the delay instruction of the call
abbrev pub waiting_place : Frame → Frame → Place
waiting_place F G = record { sub = F.sub; pc = (G.caller + 4) % 2 ^ 32; next = Into G.sub; depth = depth_from F.start.cwp G.start.cwp }

-- what nothing does
abbrev pub no_effects : Effects
no_effects = record { returns = false; skips = false; written = 0 }

abbrev pub effects_or_none : Option Effects → Effects
effects_or_none None = no_effects
effects_or_none (Some effects) = effects

-- what a subprogram may do to its caller: nothing where the facts have no summary of it
abbrev pub summary_in : Facts → ℕ → Effects
summary_in x sub = effects_or_none (effects_in (x (key.Summary sub)))

-- how many bytes behind the call a return at a machine leads, by the instruction before it
abbrev pub returns_by : List ℕ → Machine → ℕ
returns_by image m = if passes skips (code_instruction image ((m.pc + 2 ^ 32 - 4) % 2 ^ 32)) then 12 else 8

-- where the transfer that is due leads: a call to its target, and a return behind the frame's call
abbrev pub LeadsOn : List ℕ → Transfer → Frame → Machine → Type 0
LeadsOn image Stays F m = Unit {0}
LeadsOn image (Calls target address) F m = m.npc ≡ target
LeadsOn image Returns F m = m.npc ≡ (F.caller + returns_by image m) % 2 ^ 32

-- a state stands at the program point of a machine and covers it
pub record Stands (image : List ℕ) (facts : Facts) (due : Transfer) (F : Frame) (m : Machine) : Type 0 where
  pub state : State
  pub is : state_in (facts (key.Node (place_of due F m))) ≡ Some state
  pub shallow : depth_from F.start.cwp m.cwp < 2
  pub covers : Covers state (depth_from F.start.cwp m.cwp) F m
  pub leads : LeadsOn image due F m

-- the cells of a frame that the one that it called may write
abbrev pub lent : Facts → Frame → Frame → ℕ
lent x F G = after_call (summary_in x G.sub).written (depth_from F.start.cwp G.start.cwp)

-- each other cell of the frame holds what it held when that was pushed
abbrev pub IsKept : Facts → Frame → Frame → Machine → Type 0
IsKept x F G m = (c : ℕ) → c < 48 → has_cell (lent x F G) c ≡ false → content_of m F.start.cwp c ≡ content_of G.start F.start.cwp c

-- a frame waits for the one that it called: a state stands at the delay instruction of its call, and it keeps its cells
pub record Waits (facts x : Facts) (F G : Frame) (m : Machine) : Type 0 where
  pub state : State
  pub is : state_in (facts (key.Node (waiting_place F G))) ≡ Some state
  pub called : is_some (facts (key.Call (waiting_place F G) G.sub)) ≡ true
  pub shallow : depth_from F.start.cwp G.start.cwp < 2
  pub kept : IsKept x F G m

-- the facts at each stack of frames, its top first
abbrev pub StackFacts : Type 0
StackFacts = List Frame → Facts

-- each frame below the top waits for the one above it
abbrev pub AreWaiting : StackFacts → Facts → Frame → List Frame → Machine → Type 0
AreWaiting y x top [] m = Unit {0}
AreWaiting y x top (below ∷ rest) m = Waits (y (below ∷ rest)) x below top m × AreWaiting y x below rest m

-- whether a subprogram comes back behind its call, or skips a word there
abbrev pub comes_back : Effects → Bool → Bool
comes_back effects false = effects.returns
comes_back effects true = effects.skips

-- how many bytes behind the call it comes back
abbrev pub behind_by : Bool → ℕ
behind_by false = 8
behind_by true = 12

-- a machine has come back from a frame into the one that called it
pub record IsBack (x : Facts) (F G : Frame) (skip : Bool) (m : Machine) : Type 0 where
  pub machine : IsMachine m
  pub comes : comes_back (summary_in x G.sub) skip ≡ true
  pub pc : m.pc ≡ (G.caller + behind_by skip) % 2 ^ 32
  pub npc : m.npc ≡ (G.caller + behind_by skip + 4) % 2 ^ 32
  pub window : m.cwp ≡ G.start.cwp
  pub kept : IsKept x F G m

-- it goes on there along an edge, and a state stands there
pub record GoesOn (image : List ℕ) (facts : Facts) (F G : Frame) (m : Machine) : Type 0 where
  pub edge : is_some (facts (key.Edge (waiting_place F G) (place_of Stays F m))) ≡ true
  pub stands : Stands image facts Stays F m

-- whatever machine comes back goes on
abbrev pub Backs : List ℕ → Facts → Facts → Frame → Frame → Type 0
Backs image facts x F G = (m : Machine) (skip : Bool) → IsBack x F G skip m → GoesOn image facts F G m

-- what a frame may write of the one that called it, the caller may write
abbrev pub HandsOn : Facts → Frame → Frame → Type 0
HandsOn x F G = is_within (lent x F G) (summary_in x F.sub).written ≡ true

-- each frame below the top goes on behind its call, and may write what the one above may write of it
pub record Hangs (image : List ℕ) (facts x : Facts) (F G : Frame) : Type 0 where
  pub backs : Backs image facts x F G
  pub hands : HandsOn x F G

abbrev pub AreHanging : List ℕ → StackFacts → Facts → Frame → List Frame → Type 0
AreHanging image y x top [] = Unit {0}
AreHanging image y x top (below ∷ rest) = Hangs image (y (below ∷ rest)) x below top × AreHanging image y x below rest

-- a register that a frame's step wrote: in the window behind it, in a cell that the frame may write
pub record IsWritten (mask cwp depth place : ℕ) : Type 0 where
  pub register : ℕ
  pub within : register < 32
  pub is : physical_of (window_at cwp depth) register ≡ place
  pub has : has_cell mask (cell_of depth register) ≡ true

-- a step of a frame writes only registers of the window behind it, in cells that the frame may write
abbrev pub WritesCells : Facts → Frame → Machine → Machine → Type 0
WritesCells x F m next =
    (place : ℕ) → (slice_index next.regs place ≡ slice_index m.regs place)
    ⊎ IsWritten (summary_in x F.sub).written F.start.cwp (depth_from F.start.cwp next.cwp) place
