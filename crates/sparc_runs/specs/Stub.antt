-- What is asked of a subprogram that isn't looked into: how its frame is popped.
use Rattle.std.specs.Prelude.{◌≡◌, ℕ, ◌+◌, ◌%◌, ◌^◌, ◌<◌, ◌≤◌, List, ◌∷◌, true, slice_index, Contains}
use Rattle.sparc_machine.specs.Frame.{Frame, Config, Stays, Returns, StepsTo, transfer_of}
use Rattle.sparc_machine.specs.Register.{physical_of}
use Rattle.sparc_machine.specs.Straight.{code_instruction, passes}
use Rattle.sparc_machine.specs.declared.machine.Machine.{Machine}
use Rattle.sparc_runs.specs.High.{AreHigh, root_window}
use Rattle.sparc_runs.specs.Running.{IsRunning, is_call}
use Rattle.sparc_runs.specs.Window.{depth_from}

-- At its pop a frame has come back behind its call, in the window that it was pushed in. The registers r16 to r31 are as at
-- the push, in that window and in each above it up to the one in which the root was entered.
pub record StubReturns (root : ℕ) (F : Frame) (m : Machine) : Type 0 where
  pub pc : m.pc ≡ (F.caller + 8) % 2 ^ 32
  pub window : m.cwp ≡ F.start.cwp
  pub kept : (k r : ℕ) → k ≤ depth_from root F.start.cwp → 16 ≤ r → r < 32
      → slice_index m.regs (physical_of ((F.start.cwp + k) % 8) r) ≡ slice_index F.start.regs (physical_of ((F.start.cwp + k) % 8) r)

-- and since its push at most so many cycles have passed, those of the delay instruction of its return among them
pub record StubKeeps (root time : ℕ) (F : Frame) (m : Machine) : Type 0 where
  pub returns : StubReturns root F m
  pub spends : m.cycles ≤ F.start.cycles + time

-- Where a frame is popped behind its call, nothing is due there and the next instruction is the one behind that: a transfer in
-- the delay slot of the return would have to stand behind the call, but the word there is the call's.
pub record GoesOnBehind (image : List ℕ) (F : Frame) (c : Config) (next : Machine) : Type 0 where
  pub npc : next.npc ≡ (F.caller + 12) % 2 ^ 32
  pub due : transfer_of image c.machine ≡ Stays

abbrev pub PopsBehindCallsGoOn : Type 0
PopsBehindCallsGoOn =
    (image cycles : List ℕ) (invalid : ℕ) (c : Config) (next : Machine) (F : Frame) → IsRunning image invalid c → c.due ≡ Returns
    → StepsTo image cycles c.machine next
    → F.caller < 2 ^ 32 → passes is_call (code_instruction image F.caller) ≡ true → next.pc ≡ (F.caller + 8) % 2 ^ 32 → GoesOnBehind image F c next

-- where windows are high, a stub leaves r16 to r31 of the window of each frame below it
abbrev pub StubsKeepFramesBelow : Type 0
StubsKeepFramesBelow =
    (invalid : ℕ) (F : Frame) (rest : List Frame) (m : Machine) → invalid < 8 → AreHigh invalid (F ∷ rest) → StubReturns (root_window F rest) F m
    → (G : Frame) → Contains (F ∷ rest) G → (r : ℕ) → 16 ≤ r → r < 32
    → slice_index m.regs (physical_of G.start.cwp r) ≡ slice_index F.start.regs (physical_of G.start.cwp r)
