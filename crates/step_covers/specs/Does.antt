-- What an act of a place says of a step of the machine there: what cells and condition codes are behind it, and where it goes
-- on to.
use Rattle.std.specs.Prelude.{◌≡◌, ℕ, ◌+◌, ◌%◌, ◌^◌, ◌<◌, ◌⊎◌, Bool, false, List, Option, Some, None, if◌then◌else◌}
use Rattle.abs_state.specs.declared.flags.Right.{Right}
use Rattle.abs_state.specs.declared.key.Place.{Place}
use Rattle.assert_bind.specs.declared.body.BoundAssertion.{BoundAssertion}
use Rattle.bt_image.specs.Refusal.{first_refusal}
use Rattle.cell_places.specs.Place.{IsAtDepth, content_of}
use Rattle.sparc_machine.specs.Effect.{flags_in}
use Rattle.sparc_machine.specs.Frame.{StepsTo, instruction_at}
use Rattle.sparc_machine.specs.Machine.{IsMachine}
use Rattle.sparc_machine.specs.declared.machine.Machine.{Machine}
use Rattle.sparc_runs.specs.Going.{StandsAt}
use Rattle.sparc_runs.specs.Sound.{AreBytes}
use Rattle.step_covers.specs.Follows.{IsOperandIn, FollowsIn}
use Rattle.step_covers.specs.Says.{IsTaken}
use Rattle.transfer_acts.specs.Act.{act_at}
use Rattle.transfer_acts.specs.Reading.{is_skip}
use Rattle.transfer_rules.specs.declared.act.Act.TheVariants.{Acts}
use Rattle.transfer_rules.specs.declared.act.Aim.{Aim}
use Rattle.transfer_rules.specs.declared.act.Aim.TheVariants.{Fixed, Computed}
use Rattle.transfer_rules.specs.declared.act.Exit.{Exit}
use Rattle.transfer_rules.specs.declared.act.Way.{Way}
use Rattle.transfer_rules.specs.declared.act.Way.TheVariants.{Onward, Forks, CallsTo, JumpsTo, ReturnsBy}
use Rattle.transfer_rules.specs.declared.step.Step.{Step}
use Rattle.word_ops.specs.Word.{sum_of}
use Rattle.word_ops.specs.declared.arithmetic.Flags.{Flags}

-- an address is the sum of what two operands come to, and a multiple of 4
pub record IsSumIn (contents : ℕ → ℕ) (left right : Right) (target : ℕ) : Type 0 where
  pub first : ℕ
  pub second : ℕ
  pub is_first : IsOperandIn contents left first
  pub is_second : IsOperandIn contents right second
  pub is : target ≡ sum_of first second false
  pub aligned : target % 4 ≡ 0

-- a transfer goes to an address, where the cells hold these
abbrev pub AimsAt : Aim → (ℕ → ℕ) → ℕ → Type 0
AimsAt (Fixed t) contents target = target ≡ t
AimsAt (Computed left right candidates) contents target = IsSumIn contents left right target

-- to the delay instruction, and from there to where a transfer goes
pub record Jumps (aim : Aim) (contents : ℕ → ℕ) (m next : Machine) : Type 0 where
  pub pc : next.pc ≡ (m.pc + 4) % 2 ^ 32
  pub aims : AimsAt aim contents next.npc

-- to the delay instruction, and from there behind the call whose address a cell holds: by eight bytes, or by twelve where the
-- return skips a word
pub record GoesBack (image : List ℕ) (cell : ℕ) (contents : ℕ → ℕ) (m next : Machine) : Type 0 where
  pub near : cell < 48
  pub pc : next.pc ≡ (m.pc + 4) % 2 ^ 32
  pub back : next.npc ≡ (contents cell + (if is_skip (instruction_at image m.pc) then 12 else 8)) % 2 ^ 32

-- a direction of a branch is taken
abbrev pub ExitLeads : Option Exit → Flags → Machine → Type 0
ExitLeads None f next = ⊥
ExitLeads (Some exit) f next = StandsAt exit.pc exit.npc next × IsTaken exit.test f

-- a machine goes on to the next by this way, where the cells hold these and the condition codes are these
abbrev pub WayLeads : List ℕ → Way → (ℕ → ℕ) → Flags → Machine → Machine → Type 0
WayLeads image Onward contents f m next = StandsAt m.npc ((m.npc + 4) % 2 ^ 32) next
WayLeads image (Forks first second) contents f m next = ExitLeads first f next ⊎ ExitLeads second f next
WayLeads image (CallsTo aim) contents f m next = Jumps aim contents m next
WayLeads image (JumpsTo aim) contents f m next = Jumps aim contents m next
WayLeads image (ReturnsBy cell) contents f m next = GoesBack image cell contents m next

-- a step of the machine does what an act says, as the cells of the frame that was entered in a window
pub record Does (image : List ℕ) (step : Step) (way : Way) (cwp : ℕ) (m next : Machine) : Type 0 where
  pub follows : FollowsIn image step cwp m next
  pub leads : WayLeads image way (content_of m cwp) (flags_in m) m next

-- a machine over an accepted image stands at a place, in a frame that was entered in a window
pub record IsHere (image : List ℕ) (p : Place) (cwp : ℕ) (m : Machine) : Type 0 where
  pub accepted : first_refusal image ≡ None
  pub bytes : AreBytes image
  pub machine : IsMachine m
  pub at : IsAtDepth cwp p.depth m
  pub pc : m.pc ≡ p.pc

-- each step of the machine does what the act of its place says, if that says anything
abbrev pub StepsDoActs : Type 0
StepsDoActs =
    (image cycles : List ℕ) (binding : List BoundAssertion) (eight : Bool) (p : Place) (step : Step) (way : Way) (cwp : ℕ) (m next : Machine)
    → IsHere image p cwp m → act_at image binding eight p ≡ Acts step way → StepsTo image cycles m next → Does image step way cwp m next
