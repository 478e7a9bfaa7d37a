-- The acts agree with how the frames of a run read the words: which steps are calls, returns, or stay in their frame.
use Rattle.std.specs.Prelude.{◌≡◌, ℕ, Bool, List}
use Rattle.abs_state.specs.declared.key.Place.{Place}
use Rattle.assert_bind.specs.declared.body.BoundAssertion.{BoundAssertion}
use Rattle.sparc_machine.specs.Frame.{Transfer, Stays, Calls, Returns, transfer_of}
use Rattle.sparc_machine.specs.declared.machine.Machine.{Machine}
use Rattle.transfer_acts.specs.Act.{act_at}
use Rattle.transfer_rules.specs.declared.act.Act.TheVariants.{Acts}
use Rattle.transfer_rules.specs.declared.act.Aim.{Aim}
use Rattle.transfer_rules.specs.declared.act.Aim.TheVariants.{Fixed, Computed}
use Rattle.transfer_rules.specs.declared.act.Way.{Way}
use Rattle.transfer_rules.specs.declared.act.Way.TheVariants.{Onward, Forks, CallsTo, JumpsTo, ReturnsBy}
use Rattle.transfer_rules.specs.declared.step.Step.{Step}

-- a step from an address is a call with this aim: to the one target, where it is fixed
abbrev pub IsCallTo : Aim → ℕ → Transfer → Type 0
IsCallTo (Fixed target) pc transfer = transfer ≡ Calls target pc
IsCallTo (Computed left right candidates) pc transfer = (target : ℕ) × (transfer ≡ Calls target pc)

-- what a step from an address does to the stack of frames is what the way says
abbrev pub Agrees : Way → ℕ → Transfer → Type 0
Agrees Onward pc transfer = transfer ≡ Stays
Agrees (Forks first second) pc transfer = transfer ≡ Stays
Agrees (CallsTo aim) pc transfer = IsCallTo aim pc transfer
Agrees (JumpsTo aim) pc transfer = transfer ≡ Stays
Agrees (ReturnsBy cell) pc transfer = transfer ≡ Returns

-- so it is at each place
abbrev pub ActsAgreeWithFrames : Type 0
ActsAgreeWithFrames =
    (image : List ℕ) (binding : List BoundAssertion) (eight : Bool) (p : Place) (step : Step) (way : Way) (m : Machine)
    → act_at image binding eight p ≡ Acts step way → m.pc ≡ p.pc → Agrees way m.pc (transfer_of image m)
