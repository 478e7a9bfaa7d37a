-- What the facts of a frame answer: where each of its program points leads, and what is said of subprograms and of gaps.
use Rattle.std.specs.Prelude.{◌≡◌, ℕ, Bool, true, false, not, List, ◌∷◌, Option, Some, None, Contains, IfSome}
use Rattle.abs_state.specs.State.{State, cell_at, is_state_over, without}
use Rattle.abs_state.specs.declared.key.GapKind.{GapKind}
use Rattle.abs_state.specs.declared.key.GapKind.TheVariants as why
use Rattle.abs_state.specs.declared.key.Key.TheVariants as key
use Rattle.abs_state.specs.declared.key.Next.TheVariants.{At, Into, Back}
use Rattle.abs_state.specs.declared.key.Place.{Place}
use Rattle.assert_bind.specs.Binding.{listed}
use Rattle.assert_bind.specs.Index.{IsSound}
use Rattle.assert_bind.specs.declared.body.BoundAssertion.{BoundAssertion}
use Rattle.bt_image.specs.Image.{is_code}
use Rattle.bt_image.specs.Refusal.{first_refusal}
use Rattle.call_effects.specs.Mask.{after_call}
use Rattle.call_effects.specs.Summary.{effects_of_stub, is_at_most}
use Rattle.call_effects.specs.declared.summary.Summary.{Summary as Effects}
use Rattle.flow_system.specs.State.{IsClosed}
use Rattle.sparc_machine.specs.Frame.{Frame}
use Rattle.sparc_runs.specs.Sound.{AreBytes}
use Rattle.stack_laws.specs.Standing.{StackFacts, summary_in, waiting_place}
use Rattle.stack_laws.specs.StepFacts.{StepFacts}
use Rattle.transfer_acts.specs.Program.{program_of}
use Rattle.transfer_acts.specs.Reading.{is_stub}
use Rattle.transfer_rules.specs.Closed.{HasCall, HasState, IsAllowed, IsTaken, LeadsTo, Says}
use Rattle.transfer_rules.specs.Family.{Family, Program}
use Rattle.transfer_rules.specs.Give.{Facts, arguments, behind, delayed, entered_with, entry_of, is_behind, is_known, mask_of, onward, place}
use Rattle.transfer_rules.specs.Lawful.{rules_of}
use Rattle.transfer_rules.specs.declared.act.Act.TheVariants.{Acts, Open}
use Rattle.transfer_rules.specs.declared.act.Aim.{Aim}
use Rattle.transfer_rules.specs.declared.act.Exit.{Exit}
use Rattle.transfer_rules.specs.declared.act.Way.{Way}
use Rattle.transfer_rules.specs.declared.act.Way.TheVariants.{Onward, Forks, CallsTo, JumpsTo, ReturnsBy}
use Rattle.transfer_rules.specs.declared.fact.Fact.TheVariants as fact
use Rattle.transfer_rules.specs.declared.step.Step.{Step}
use Rattle.transfer_values.specs.Family.{family}
use Rattle.transfer_values.specs.Resolve.{widest}
use Rattle.value_lattice.specs.Thresholds.{IsThresholds}
use Rattle.value_lattice.specs.Test.{is_at_most as is_value_at_most}
use Rattle.value_lattice.specs.Value.{is_ret}
use Rattle.value_lattice.specs.declared.value.Value.TheVariants.{Ret}

-- The program points of `facts` lead on within them, and what the rules say of subprograms and gaps is said in `x`. So the
-- facts may be those of one context, and `x` those of the whole program.
pub record Answers (t : List ℕ) (f : Family) (m : Program) (facts x : Facts) : Type 0 where
  pub over : (p : Place) (s : State) → facts (key.Node p) ≡ Some (fact.State s) → is_state_over t s ≡ true
  pub goes_on : (p : Place) (n : ℕ) (step : Step) (before after : State) → IsTaken f m facts p step Onward before after → p.next ≡ At n
      → LeadsTo facts p (onward p n step.depth) after
  pub first : (p : Place) (step : Step) (exit : Exit) (other : Option Exit) (before after s : State)
      → IsTaken f m facts p step (Forks (Some exit) other) before after → f.test exit.test after ≡ Some s
      → LeadsTo facts p (place p exit.pc (At exit.npc) p.depth) s
  pub second : (p : Place) (step : Step) (exit : Exit) (other : Option Exit) (before after s : State)
      → IsTaken f m facts p step (Forks other (Some exit)) before after → f.test exit.test after ≡ Some s
      → LeadsTo facts p (place p exit.pc (At exit.npc) p.depth) s
  pub calls : (p : Place) (target : ℕ) (step : Step) (aim : Aim) (before after : State) → IsTaken f m facts p step (CallsTo aim) before after
      → Contains (f.resolve p.pc aim before).list target → is_behind p target ≡ false → LeadsTo facts p (delayed p (Into target)) after
  pub jumps : (p : Place) (target : ℕ) (step : Step) (aim : Aim) (before after : State) → IsTaken f m facts p step (JumpsTo aim) before after
      → Contains (f.resolve p.pc aim before).list target → LeadsTo facts p (delayed p (At target)) after
  pub returns : (p : Place) (c : ℕ) (step : Step) (before after : State) → IsTaken f m facts p step (ReturnsBy c) before after
      → is_value_at_most Ret (cell_at before c) ≡ true → LeadsTo facts p (delayed p Back) after
  pub makes_call : (p : Place) (target : ℕ) (step : Step) (before after : State) → IsTaken f m facts p step Onward before after → p.next ≡ Into target
      → HasCall facts p target (arguments step.depth after)
  pub comes_back : (p : Place) (target : ℕ) (step : Step) (before after : State) (there : Effects) → IsTaken f m facts p step Onward before after
      → p.next ≡ Into target → x (key.Summary target) ≡ Some (fact.Sum there) → there.returns ≡ true
      → LeadsTo facts p (onward p (behind p.pc 4) step.depth) (without after (after_call there.written step.depth))
  pub skips : (p : Place) (target : ℕ) (step : Step) (before after : State) (there : Effects) → IsTaken f m facts p step Onward before after
      → p.next ≡ Into target → x (key.Summary target) ≡ Some (fact.Sum there) → there.skips ≡ true
      → LeadsTo facts p (onward p (behind p.pc 8) step.depth) (without after (after_call there.written step.depth))
  pub unfollowed : (p : Place) (kind : GapKind) (before : State) → IsAllowed f facts p before → m.act p ≡ Open kind
      → x (key.Gap p.sub p.pc kind) ≡ Some fact.Mark
  pub unknown_calls : (p : Place) (step : Step) (aim : Aim) (before after : State) → IsTaken f m facts p step (CallsTo aim) before after
      → is_known p (f.resolve p.pc aim before) ≡ false → x (key.Gap p.sub p.pc why.Call) ≡ Some fact.Mark
  pub unknown_jumps : (p : Place) (step : Step) (aim : Aim) (before after : State) → IsTaken f m facts p step (JumpsTo aim) before after
      → (f.resolve p.pc aim before).whole ≡ false → x (key.Gap p.sub p.pc why.Jump) ≡ Some fact.Mark
  pub unknown_returns : (p : Place) (c : ℕ) (step : Step) (before after : State) → IsTaken f m facts p step (ReturnsBy c) before after
      → is_ret (cell_at before c) ≡ false → x (key.Gap p.sub p.pc why.Jump) ≡ Some fact.Mark
  pub deep : (p : Place) (step : Step) (before after : State) → IsTaken f m facts p step Onward before after → p.next ≡ Back → (step.depth ≡ 0 → ⊥)
      → x (key.Gap p.sub p.pc why.Instr) ≡ Some fact.Mark
  pub writes : (p : Place) (step : Step) (way : Way) (before : State) → IsAllowed f facts p before → m.act p ≡ Acts step way
      → Says x p.sub (record { returns = false; skips = false; written = mask_of step })
  pub says_calls : (p : Place) (target : ℕ) (step : Step) (before after : State) (there : Effects) → IsTaken f m facts p step Onward before after
      → p.next ≡ Into target → x (key.Summary target) ≡ Some (fact.Sum there)
      → Says x p.sub (record { returns = false; skips = false; written = after_call there.written step.depth })
  pub says_back : (p : Place) (step : Step) (before after : State) → IsTaken f m facts p step Onward before after → p.next ≡ Back → step.depth ≡ 0
      → Says x p.sub (record { returns = not (m.skips p); skips = m.skips p; written = 0 })

-- an image that is accepted, and assertions that are bound to it
pub record IsBound (image : List ℕ) (list : List BoundAssertion) : Type 0 where
  pub accepted : first_refusal image ≡ None
  pub bytes : AreBytes image
  pub sound : IsSound list
  pub code : (pc a : ℕ) → IfSome (listed list pc) (λ to. Contains to a → is_code image a ≡ true)

-- The facts at each stack of frames answer, over thresholds of their own; they enter what is called; and stubs say what they may
-- do.
pub record AreGraphs (image : List ℕ) (list : List BoundAssertion) (eight : Bool) (y : StackFacts) (x : Facts) : Type 0 where
  pub thresholds : List Frame → List ℕ
  pub are : (stack : List Frame) → IsThresholds (thresholds stack)
  pub answers : (stack : List Frame)
      → Answers (thresholds stack) (family (thresholds stack) image list) (program_of image list eight (widest image list)) (y stack) x
  pub enters : (F G : Frame) (rest : List Frame) (step : Step) (before after : State)
      → IsTaken (family (thresholds (F ∷ rest)) image list) (program_of image list eight (widest image list)) (y (F ∷ rest)) (waiting_place F G) step Onward
      before after → is_stub list G.sub ≡ false → HasState (y (G ∷ F ∷ rest)) (entry_of G.sub) (entered_with (arguments step.depth after))
  pub stubs : (target : ℕ) → is_stub list target ≡ true → is_at_most effects_of_stub (summary_in x target) ≡ true

-- then each step of a run shows what the law of the stack asks of the facts
abbrev pub GraphsCoverSteps : Type 0
GraphsCoverSteps =
    (image costs : List ℕ) (list : List BoundAssertion) (eight : Bool) (y : StackFacts) (x : Facts) → IsBound image list → AreGraphs image list eight y x
    → StepFacts image costs list y x

-- so do the facts of a closed state, at every stack
abbrev pub ClosedStatesCoverSteps : Type 0
ClosedStatesCoverSteps =
    (t image costs : List ℕ) (list : List BoundAssertion) (eight : Bool) (x : Facts) → IsBound image list → IsThresholds t
    → IsClosed (rules_of t (family t image list) (program_of image list eight (widest image list))) x → StepFacts image costs list (λ stack. x) x
