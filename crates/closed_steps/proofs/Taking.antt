-- A step of a run, as the rules take it: the act of its place, and the states before and behind it, which cover the machines.
use Rattle.std.proofs.Common.{◌≡◌, ℕ, ◌<◌, Bool, true, false, List, ◌∷◌, Option, Some, None, refl, sym, ap, subst, if◌then◌else◌}
use Rattle.std.specs.Prelude.{is_some}
use Rattle.std.specs.Option.{option_map}
use Rattle.std.proofs.lemmas.Bool.{both_ways}
use Rattle.abs_state.specs.State.{State}
use Rattle.abs_state.specs.declared.key.GapKind.TheVariants as why
use Rattle.abs_state.specs.declared.key.Key.TheVariants as key
use Rattle.abs_state.specs.declared.key.Place.{Place}
use Rattle.assert_bind.specs.Binding.{never}
use Rattle.assert_bind.specs.declared.body.BoundAssertion.{BoundAssertion}
use Rattle.sparc_decode.specs.Instr.{instruction_of}
use Rattle.sparc_decode.specs.declared.instruction.Instr.{Instr}
use Rattle.sparc_machine.specs.Frame.{Frame, Transfer, instruction_at}
use Rattle.sparc_machine.specs.Straight.{code_instruction}
use Rattle.sparc_machine.specs.declared.machine.Machine.{Machine}
use Rattle.sparc_runs.proofs.StepLaws.{keeps_machines}
use Rattle.sparc_runs.proofs.Stepping.{parts}
use Rattle.stack_laws.specs.Standing.{StackFacts, place_of}
use Rattle.stack_laws.specs.StepFacts.{IsTaken as Takes}
use Rattle.step_covers.proofs.CoveredLemmas.{assertions_kept, narrows_cover, steps_cover}
use Rattle.step_covers.proofs.DoLemmas.{steps_do}
use Rattle.step_covers.specs.Covered.{IsCovered, IsCoveredSome}
use Rattle.step_covers.specs.Does.{Does, IsHere}
use Rattle.transfer_acts.proofs.Depths.{place_shallow}
use Rattle.transfer_acts.specs.Act.{act_at, act_of, act_there, behind}
use Rattle.transfer_acts.specs.Program.{IsShallowAct, program_of}
use Rattle.transfer_acts.specs.Reading.{is_stub}
use Rattle.transfer_rules.specs.Closed.{IsAllowed, IsTaken}
use Rattle.transfer_rules.specs.Fact.{state_in}
use Rattle.transfer_rules.specs.Give.{Facts}
use Rattle.transfer_rules.specs.declared.act.Act.{Act}
use Rattle.transfer_rules.specs.declared.act.Act.TheVariants.{Acts, Dead, Open}
use Rattle.transfer_rules.specs.declared.act.Way.{Way}
use Rattle.transfer_rules.specs.declared.fact.Fact.{Fact}
use Rattle.transfer_rules.specs.declared.fact.Fact.TheVariants as fact
use Rattle.transfer_rules.specs.declared.step.Step.{Step}
use Rattle.transfer_values.specs.Family.{family}
use Rattle.transfer_values.specs.Narrow.{narrowed}
use Rattle.transfer_values.specs.Resolve.{widest}
use Rattle.transfer_values.specs.Step.{stepped}
use Rattle.value_lattice.specs.Thresholds.{IsThresholds}
use Rattle.closed_steps.proofs.ActFacts.{acts_are}
use Rattle.closed_steps.specs.Act.{ActIs, StepIs}
use Rattle.closed_steps.specs.Graph.{Answers, IsBound}

-- where there is a state among facts, it is the fact
state_is : (o : Option Fact) (s : State) → state_in o ≡ Some s → o ≡ Some (fact.State s)
state_is None s is = absurd (cc)
state_is (Some (fact.State u)) s is = cc
state_is (Some (fact.Args list)) s is = absurd (cc)
state_is (Some (fact.Sum e)) s is = absurd (cc)
state_is (Some fact.Mark) s is = absurd (cc)

-- a state that there is, and that covers the machine
pub record IsThere (t : List ℕ) (o : Option State) (depth : ℕ) (F : Frame) (m : Machine) : Type 0 where
  pub state : State
  pub is : o ≡ Some state
  pub covers : IsCovered t state depth F m

-- a state that covers is there
pub there : (t : List ℕ) (o : Option State) (depth : ℕ) (F : Frame) (m : Machine) → IsCoveredSome t o depth F m → IsThere t o depth F m
there t None depth F m is = absurd is
there t (Some s) depth F m is = record { state = s; is = refl; covers = is }

-- what the act of a place keeps of its instruction
place_act : (image : List ℕ) (list : List BoundAssertion) (eight : Bool) (p : Place) (i : Instr) → never list p.pc ≡ false
    → code_instruction image p.pc ≡ Some i
    → ActIs p i (act_at image list eight p)
place_act image list eight p i reached code =
    subst (λ (b : Bool). ActIs p i (if b then Dead else act_there list eight p (instruction_at image (behind p.pc 4)) (code_instruction image p.pc)))
    (sym reached)
    (subst (λ (o : Option Instr). ActIs p i (act_there list eight p (instruction_at image (behind p.pc 4)) o)) (sym code) (by (is_stub list p.pc)))
  where
    by : (b : Bool) → ActIs p i (if b then Open why.Jump else act_of eight p (instruction_at image (behind p.pc 4)) i)
    by true = tt
    by false = acts_are eight p (instruction_at image (behind p.pc 4)) i

-- a step, as the rules take it
pub record IsDone (t image : List ℕ) (list : List BoundAssertion) (eight : Bool) (facts : Facts) (p : Place) (F : Frame) (m next : Machine) : Type 0 where
  pub step : Step
  pub way : Way
  pub before : State
  pub after : State
  pub taken : IsTaken (family t image list) (program_of image list eight (widest image list)) facts p step way before after
  pub covers : IsCovered t before p.depth F m
  pub covers_next : IsCovered t after step.depth F next
  pub does : Does image step way F.start.cwp m next
  pub instruction : Instr
  pub code : code_instruction image p.pc ≡ Some instruction
  pub is : StepIs p instruction step way
  pub shallow : step.depth < 2
  pub reached : never list p.pc ≡ false

module _ (t image costs : List ℕ) (list : List BoundAssertion) (eight : Bool) (y : StackFacts) (x : Facts) (bound : IsBound image list)
    (thresholds : IsThresholds t) (invalid : ℕ) (due : Transfer) (top : Frame) (rest : List Frame) (m next : Machine)
    (answers : Answers t (family t image list) (program_of image list eight (widest image list)) (y (top ∷ rest)) x)
    (takes : Takes image costs list y x invalid due top rest m next) where
  here : IsHere image (place_of due top m) top.start.cwp m
  here = record {
    accepted = bound.accepted;
    bytes = bound.bytes;
    machine = takes.running.machine;
    at = record {
      window = takes.entered.machine.window;
      shallow = takes.stands.shallow;
      is = takes.stands.covers.window;
      size = takes.running.machine.registers;
    };
    pc = refl;
  }

  found : y (top ∷ rest) (key.Node (place_of due top m)) ≡ Some (fact.State takes.stands.state)
  found = state_is (y (top ∷ rest) (key.Node (place_of due top m))) takes.stands.state takes.stands.is

  covered : IsCovered t takes.stands.state (place_of due top m).depth top m
  covered = record {
    thresholds = thresholds;
    over = answers.over (place_of due top m) takes.stands.state found;
    machine = takes.running.machine;
    word = takes.entered.word;
    covers = takes.stands.covers;
  }

  -- what the step from a place does there
  pub done : IsDone t image list eight (y (top ∷ rest)) (place_of due top m) top m next
  done =
      let kept = assertions_kept image list (place_of due top m) top.start.cwp m true bound.sound here takes.meets in
      let left = there t (narrowed t list (place_of due top m) takes.stands.state) (place_of due top m).depth top m
      (narrows_cover t list (place_of due top m) takes.stands.state top m covered kept.ranges) in
      let allowed : IsAllowed (family t image list) (y (top ∷ rest)) (place_of due top m) left.state =
      record { state = takes.stands.state; found = found; narrowed = left.is } in
      let s = parts image costs m next takes.steps in
      let code : code_instruction image m.pc ≡ Some (instruction_of s.this) = ap (option_map instruction_of) s.code in
      by_act left.state allowed left.covers (instruction_of s.this) code kept.reached (act_at image list eight (place_of due top m)) refl
      (place_act image list eight (place_of due top m) (instruction_of s.this) kept.reached code)
    where
      by_act : (before : State) → IsAllowed (family t image list) (y (top ∷ rest)) (place_of due top m) before
          → IsCovered t before (place_of due top m).depth top m
          → (i : Instr) → code_instruction image m.pc ≡ Some i → never list m.pc ≡ false
          → (act : Act) → act_at image list eight (place_of due top m) ≡ act → ActIs (place_of due top m) i act
          → IsDone t image list eight (y (top ∷ rest)) (place_of due top m) top m next
      by_act before allowed covers i code reached Dead same is = absurd is
      by_act before allowed covers i code reached (Open kind) same is =
          absurd (both_ways (is_some (x (key.Gap top.sub m.pc kind))) (takes.closed kind)
          (ap is_some (answers.unfollowed (place_of due top m) kind before allowed same)))
      by_act before allowed covers i code reached (Acts step way) same is =
          let machine = keeps_machines image costs m next bound.bytes takes.running.machine takes.steps in
          let does = steps_do image costs list eight (place_of due top m) step way top.start.cwp m next here same takes.steps in
          let after = there t (stepped t image step before) step.depth top next
          (steps_cover t image step way before (place_of due top m).depth top m next covers machine does) in
          record {
            step = step;
            way = way;
            before = before;
            after = after.state;
            taken = record { allowed = allowed; act = same; stepped = after.is };
            covers = covers;
            covers_next = after.covers;
            does = does;
            instruction = i;
            code = code;
            is = is;
            shallow = subst IsShallowAct same (place_shallow image list eight (place_of due top m) takes.stands.shallow);
            reached = reached;
          }
