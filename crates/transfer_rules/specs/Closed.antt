-- What a closed state has behind an instruction that it has a program point for.
use Rattle.std.specs.Prelude.{◌≡◌, ℕ, true, false, not, List, Option, Some, Contains}
use Rattle.call_effects.specs.Mask.{after_call}
use Rattle.call_effects.specs.Summary.{effects_of_stub, is_at_most as are_effects_at_most}
use Rattle.call_effects.specs.declared.summary.Summary.{Summary as Effects}
use Rattle.value_lattice.specs.Height.{are_at_most}
use Rattle.value_lattice.specs.Test.{is_at_most as is_value_at_most}
use Rattle.value_lattice.specs.Value.{is_ret}
use Rattle.value_lattice.specs.declared.value.Value.{Value}
use Rattle.value_lattice.specs.declared.value.Value.TheVariants.{Ret}
use Rattle.abs_state.specs.State.{State, cell_at, entry_state, is_at_most as is_state_at_most, without}
use Rattle.abs_state.specs.declared.key.GapKind.{GapKind}
use Rattle.abs_state.specs.declared.key.GapKind.TheVariants as why
use Rattle.abs_state.specs.declared.key.Key.{Key}
use Rattle.abs_state.specs.declared.key.Key.TheVariants as key
use Rattle.abs_state.specs.declared.key.Next.TheVariants.{At, Into, Back}
use Rattle.abs_state.specs.declared.key.Place.{Place}
use Rattle.flow_system.specs.State.{ContainsPiece, IsClosed}
use Rattle.transfer_rules.specs.Family.{Family, Program}
use Rattle.transfer_rules.specs.Give.{Facts, arguments, behind, beside, callee_of, delayed, entered, entered_with, entry_of, here, is_behind}
use Rattle.transfer_rules.specs.Give.{is_known, mask_of, onward, place}
use Rattle.transfer_rules.specs.Lawful.{rules_of}
use Rattle.transfer_rules.specs.declared.act.Act.TheVariants.{Acts, Open}
use Rattle.transfer_rules.specs.declared.act.Aim.{Aim}
use Rattle.transfer_rules.specs.declared.act.Exit.{Exit}
use Rattle.transfer_rules.specs.declared.act.Way.{Way}
use Rattle.transfer_rules.specs.declared.act.Way.TheVariants.{Onward, Forks, CallsTo, JumpsTo, ReturnsBy}
use Rattle.transfer_rules.specs.declared.fact.Fact.{Fact}
use Rattle.transfer_rules.specs.declared.fact.Fact.TheVariants as fact
use Rattle.transfer_rules.specs.declared.step.Step.{Step}

-- the facts have a program point, and the assertions allow this of its state
pub record IsAllowed (f : Family) (x : Facts) (p : Place) (before : State) : Type 0 where
  pub state : State
  pub found : x (key.Node p) ≡ Some (fact.State state)
  pub narrowed : f.narrow p state ≡ Some before

-- its instruction is a step and a way, and this is behind the step
pub record IsTaken (f : Family) (m : Program) (x : Facts) (p : Place) (step : Step) (way : Way) (before after : State) : Type 0 where
  pub allowed : IsAllowed f x p before
  pub act : m.act p ≡ Acts step way
  pub stepped : f.step step before ≡ Some after

-- there is an edge from the one program point to the other, whose state is at least this one
pub record LeadsTo (x : Facts) (p q : Place) (s : State) : Type 0 where
  pub state : State
  pub found : x (key.Node q) ≡ Some (fact.State state)
  pub above : is_state_at_most s state ≡ true
  pub edge : x (key.Edge p q) ≡ Some fact.Mark

-- the facts say that the subprogram may do this
pub record Says (x : Facts) (sub : ℕ) (effects : Effects) : Type 0 where
  pub all : Effects
  pub found : x (key.Summary sub) ≡ Some (fact.Sum all)
  pub above : are_effects_at_most effects all ≡ true

-- the facts have a call with at least these arguments
pub record HasCall (x : Facts) (p : Place) (t : ℕ) (list : List Value) : Type 0 where
  pub all : List Value
  pub found : x (key.Call p t) ≡ Some (fact.Args all)
  pub above : are_at_most list all ≡ true

-- the facts have a program point with at least this state
pub record HasState (x : Facts) (p : Place) (s : State) : Type 0 where
  pub state : State
  pub found : x (key.Node p) ≡ Some (fact.State state)
  pub above : is_state_at_most s state ≡ true

-- a closed state has the three lists of a place: what is said beside, the places of the same subprogram, and the entries
pub record ClosedHasThree : Type 0 where
  pub beside : (t : List ℕ) (f : Family) (m : Program) (x : Facts) (p : Place) (step : Step) (way : Way) (before after : State) → IsClosed (rules_of t f m) x
      → IsTaken f m x p step way before after → (k : Key) (v : Fact) → Contains (beside f m p step way (callee_of p.next x) before after) (k, v)
      → ContainsPiece (rules_of t f m) x k v
  pub here : (t : List ℕ) (f : Family) (m : Program) (x : Facts) (p : Place) (step : Step) (way : Way) (before after : State) → IsClosed (rules_of t f m) x
      → IsTaken f m x p step way before after → (k : Key) (v : Fact) → Contains (here f p step way (callee_of p.next x) before after) (k, v)
      → ContainsPiece (rules_of t f m) x k v
  pub entered : (t : List ℕ) (f : Family) (m : Program) (x : Facts) (p : Place) (step : Step) (way : Way) (before after : State) → IsClosed (rules_of t f m) x
      → IsTaken f m x p step way before after → (k : Key) (v : Fact) → Contains (entered m p step way after) (k, v) → ContainsPiece (rules_of t f m) x k v

-- in a closed state an instruction leads on
pub record ClosedLeadsOn : Type 0 where
  -- to where control was to go
  pub onward : (t : List ℕ) (f : Family) (m : Program) (x : Facts) (p : Place) (n : ℕ) (step : Step) (before after : State) → IsClosed (rules_of t f m) x
      → IsTaken f m x p step Onward before after → p.next ≡ At n → LeadsTo x p (onward p n step.depth) after
  -- in the directions of a branch
  pub first : (t : List ℕ) (f : Family) (m : Program) (x : Facts) (p : Place) (step : Step) (exit : Exit) (other : Option Exit) (before after s : State)
      → IsClosed (rules_of t f m) x → IsTaken f m x p step (Forks (Some exit) other) before after → f.test exit.test after ≡ Some s
      → LeadsTo x p (place p exit.pc (At exit.npc) p.depth) s
  pub second : (t : List ℕ) (f : Family) (m : Program) (x : Facts) (p : Place) (step : Step) (exit : Exit) (other : Option Exit) (before after s : State)
      → IsClosed (rules_of t f m) x → IsTaken f m x p step (Forks other (Some exit)) before after → f.test exit.test after ≡ Some s
      → LeadsTo x p (place p exit.pc (At exit.npc) p.depth) s
  -- to the delay instruction of a call, a jump and a return
  pub calls : (t : List ℕ) (f : Family) (m : Program) (x : Facts) (p : Place) (target : ℕ) (step : Step) (aim : Aim) (before after : State)
      → IsClosed (rules_of t f m) x → IsTaken f m x p step (CallsTo aim) before after → Contains (f.resolve p.pc aim before).list target
      → is_behind p target ≡ false → LeadsTo x p (delayed p (Into target)) after
  pub jumps : (t : List ℕ) (f : Family) (m : Program) (x : Facts) (p : Place) (target : ℕ) (step : Step) (aim : Aim) (before after : State)
      → IsClosed (rules_of t f m) x → IsTaken f m x p step (JumpsTo aim) before after → Contains (f.resolve p.pc aim before).list target
      → LeadsTo x p (delayed p (At target)) after
  pub returns : (t : List ℕ) (f : Family) (m : Program) (x : Facts) (p : Place) (c : ℕ) (step : Step) (before after : State) → IsClosed (rules_of t f m) x
      → IsTaken f m x p step (ReturnsBy c) before after → is_value_at_most Ret (cell_at before c) ≡ true → LeadsTo x p (delayed p Back) after

-- in a closed state there is a gap where not all is known
pub record ClosedHasGaps : Type 0 where
  pub unfollowed : (t : List ℕ) (f : Family) (m : Program) (x : Facts) (p : Place) (kind : GapKind) (before : State) → IsClosed (rules_of t f m) x
      → IsAllowed f x p before → m.act p ≡ Open kind → x (key.Gap p.sub p.pc kind) ≡ Some fact.Mark
  pub calls : (t : List ℕ) (f : Family) (m : Program) (x : Facts) (p : Place) (step : Step) (aim : Aim) (before after : State) → IsClosed (rules_of t f m) x
      → IsTaken f m x p step (CallsTo aim) before after → is_known p (f.resolve p.pc aim before) ≡ false → x (key.Gap p.sub p.pc why.Call) ≡ Some fact.Mark
  pub jumps : (t : List ℕ) (f : Family) (m : Program) (x : Facts) (p : Place) (step : Step) (aim : Aim) (before after : State) → IsClosed (rules_of t f m) x
      → IsTaken f m x p step (JumpsTo aim) before after → (f.resolve p.pc aim before).whole ≡ false → x (key.Gap p.sub p.pc why.Jump) ≡ Some fact.Mark
  pub returns : (t : List ℕ) (f : Family) (m : Program) (x : Facts) (p : Place) (c : ℕ) (step : Step) (before after : State) → IsClosed (rules_of t f m) x
      → IsTaken f m x p step (ReturnsBy c) before after → is_ret (cell_at before c) ≡ false → x (key.Gap p.sub p.pc why.Jump) ≡ Some fact.Mark
  pub deep : (t : List ℕ) (f : Family) (m : Program) (x : Facts) (p : Place) (step : Step) (before after : State) → IsClosed (rules_of t f m) x
      → IsTaken f m x p step Onward before after → p.next ≡ Back → (step.depth ≡ 0 → ⊥) → x (key.Gap p.sub p.pc why.Instr) ≡ Some fact.Mark

-- in a closed state a delay instruction of a call makes the call, enters what is called, and comes back from it
pub record ClosedCalls : Type 0 where
  pub call : (t : List ℕ) (f : Family) (m : Program) (x : Facts) (p : Place) (target : ℕ) (step : Step) (before after : State) → IsClosed (rules_of t f m) x
      → IsTaken f m x p step Onward before after → p.next ≡ Into target → HasCall x p target (arguments step.depth after)
  pub enters : (t : List ℕ) (f : Family) (m : Program) (x : Facts) (p : Place) (target : ℕ) (step : Step) (before after : State) → IsClosed (rules_of t f m) x
      → IsTaken f m x p step Onward before after → p.next ≡ Into target → m.is_stub target ≡ false
      → HasState x (entry_of target) (entered_with (arguments step.depth after))
  pub returns : (t : List ℕ) (f : Family) (m : Program) (x : Facts) (p : Place) (target : ℕ) (step : Step) (before after : State) (there : Effects)
      → IsClosed (rules_of t f m) x → IsTaken f m x p step Onward before after → p.next ≡ Into target → x (key.Summary target) ≡ Some (fact.Sum there)
      → there.returns ≡ true → LeadsTo x p (onward p (behind p.pc 4) step.depth) (without after (after_call there.written step.depth))
  pub skips : (t : List ℕ) (f : Family) (m : Program) (x : Facts) (p : Place) (target : ℕ) (step : Step) (before after : State) (there : Effects)
      → IsClosed (rules_of t f m) x → IsTaken f m x p step Onward before after → p.next ≡ Into target → x (key.Summary target) ≡ Some (fact.Sum there)
      → there.skips ≡ true → LeadsTo x p (onward p (behind p.pc 8) step.depth) (without after (after_call there.written step.depth))

-- in a closed state a subprogram's summary has what its instructions write, and its calls, and how it comes back
pub record ClosedSays : Type 0 where
  pub writes : (t : List ℕ) (f : Family) (m : Program) (x : Facts) (p : Place) (step : Step) (way : Way) (before : State) → IsClosed (rules_of t f m) x
      → IsAllowed f x p before → m.act p ≡ Acts step way → Says x p.sub (record { returns = false; skips = false; written = mask_of step })
  pub calls : (t : List ℕ) (f : Family) (m : Program) (x : Facts) (p : Place) (target : ℕ) (step : Step) (before after : State) (there : Effects)
      → IsClosed (rules_of t f m) x → IsTaken f m x p step Onward before after → p.next ≡ Into target → x (key.Summary target) ≡ Some (fact.Sum there)
      → Says x p.sub (record { returns = false; skips = false; written = after_call there.written step.depth })
  pub back : (t : List ℕ) (f : Family) (m : Program) (x : Facts) (p : Place) (step : Step) (before after : State) → IsClosed (rules_of t f m) x
      → IsTaken f m x p step Onward before after → p.next ≡ Back → step.depth ≡ 0
      → Says x p.sub (record { returns = not (m.skips p); skips = m.skips p; written = 0 })

-- a closed state has the entries of the roots, with what is known at an entry, and what the stubs may do
pub record ClosedStarts : Type 0 where
  pub roots : (t : List ℕ) (f : Family) (m : Program) (x : Facts) (root : ℕ) → IsClosed (rules_of t f m) x → Contains m.roots root
      → HasState x (entry_of root) entry_state
  pub stubs : (t : List ℕ) (f : Family) (m : Program) (x : Facts) (stub : ℕ) → IsClosed (rules_of t f m) x → Contains m.stubs stub → Says x stub effects_of_stub
