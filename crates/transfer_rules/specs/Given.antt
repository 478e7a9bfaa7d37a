-- What program points give, in the words of programs.
use Rattle.std.specs.Prelude.{◌≡◌, ℕ, ◌<◌, ◌≤◌, ◌⊎◌, false, List, [], Option, Some, Contains, All}
use Rattle.call_effects.specs.Cell.{cell_of}
use Rattle.call_effects.specs.Mask.{after_call, has_cell}
use Rattle.call_effects.specs.Summary.{effects_of_stub}
use Rattle.call_effects.specs.declared.summary.Summary.{Summary as Effects}
use Rattle.value_lattice.specs.Value.{is_ret}
use Rattle.value_lattice.specs.declared.value.Value.{Value}
use Rattle.abs_state.specs.State.{State, cell_at}
use Rattle.abs_state.specs.declared.flags.Flags.TheVariants.{Unknown}
use Rattle.abs_state.specs.declared.key.GapKind.{GapKind}
use Rattle.abs_state.specs.declared.key.Key.{Key}
use Rattle.abs_state.specs.declared.key.Key.TheVariants as key
use Rattle.abs_state.specs.declared.key.Next.TheVariants.{At, Into}
use Rattle.abs_state.specs.declared.key.Place.{Place}
use Rattle.transfer_rules.specs.Family.{Family, Program}
use Rattle.transfer_rules.specs.Give.{Facts, behind, entry_of, gives, mask_of}
use Rattle.transfer_rules.specs.declared.act.Act.TheVariants.{Acts, Dead, Open}
use Rattle.transfer_rules.specs.declared.act.Aim.{Aim}
use Rattle.transfer_rules.specs.declared.act.Exit.{Exit}
use Rattle.transfer_rules.specs.declared.act.Way.{Way}
use Rattle.transfer_rules.specs.declared.act.Way.TheVariants.{CallsTo, Forks, Onward}
use Rattle.transfer_rules.specs.declared.fact.Fact.{Fact}
use Rattle.transfer_rules.specs.declared.fact.Fact.TheVariants as fact
use Rattle.transfer_rules.specs.declared.step.Step.{Step}

-- only a program point gives anything
abbrev pub OnlyPlacesGive : Type 0
OnlyPlacesGive =
    (f : Family) (m : Program) (k j : Key) (v : Fact) (x : Facts) → Contains (gives f m k x) (j, v) → (p : Place) × (k ≡ key.Node p)

-- a place is the entry of what another one calls
pub record IsEntered (p q : Place) : Type 0 where
  pub callee : ℕ
  pub calls : p.next ≡ Into callee
  pub entry : q ≡ entry_of callee

-- an edge begins at the place that gives it, and leads to a place of the same subprogram that it gives too
pub record IsLed (f : Family) (m : Program) (p a b : Place) (x : Facts) : Type 0 where
  pub from : a ≡ p
  pub sub : b.sub ≡ p.sub
  pub state : State
  pub given : Contains (gives f m (key.Node p) x) (key.Node b, fact.State state)

-- a place has an edge to each place that it gives, but to the entry of what it calls
pub record PlacesHaveEdges : Type 0 where
  pub edges : (f : Family) (m : Program) (p q : Place) (v : Fact) (x : Facts) → Contains (gives f m (key.Node p) x) (key.Node q, v)
      → Contains (gives f m (key.Node p) x) (key.Edge p q, fact.Mark) ⊎ IsEntered p q
  pub places : (f : Family) (m : Program) (p a b : Place) (v : Fact) (x : Facts) → Contains (gives f m (key.Node p) x) (key.Edge a b, v)
      → IsLed f m p a b x

-- the subprogram that a key speaks of
abbrev pub sub_of : Key → ℕ
sub_of (key.Node p) = p.sub
sub_of (key.Edge p q) = p.sub
sub_of (key.Call p t) = p.sub
sub_of (key.Summary sub) = sub
sub_of (key.Gap sub pc kind) = sub

-- what a place gives speaks of its subprogram, but for the entry of what it calls
abbrev pub PlacesSpeakOfTheirs : Type 0
PlacesSpeakOfTheirs =
    (f : Family) (m : Program) (p : Place) (k : Key) (v : Fact) (x : Facts) → Contains (gives f m (key.Node p) x) (k, v)
    → (sub_of k ≡ p.sub) ⊎ ((t : ℕ) × (p.next ≡ Into t) × (k ≡ key.Node (entry_of t)))

-- a place where something isn't followed has no successor: it gives that gap alone; and one where control doesn't come
-- gives nothing
pub record GapsAreEnds : Type 0 where
  pub unfollowed : (f : Family) (m : Program) (p : Place) (kind : GapKind) (k : Key) (v : Fact) (x : Facts) → m.act p ≡ Open kind
      → Contains (gives f m (key.Node p) x) (k, v) → k ≡ key.Gap p.sub p.pc kind
  pub unreached : (f : Family) (m : Program) (p : Place) (x : Facts) → m.act p ≡ Dead → gives f m (key.Node p) x ≡ []

-- a direction leads to a place
pub record IsExit (p q : Place) (exit : Option Exit) : Type 0 where
  pub to : Exit
  pub is : exit ≡ Some to
  pub place : q ≡ record { sub = p.sub; pc = to.pc; next = At to.npc; depth = p.depth }

-- A branch leads to where its directions lead and nowhere else: where it is annulled and untaken, and that direction is to
-- the address behind the delay instruction, never to the delay instruction.
abbrev pub BranchesLeadToExits : Type 0
BranchesLeadToExits =
    (f : Family) (m : Program) (p q : Place) (step : Step) (first second : Option Exit) (v : Fact) (x : Facts) → m.act p ≡ Acts step (Forks first second)
    → Contains (gives f m (key.Node p) x) (key.Node q, v) → IsExit p q first ⊎ IsExit p q second

-- a call enters its delay instruction with a target that isn't the address behind that
abbrev pub CallsEnterDelays : Type 0
CallsEnterDelays =
    (f : Family) (m : Program) (p q : Place) (step : Step) (aim : Aim) (v : Fact) (x : Facts) → m.act p ≡ Acts step (CallsTo aim)
    → Contains (gives f m (key.Node p) x) (key.Node q, v)
    → (t : ℕ) × (t ≡ behind p.pc 8 → ⊥) × (q ≡ record { sub = p.sub; pc = behind p.pc 4; next = Into t; depth = p.depth })

-- a state behind a call: of the cells that the callee may write nothing is known, nor of the condition codes; each other cell
-- is what the delay instruction left
pub record IsBehindCall (f : Family) (p : Place) (step : Step) (there : Effects) (before u : State) : Type 0 where
  pub allowed : State
  pub narrowed : f.narrow p before ≡ Some allowed
  pub after : State
  pub stepped : f.step step allowed ≡ Some after
  pub kept : (c : ℕ) → has_cell (after_call there.written step.depth) c ≡ false → cell_at u c ≡ cell_at after c
  pub flags : u.flags ≡ Unknown

-- what no mask names is kept across a call, and nothing is known of the condition codes
abbrev pub CallsKeepTheRest : Type 0
CallsKeepTheRest =
    (f : Family) (m : Program) (p q : Place) (t : ℕ) (step : Step) (there : Effects) (before u : State) (x : Facts) → p.next ≡ Into t
    → m.act p ≡ Acts step Onward → x (key.Node p) ≡ Some (fact.State before) → x (key.Summary t) ≡ Some (fact.Sum there)
    → Contains (gives f m (key.Node p) x) (key.Node q, fact.State u) → IsEntered p q ⊎ IsBehindCall f p step there before u

-- a stub leaves the local and the in registers of the window in which it is called
abbrev pub StubsKeepLocals : Type 0
StubsKeepLocals = (depth r : ℕ) → depth < 2 → 16 ≤ r → r < 32 → has_cell (after_call effects_of_stub.written depth) (cell_of depth r) ≡ false

-- no argument is handed on as the return address
abbrev pub ArgumentsAreNoReturnAddress : Type 0
ArgumentsAreNoReturnAddress =
    (f : Family) (m : Program) (p from : Place) (t : ℕ) (list : List Value) (x : Facts)
    → Contains (gives f m (key.Node p) x) (key.Call from t, fact.Args list) → All (λ v. is_ret v ≡ false) list

-- what a step writes is said of its subprogram, whatever comes of the step
abbrev pub WritesAreSaid : Type 0
WritesAreSaid =
    (f : Family) (m : Program) (p : Place) (step : Step) (way : Way) (before allowed : State) (x : Facts) → m.act p ≡ Acts step way
    → x (key.Node p) ≡ Some (fact.State before) → f.narrow p before ≡ Some allowed
    → Contains (gives f m (key.Node p) x) (key.Summary p.sub, fact.Sum (record { returns = false; skips = false; written = mask_of step }))
