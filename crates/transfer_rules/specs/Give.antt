-- What a program point gives over the facts.
use Rattle.std.specs.Prelude.{◌==◌, ℕ, ◌+◌, ◌%◌, ◌^◌, Bool, true, false, not, ◌&&◌, List, [], ◌∷◌, ◌++◌, map, Option, Some, None, if◌then◌else◌, nat_lt}
use Rattle.std.specs.List.{flat_map, list_any}
use Rattle.call_effects.specs.Cell.{cell_of}
use Rattle.call_effects.specs.Mask.{with_cell, after_call}
use Rattle.call_effects.specs.Summary.{effects_of_stub}
use Rattle.call_effects.specs.declared.summary.Summary.{Summary as Effects}
use Rattle.value_lattice.specs.Least.{top}
use Rattle.value_lattice.specs.Test.{is_at_most as is_value_at_most}
use Rattle.value_lattice.specs.Value.{is_ret}
use Rattle.value_lattice.specs.declared.value.Value.{Value}
use Rattle.value_lattice.specs.declared.value.Value.TheVariants.{Ret}
use Rattle.abs_state.specs.State.{State, cell_at, entry_state, with_cell as with_value, without}
use Rattle.abs_state.specs.declared.key.GapKind.{GapKind}
use Rattle.abs_state.specs.declared.key.GapKind.TheVariants as why
use Rattle.abs_state.specs.declared.key.Key.{Key}
use Rattle.abs_state.specs.declared.key.Key.TheVariants as key
use Rattle.abs_state.specs.declared.key.Next.{Next}
use Rattle.abs_state.specs.declared.key.Next.TheVariants.{At, Into, Back}
use Rattle.abs_state.specs.declared.key.Place.{Place}
use Rattle.transfer_rules.specs.Fact.{Piece, state_in, effects_in}
use Rattle.jump_resolve.specs.declared.resolved.Resolved.{Resolved}
use Rattle.transfer_rules.specs.Family.{Family, Program}
use Rattle.transfer_rules.specs.declared.act.Act.{Act}
use Rattle.transfer_rules.specs.declared.act.Act.TheVariants.{Dead, Open, Acts}
use Rattle.transfer_rules.specs.declared.act.Exit.{Exit}
use Rattle.transfer_rules.specs.declared.act.Way.{Way}
use Rattle.transfer_rules.specs.declared.act.Way.TheVariants.{Onward, Forks, CallsTo, JumpsTo, ReturnsBy}
use Rattle.transfer_rules.specs.declared.fact.Fact.{Fact}
use Rattle.transfer_rules.specs.declared.fact.Fact.TheVariants as fact
use Rattle.transfer_rules.specs.declared.step.Step.{Step}
use Rattle.transfer_rules.specs.declared.step.Write.{Write}

-- a state of the system: a function that gives the fact at each key, if there is one
abbrev pub Facts : Type 0
Facts = Key → Option Fact

-- an address so far behind another, modulo 2 ^ 32
abbrev pub behind : ℕ → ℕ → ℕ
behind a n = (a + n) % 2 ^ 32

-- the pieces of what there is
abbrev pub pieces_of : {A : Type 0} → Option A → (A → List Piece) → List Piece
pieces_of None give = []
pieces_of (Some a) give = give a

-- whether what is written to a cell changes anything: cell 0 stays
abbrev pub is_written : ℕ → Bool
is_written c = not (c == 0) && nat_lt c 48

-- the cells that a step writes
abbrev pub mask_of_write : Option Write → ℕ → ℕ
mask_of_write None mask = mask
mask_of_write (Some w) mask = if is_written w.cell then with_cell mask w.cell else mask

abbrev pub mask_of : Step → ℕ
mask_of step = mask_of_write step.second (mask_of_write step.first 0)

-- what a subprogram may do, piece by piece
abbrev pub effects : ℕ → Bool → Bool → ℕ → Piece
effects sub returns skips written = (key.Summary sub, fact.Sum (record { returns = returns; skips = skips; written = written }))

-- what isn't followed there
abbrev pub gap : Place → GapKind → Piece
gap p kind = (key.Gap p.sub p.pc kind, fact.Mark)

-- the step from one place to another, and the state there
abbrev pub goes : Place → Place → State → List Piece
goes p q s = (key.Node q, fact.State s) ∷ (key.Edge p q, fact.Mark) ∷ []

-- another place of the same subprogram
abbrev pub place : Place → ℕ → Next → ℕ → Place
place p pc next depth = record { sub = p.sub; pc = pc; next = next; depth = depth }

-- a place and the one after it, at an address and the next
abbrev pub onward : Place → ℕ → ℕ → Place
onward p pc depth = place p pc (At (behind pc 4)) depth

-- the registers of the arguments: %o0 to %o5 and %g1 to %g7
abbrev pub argument_registers : List ℕ
argument_registers = 8 ∷ 9 ∷ 10 ∷ 11 ∷ 12 ∷ 13 ∷ 1 ∷ 2 ∷ 3 ∷ 4 ∷ 5 ∷ 6 ∷ 7 ∷ []

-- a value as another frame sees it: the return address of one frame is any word for another
abbrev pub handed : Value → Value
handed v = if is_ret v then top else v

-- the arguments that a call at a depth hands on
abbrev pub arguments : ℕ → State → List Value
arguments depth s = map (λ r. handed (cell_at s (cell_of depth r))) argument_registers

-- a state with the cells of these registers written, one after the other
abbrev pub with_each : State → List ℕ → List Value → State
with_each s [] values = s
with_each s (r ∷ rs) [] = s
with_each s (r ∷ rs) (v ∷ vs) = with_each (with_value s r v) rs vs

-- the state at the entry of a subprogram that is called with these arguments
abbrev pub entered_with : List Value → State
entered_with values = with_each entry_state argument_registers values

-- the place of a subprogram's entry
abbrev pub entry_of : ℕ → Place
entry_of sub = record { sub = sub; pc = sub; next = At (behind sub 4); depth = 0 }

-- the pieces, where something is so
abbrev pub given_if : Bool → List Piece → List Piece
given_if true pieces = pieces
given_if false pieces = []

-- Behind a call: to the address behind its delay instruction where the callee returns, and to the one after that where
-- it skips a word. The cells that it may write are any word.
abbrev pub called : Place → ℕ → Effects → State → List Piece
called p depth callee s =
    given_if callee.returns (goes p (onward p (behind p.pc 4) depth) (without s (after_call callee.written depth)))
    ++ given_if callee.skips (goes p (onward p (behind p.pc 8) depth) (without s (after_call callee.written depth)))

-- the pieces of the same subprogram behind a step, to where control was to go
abbrev pub here_to : Next → Place → ℕ → Option Effects → State → List Piece
here_to (At n) p depth callee s = goes p (onward p n depth) s
here_to (Into t) p depth callee s = pieces_of callee (λ there. called p depth there s)
here_to Back p depth callee s = []

-- what a call may do to the subprogram that makes it
abbrev pub called_effects : Place → ℕ → Effects → List Piece
called_effects p depth there = effects p.sub false false (after_call there.written depth) ∷ []

-- what it says of the subprogram, and of what it calls
abbrev pub beside_to : Next → Program → Place → ℕ → Option Effects → State → List Piece
beside_to (At n) m p depth callee s = []
beside_to (Into t) m p depth callee s = (key.Call p t, fact.Args (arguments depth s)) ∷ pieces_of callee (called_effects p depth)
beside_to Back m p depth callee s = if depth == 0 then effects p.sub (not (m.skips p)) (m.skips p) 0 ∷ [] else gap p why.Instr ∷ []

-- the entry of what it calls, unless that is a stub
abbrev pub entered_to : Next → Program → ℕ → State → List Piece
entered_to (At n) m depth s = []
entered_to (Into t) m depth s = given_if (not (m.is_stub t)) ((key.Node (entry_of t), fact.State (entered_with (arguments depth s))) ∷ [])
entered_to Back m depth s = []

-- a direction of a branch
abbrev pub exits : Family → Place → Option Exit → State → List Piece
exits f p None s = []
exits f p (Some exit) s = pieces_of (f.test exit.test s) (goes p (place p exit.pc (At exit.npc) p.depth))

-- behind the delay instruction
abbrev pub delayed : Place → Next → Place
delayed p next = place p (behind p.pc 4) next p.depth

-- a call isn't followed to the address behind its delay instruction
abbrev pub is_behind : Place → ℕ → Bool
is_behind p t = t == behind p.pc 8

-- whether all targets of a call are followed
abbrev pub is_known : Place → Resolved → Bool
is_known p targets = targets.whole && not (list_any (is_behind p) targets.list)

-- into a subprogram, and to an address, once the delay instruction is done
abbrev pub called_to : Place → State → ℕ → List Piece
called_to p s t = given_if (not (is_behind p t)) (goes p (delayed p (Into t)) s)

abbrev pub jumped_to : Place → State → ℕ → List Piece
jumped_to p s t = goes p (delayed p (At t)) s

-- the pieces of the same subprogram, of a state before a step and the one behind it
abbrev pub here : Family → Place → Step → Way → Option Effects → State → State → List Piece
here f p step Onward callee before s = here_to p.next p step.depth callee s
here f p step (Forks first second) callee before s = exits f p first s ++ exits f p second s
here f p step (CallsTo aim) callee before s = flat_map (called_to p s) (f.resolve p.pc aim before).list
here f p step (JumpsTo aim) callee before s = flat_map (jumped_to p s) (f.resolve p.pc aim before).list
here f p step (ReturnsBy c) callee before s = given_if (is_value_at_most Ret (cell_at before c)) (goes p (delayed p Back) s)

-- what is said of the subprogram and of what it calls
abbrev pub beside : Family → Program → Place → Step → Way → Option Effects → State → State → List Piece
beside f m p step Onward callee before s = beside_to p.next m p step.depth callee s
beside f m p step (Forks first second) callee before s = []
beside f m p step (CallsTo aim) callee before s = given_if (not (is_known p (f.resolve p.pc aim before))) (gap p why.Call ∷ [])
beside f m p step (JumpsTo aim) callee before s = given_if (not (f.resolve p.pc aim before).whole) (gap p why.Jump ∷ [])
beside f m p step (ReturnsBy c) callee before s = given_if (not (is_ret (cell_at before c))) (gap p why.Jump ∷ [])

-- the entries of what is called
abbrev pub entered : Program → Place → Step → Way → State → List Piece
entered m p step Onward s = entered_to p.next m step.depth s
entered m p step (Forks first second) s = []
entered m p step (CallsTo aim) s = []
entered m p step (JumpsTo aim) s = []
entered m p step (ReturnsBy c) s = []

-- The pieces of an act in three lists: what is said of the subprogram and of what it calls, the pieces of the same
-- subprogram, and the entries of what is called. Whatever comes of the step, its cells are written.
abbrev pub act_beside : Family → Program → Place → Act → Option Effects → State → List Piece
act_beside f m p Dead callee s = []
act_beside f m p (Open kind) callee s = gap p kind ∷ []
act_beside f m p (Acts step way) callee s = effects p.sub false false (mask_of step) ∷ pieces_of (f.step step s) (beside f m p step way callee s)

abbrev pub act_here : Family → Place → Act → Option Effects → State → List Piece
act_here f p Dead callee s = []
act_here f p (Open kind) callee s = []
act_here f p (Acts step way) callee s = pieces_of (f.step step s) (here f p step way callee s)

abbrev pub act_entered : Family → Program → Place → Act → State → List Piece
act_entered f m p Dead s = []
act_entered f m p (Open kind) s = []
act_entered f m p (Acts step way) s = pieces_of (f.step step s) (entered m p step way)

-- all that an act gives, of a state that the assertions allow
abbrev pub act_gives : Family → Program → Place → Act → Option Effects → State → List Piece
act_gives f m p act callee s = act_beside f m p act callee s ++ (act_here f p act callee s ++ act_entered f m p act s)

-- what a place gives, of a state and of what its callee may do
abbrev pub node_gives : Family → Program → Place → Option Effects → State → List Piece
node_gives f m p callee s = pieces_of (f.narrow p s) (act_gives f m p (m.act p) callee)

-- what the subprogram that a place calls may do
abbrev pub callee_of : Next → Facts → Option Effects
callee_of (At n) x = None
callee_of (Into t) x = effects_in (x (key.Summary t))
callee_of Back x = None

-- what a key gives over the facts: only program points give anything
abbrev pub gives : Family → Program → Key → Facts → List Piece
gives f m (key.Node p) x = pieces_of (state_in (x (key.Node p))) (node_gives f m p (callee_of p.next x))
gives f m (key.Edge p q) x = []
gives f m (key.Call p t) x = []
gives f m (key.Summary sub) x = []
gives f m (key.Gap sub pc kind) x = []

-- the keys whose facts it looks at
abbrev pub callee_key : Next → List Key
callee_key (At n) = []
callee_key (Into t) = key.Summary t ∷ []
callee_key Back = []

abbrev pub reads : Key → List Key
reads (key.Node p) = key.Node p ∷ callee_key p.next
reads (key.Edge p q) = key.Edge p q ∷ []
reads (key.Call p t) = key.Call p t ∷ []
reads (key.Summary sub) = key.Summary sub ∷ []
reads (key.Gap sub pc kind) = key.Gap sub pc kind ∷ []

-- only program points count
abbrev pub is_counted : Key → Bool
is_counted (key.Node p) = true
is_counted (key.Edge p q) = false
is_counted (key.Call p t) = false
is_counted (key.Summary sub) = false
is_counted (key.Gap sub pc kind) = false

-- where everything begins: at the entries of the roots, and with what the stubs may do
abbrev pub starts : Program → List Piece
starts m =
    map (λ root. (key.Node (entry_of root), fact.State entry_state)) m.roots
    ++ map (λ stub. (key.Summary stub, fact.Sum effects_of_stub)) m.stubs
