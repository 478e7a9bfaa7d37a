-- Frames of a run keep to their contexts: each step within a frame is along an edge of its graph and is paid by it, each call is
-- one of the context, and each return goes on along an edge.
use Rattle.std.proofs.Common.{◌≡◌, ℕ, suc, ◌+◌, ◌%◌, ◌^◌, ◌<◌, ◌≤◌, inl, inr, Bool, true, false, List, [], ◌∷◌, ◌++◌, Option, Some, None, refl, sym}
use Rattle.std.proofs.Common.{ap, subst, ◌∙◌, arith}
use Rattle.std.specs.Prelude.{is_some, if◌then◌else◌}
use Rattle.std.specs.Option.{option_map}
use Rattle.abs_state.specs.State.{State}
use Rattle.abs_state.specs.declared.key.Key.TheVariants as key
use Rattle.abs_state.specs.declared.key.Next.TheVariants.{At}
use Rattle.abs_state.specs.declared.key.Place.{Place}
use Rattle.assert_bind.specs.Binding.{stub}
use Rattle.assert_bind.specs.declared.body.BoundAssertion.{BoundAssertion}
use Rattle.context_runs.proofs.Linking.{AreBelow, AreLinked}
use Rattle.context_runs.proofs.Placing.{above_is_free, stub_is_free, called_there, facts_are, followed, follows_step, linked, node_is, running}
use Rattle.context_runs.proofs.Placing.{waits_there, clear_of, window}
use Rattle.context_runs.specs.Contexts.{Contexts, IsCalled, facts_of, follows_from, standing_of}
use Rattle.context_runs.specs.Joined.{AreFrames, IsFrame, IsJoinable, move_of, root_of, run_of}
use Rattle.frame_laws.specs.Activation.{Activation, last_of, stack_at}
use Rattle.frame_laws.specs.Context.{Standing, Stub, In}
use Rattle.frame_laws.specs.Run.{Run, Goes, Calls as CallsIn, Returns as ReturnsTo}
use Rattle.frame_laws.specs.Steps.{AreFollowed, IsAlong, IsCall, IsEntered, PaysEdge, PaysNode}
use Rattle.cycle_table.specs.Class.{cost_at}
use Rattle.sparc_decode.specs.Instr.{instruction_of}
use Rattle.sparc_decode.specs.declared.cost_class.CostClass.TheVariants.{Annulled}
use Rattle.sparc_decode.specs.declared.instruction.Instr.{Instr}
use Rattle.sparc_machine.specs.Frame.{Frame, Transfer, Stays, Calls, Returns, StepsTo, config_at, due_at, frames_after, frames_at, machine_at, root_frame}
use Rattle.sparc_machine.specs.Straight.{all_registers, code_instruction, loads}
use Rattle.sparc_machine.specs.declared.machine.Machine.{Machine}
use Rattle.sparc_runs.proofs.Levels.{depths}
use Rattle.sparc_runs.proofs.Places.{at_places}
use Rattle.sparc_runs.proofs.StepLaws.{steps_cost, steps_load, owed_most}
use Rattle.sparc_runs.proofs.Stepping.{parts}
use Rattle.sparc_runs.specs.Cost.{annulled_cost, annuls, owed, own_cost, pair_cost}
use Rattle.sparc_runs.specs.Window.{depth_from}
use Rattle.stack_laws.specs.Followed.{Holds, IsFollowed, IsStepFollowed}
use Rattle.stack_laws.specs.Standing.{AreWaiting, place_of, waiting_place}
use Rattle.stack_laws.specs.StepFacts.{ArePlain, is_stub, pushed}
use Rattle.transfer_rules.specs.Fact.{state_in}
use Rattle.transfer_rules.specs.Give.{Facts, entry_of}
use Rattle.transfer_rules.specs.declared.fact.Fact.{Fact}

-- a step is of an instruction
no_code : (image costs : List ℕ) (m next : Machine) → StepsTo image costs m next → code_instruction image m.pc ≡ None → ⊥
no_code image costs m next step is =
    let p = parts image costs m next step in
    let there : code_instruction image m.pc ≡ Some (instruction_of p.this) = ap (λ (w : Option ℕ). option_map instruction_of w) p.code in
    cc

-- what a step leaves as loaded is what the instruction at its address loads
loaded_is : (image costs : List ℕ) (m next : Machine) → StepsTo image costs m next → next.loaded ≡ loads (code_instruction image m.pc)
loaded_is image costs m next step = by (code_instruction image m.pc) refl where
  by : (o : Option Instr) → code_instruction image m.pc ≡ o → next.loaded ≡ loads o
  by (Some i) is = steps_load image costs m next i step is
  by None is = absurd (no_code image costs m next step is)

-- which transfer a move is that of
stays_by : (due : Transfer) → move_of due ≡ Goes → due ≡ Stays
stays_by Stays e = refl
stays_by (Calls target address) e = cc
stays_by Returns e = cc

calls_by : (due : Transfer) → move_of due ≡ CallsIn → (target : ℕ) × (address : ℕ) × (due ≡ Calls target address)
calls_by Stays e = cc
calls_by (Calls target address) e = (target, address, refl)
calls_by Returns e = cc

returns_by : (due : Transfer) → move_of due ≡ ReturnsTo → due ≡ Returns
returns_by Stays e = cc
returns_by (Calls target address) e = cc
returns_by Returns e = refl

-- the first of a list that isn't empty, and the others
abbrev first_of : Frame → List Frame → Frame
first_of other [] = other
first_of other (f ∷ rest) = f

abbrev rest_of : List Frame → List Frame
rest_of [] = []
rest_of (f ∷ rest) = rest

-- a state is found where there is a fact
found : (o : Option Fact) (s : State) → state_in o ≡ Some s → is_some o ≡ true
found None s e = cc
found (Some f) s e = refl

module _
    (F : Contexts)
    (image costs : List ℕ)
    (list : List BoundAssertion)
    (x : Facts)
    (root : ℕ)
    (first : Machine)
    (rest : List Machine)
    (last : ℕ)
    (join : IsJoinable F image costs list x root first rest last)
  where
    abbrev run : Run
    run = run_of F image costs first rest

    abbrev these_at : ℕ → List Activation
    these_at i = stack_at F.family (run_of F image costs first rest) (root_of F first) i

    abbrev at : ℕ → Machine
    at i = machine_at image first rest i

    -- the activation on top of the stack at a place is the frame on top there
    record IsOn (i : ℕ) (a : Activation) (callers : List Activation) : Type 0 where
      pub f : Frame
      pub below : List Frame
      pub are : frames_at image first rest i ≡ f ∷ below
      pub frame : IsFrame F image first rest a f below
      pub lastly : last_of a ≡ i
      pub frames : AreFrames F image first rest callers below
      pub belows : AreBelow F image costs first rest i f callers below

    on : (i : ℕ) (a : Activation) (callers : List Activation) → i ≤ last → these_at i ≡ a ∷ callers → IsOn i a callers
    on i a callers within are = by (frames_at image first rest i) refl
        (subst (λ (l : List Activation). AreLinked F image costs first rest i l (frames_at image first rest i)) are
        (linked F image costs list x root first rest last (join.placed) i within)) where
          by : (frames : List Frame) → frames_at image first rest i ≡ frames → AreLinked F image costs first rest i (a ∷ callers) frames → IsOn i a callers
          by [] is l = elim l [ ]
          by (f ∷ below) is l = record { f = f; below = below; are = is; frame = l.0; lastly = l.1; frames = l.2; belows = l.3 }

    steps_at : (i : ℕ) → i < last → StepsTo image costs (at i) (at (suc i))
    steps_at i within = let most = (join.placed).last_within in ((at_places image costs first rest ((join.placed).follows).runs).steps) i (omega arith)

    frames_next : (i : ℕ) (frames : List Frame) (due : Transfer) → i < last → frames_at image first rest i ≡ frames → due_at image first rest i ≡ due
        → frames_at image first rest (suc i) ≡ frames_after due (at (suc i)) frames
    frames_next i frames due within are is =
        let most = (join.placed).last_within in
        ((at_places image costs first rest ((join.placed).follows).runs).frames) i (omega arith)
        ∙ ap (λ (l : List Frame). frames_after (due_at image first rest i) (at (suc i)) l) are
        ∙ ap (λ (d : Transfer). frames_after d (at (suc i)) frames) is

    -- where a frame in a context stands a node is among the context's facts
    node_there : (i c : ℕ) (f : Frame) (below : List Frame) (due : Transfer) → i ≤ last → frames_at image first rest i ≡ f ∷ below
        → due_at image first rest i ≡ due → standing_of F (f ∷ below) ≡ In c → is_some (F.facts c (key.Node (place_of due f (at i)))) ≡ true
    node_there i c f below due within are is context =
        let here = followed F image costs list x root first rest last (join.placed) i within in
        let holds = subst
        (λ (l : List Frame). Holds image list (facts_of F x) x (window F image costs list x root first rest last (join.placed))
        (due_at image first rest i) l (at i))
        are
        here.holds in
        let clear = clear_of image costs list F x ((join.placed).filled) (window F image costs list x root first rest last (join.placed))
        (due_at image first rest i) f below (at i) c holds context in
        let there = subst (λ (d : Transfer). state_in (facts_of F x (f ∷ below) (key.Node (place_of d f (at i)))) ≡ Some (clear.stands).state) is
        (clear.stands).is in
        let fact = found (facts_of F x (f ∷ below) (key.Node (place_of due f (at i)))) (clear.stands).state there in
        subst (λ (facts : Facts). is_some (facts (key.Node (place_of due f (at i)))) ≡ true)
        (facts_are image costs list F x (join.placed).filled (f ∷ below) c context) fact

    -- a step that passes nothing over pays its node
    pays_node : (i c : ℕ) (f : Frame) (below : List Frame) (due : Transfer) → i < last → frames_at image first rest i ≡ f ∷ below
        → due_at image first rest i ≡ due → standing_of F (f ∷ below) ≡ In c → annuls (code_instruction image (at i).pc) (at i).pc (at (suc i)).pc ≡ false
        → PaysNode (F.family c) (run_of F image costs first rest) c i
    pays_node i c f below due within are is context none =
        let cost = steps_cost image costs (at i) (at (suc i)) (steps_at i within) in
        let nothing : annulled_cost costs (code_instruction image (at i).pc) (at i).pc (at (suc i)).pc ≡ 0 =
        ap (λ (b : Bool). if b then cost_at costs Annulled else 0) none in
        let own = (((join.placed).filled).own) c (place_of due f (at i)) (node_there i c f below due (omega arith) are is context) in
        let e = cost.cycles in
        let n : own_cost costs (code_instruction image (at i).pc) ≤ ((F.family c).own).node ((run_of F image costs first rest).node c i) =
        subst (λ (k : ℕ). own_cost costs (code_instruction image (at i).pc) ≤ ((F.family c).own).node k)
        (sym (node_is F image costs list x root first rest last (join.placed) i c f below due are is))
        own in
        omega (arith, e, nothing, n)

    goes : (i c : ℕ) (a : Activation) (callers : List Activation) → i < last → (run_of F image costs first rest).move i ≡ Goes → these_at i ≡ a ∷ callers
        → a.standing ≡ In c → IsAlong (F.family c) (run_of F image costs first rest) c i (suc i) × PaysEdge (F.family c) (run_of F image costs first rest) c i
    goes i c a callers within move these context =
        let o = on i a callers (omega arith) these in
        let due = stays_by (due_at image first rest i) move in
        let stands : standing_of F (o.f ∷ o.below) ≡ In c = sym (o.frame).standing ∙ context in
        let p : Place = place_of Stays o.f (at i) in
        let q : Place = place_of (due_at image first rest (suc i)) o.f (at (suc i)) in
        let step = follows_step F image costs list x root first rest last (join.placed) i c o.f o.below Stays within o.are due stands in
        let edge : is_some (F.facts c (key.Edge p q)) ≡ true =
        subst (λ (facts : Facts). is_some (facts (key.Edge p q)) ≡ true) (facts_are image costs list F x (join.placed).filled (o.f ∷ o.below) c stands) step in
        let from_is = node_is F image costs list x root first rest last (join.placed) i c o.f o.below Stays o.are due in
        let after = frames_next i (o.f ∷ o.below) Stays within o.are due in
        let to_is = node_is F image costs list x root first rest last (join.placed) (suc i) c o.f o.below (due_at image first rest (suc i)) after refl in
        let own = (((join.placed).filled).own) c p (node_there i c o.f o.below Stays (omega arith) o.are due stands) in
        let extra = (((join.placed).filled).extra) c p q edge in
        let cost = steps_cost image costs (at i) (at (suc i)) (steps_at i within) in
        let e = cost.cycles in
        let same : owed image costs (at (suc i)) ≡ pair_cost costs (loads (code_instruction image (at i).pc)) (code_instruction image (at (suc i)).pc) =
        ap (λ (l : ℕ). pair_cost costs l (code_instruction image (at (suc i)).pc)) (loaded_is image costs (at i) (at (suc i)) (steps_at i within)) in
        let paid : (at (suc i)).cycles + owed image costs (at (suc i))
        ≤ (at i).cycles + owed image costs (at i) + ((F.family c).own).node (F.number c p) + ((F.family c).own).edge (F.number c p) (F.number c q) =
        omega (arith, e, same, own, extra) in (
          record {
            edge =
                subst (λ (k : ℕ). (F.family c).edge k ((run_of F image costs first rest).node c (suc i)) ≡ true) (sym from_is)
                (subst (λ (k : ℕ). (F.family c).edge (F.number c p) k ≡ true) (sym to_is) ((((join.placed).filled).edges) c p q edge));
            counts = ((join.counted).goes) i c a callers within move these context;
          },
          subst
              (λ (k : ℕ).
              (at (suc i)).cycles + owed image costs (at (suc i))
              ≤ (at i).cycles + owed image costs (at i) + ((F.family c).own).node k + ((F.family c).own).edge k
              ((run_of F image costs first rest).node c (suc i)))
              (sym from_is)
              (subst
              (λ (k : ℕ).
              (at (suc i)).cycles + owed image costs (at (suc i))
              ≤ (at i).cycles + owed image costs (at i) + ((F.family c).own).node (F.number c p) + ((F.family c).own).edge (F.number c p) k)
              (sym to_is)
              paid),
        )

    -- a subprogram that is entered in a context stands at its entry, and owes at most what its context says
    enters_at : (i d : ℕ) (f : Frame) (below : List Frame) → frames_at image first rest i ≡ f ∷ below → due_at image first rest i ≡ Stays
        → f.start.cwp ≡ (at i).cwp → F.sub d ≡ f.sub → (at i).pc ≡ f.sub → (at i).npc ≡ (f.sub + 4) % 2 ^ 32
        → IsEntered (F.family d) (run_of F image costs first rest) d i
    enters_at i d f below are due window_is sub pc npc =
        let machine = ((running F image costs list x root first rest last (join.placed) i).running).machine in
        let depth : depth_from f.start.cwp (at i).cwp ≡ 0 =
        ap (λ (w : ℕ). depth_from w (at i).cwp) window_is ∙ (depths.start) (at i).cwp machine.window in
        let place : place_of Stays f (at i) ≡ entry_of f.sub = λ j. record { sub = f.sub; pc = pc j; next = At (npc j); depth = depth j } in
        let node = node_is F image costs list x root first rest last (join.placed) i d f below Stays are due in
        let most = owed_most costs (at i).loaded (code_instruction image (at i).pc) in
        let start = (((join.placed).filled).start) d in
        let here : pair_cost costs all_registers (code_instruction image (at i).pc) ≡ pair_cost costs all_registers (code_instruction image (F.sub d)) =
        ap (λ (a : ℕ). pair_cost costs all_registers (code_instruction image a)) (pc ∙ sym sub) in
        record {
          entry = node ∙ ap (λ (p : Place). F.number d p) (place ∙ ap (λ (a : ℕ). entry_of a) (sym sub)) ∙ (((join.placed).filled).entry) d;
          owed = omega (arith, most, start, here);
        }

    calls : (i c : ℕ) (a : Activation) (callers : List Activation) → i < last → (run_of F image costs first rest).move i ≡ CallsIn → these_at i ≡ a ∷ callers
        → a.standing ≡ In c → IsCall F.family (run_of F image costs first rest) c i
    calls i c a callers within move these context =
        let o = on i a callers (omega arith) these in
        let call = calls_by (due_at image first rest i) move in
        let target = call.0 in let address = call.1 in let due = call.2 in
        let stands : standing_of F (o.f ∷ o.below) ≡ In c = sym (o.frame).standing ∙ context in
        let step = follows_step F image costs list x root first rest last (join.placed) i c o.f o.below (Calls target address) within o.are due stands in
        let called = called_there F image costs list x root first rest last (join.placed) i c target address o.f o.below within o.are due stands in
        let most = (join.placed).last_within in
        let G : Frame = pushed target address (at (suc i)) in
        let w : Place = waiting_place o.f G in
        let node = node_is F image costs list x root first rest last (join.placed) i c o.f o.below (Calls target address) o.are due
        ∙ ap (λ (p : Place). F.number c p) (waits_there F image costs list x root first rest last (join.placed) i target address o.f (omega arith) due) in
        let after = frames_next i (o.f ∷ o.below) (Calls target address) within o.are due in
        record {
          callee = F.follows c w;
          leads = ap (λ (k : ℕ). (F.family c).leads k) node ∙ (((join.placed).filled).leads) c w target called;
          enters = λ d leads.
              enters_at (suc i) d G (o.f ∷ o.below) after step.3 refl ((((join.placed).filled).callee) c w target d called leads) step.1 step.2;
          pays = pays_node i c o.f o.below (Calls target address) within o.are due stands step.4;
        }

    returns : (i c : ℕ) (a : Activation) (callers : List Activation) → i < last → (run_of F image costs first rest).move i ≡ ReturnsTo
        → these_at i ≡ a ∷ callers → a.standing ≡ In c → PaysNode (F.family c) (run_of F image costs first rest) c i
    returns i c a callers within move these context =
        let o = on i a callers (omega arith) these in
        let due = returns_by (due_at image first rest i) move in
        let stands : standing_of F (o.f ∷ o.below) ≡ In c = sym (o.frame).standing ∙ context in
        let step = follows_step F image costs list x root first rest last (join.placed) i c o.f o.below Returns within o.are due stands in
        pays_node i c o.f o.below Returns within o.are due stands step.3

    enters : (c : ℕ) → root_of F first ≡ In c → IsEntered (F.family c) (run_of F image costs first rest) c 0
    enters c is =
        let begins = ((join.placed).follows).begins in
        enters_at 0 c (root_frame first) [] refl refl refl ((((join.placed).filled).root_in) first.pc c is) refl
        (begins.npc ∙ ap (λ (a : ℕ). (a + 4) % 2 ^ 32) (sym begins.pc))

    -- what is known where a frame is popped behind which one in a context goes on
    record IsReturn (i c : ℕ) (f g : Frame) (below : List Frame) : Type 0 where
      pub edge : is_some (F.facts c (key.Edge (waiting_place g f) (place_of Stays g (at (suc i))))) ≡ true
      pub still : due_at image first rest (suc i) ≡ Stays
      pub called : IsCalled F c (waiting_place g f) f.sub

    return_is : (i c : ℕ) (f g : Frame) (below : List Frame) → i < last → frames_at image first rest i ≡ f ∷ g ∷ below → due_at image first rest i ≡ Returns
        → standing_of F (g ∷ below) ≡ In c → IsReturn i c f g below
    return_is i c f g below within are due context =
        let most = (join.placed).last_within in
        let here = followed F image costs list x root first rest last (join.placed) i (omega arith) in
        let holds = subst
        (λ (l : List Frame). Holds image list (facts_of F x) x (window F image costs list x root first rest last (join.placed))
        (due_at image first rest i) l (at i))
        are
        here.holds in
        let step = here.steps (omega arith) (λ j less. (join.placed).before j (omega arith)) f (g ∷ below) are in
        let known = facts_are image costs list F x (join.placed).filled (g ∷ below) c context in
        elim holds [
          | inl clear ↦
              (let way = subst
              (λ (d : Transfer). IsFollowed image (facts_of F x) x d (due_at image first rest (suc i)) f (g ∷ below) (at i) (at (suc i)))
              due
              (step.plain clear.plain) in
              record {
                edge = subst (λ (facts : Facts). is_some (facts (key.Edge (waiting_place g f) (place_of Stays g (at (suc i))))) ≡ true) known (way.1).0;
                still = way.2;
                called = record {
                  there = subst (λ (facts : Facts). is_some (facts (key.Call (waiting_place g f) f.sub)) ≡ true) known ((clear.waiting).0).called;
                  into = refl;
                };
              })
          | inr b ↦ lowest_is step known b.inner b.lowest b.below b.rest b.are b.stub b.plain b.waiting
        ]
      where
        lowest_is : IsStepFollowed image list (facts_of F x) x (config_at image first rest i) (config_at image first rest (suc i)) f (g ∷ below)
            → facts_of F x (g ∷ below) ≡ F.facts c → (inner : List Frame) (lowest under : Frame) (others : List Frame)
            → f ∷ g ∷ below ≡ inner ++ lowest ∷ under ∷ others → is_stub list lowest.sub ≡ true → ArePlain list (under ∷ others)
            → AreWaiting (facts_of F x) x lowest (under ∷ others) lowest.start → IsReturn i c f g below
        lowest_is step known [] lowest under others same stub plain waiting =
            let f_is : lowest ≡ f = sym (ap (first_of lowest) same) in
            let rest_is : under ∷ others ≡ g ∷ below = sym (ap rest_of same) in
            let way = step.stub (subst (λ (h : Frame). is_stub list h.sub ≡ true) f_is stub) (subst (λ (l : List Frame). ArePlain list l) rest_is plain) due in
            let wait : AreWaiting (facts_of F x) x f (g ∷ below) lowest.start =
            subst (λ (l : List Frame). AreWaiting (facts_of F x) x f l lowest.start) rest_is
            (subst (λ (h : Frame). AreWaiting (facts_of F x) x h (under ∷ others) lowest.start) f_is waiting) in
            record {
              edge = subst (λ (facts : Facts). is_some (facts (key.Edge (waiting_place g f) (place_of Stays g (at (suc i))))) ≡ true) known (way.1).0;
              still = way.2;
              called = record {
                there = subst (λ (facts : Facts). is_some (facts (key.Call (waiting_place g f) f.sub)) ≡ true) known (wait.0).called;
                into = refl;
              };
            }
        lowest_is step known (h ∷ inner) lowest under others same stub plain waiting =
            absurd
            (above_is_free image costs list F x (join.placed).filled inner lowest under others
            (stub_is_free image costs list F x (join.placed).filled lowest under others lowest.start stub waiting.0)
            c
            (subst (λ (l : List Frame). standing_of F l ≡ In c) (ap rest_of same) context))

    goes_on : (i c : ℕ) (popped caller : Activation) (callers : List Activation) → i < last → (run_of F image costs first rest).move i ≡ ReturnsTo
        → these_at i ≡ popped ∷ caller ∷ callers → caller.standing ≡ In c
        → IsAlong (F.family c) (run_of F image costs first rest) c (last_of caller) (suc i)
        × ((run_of F image costs first rest).owed (suc i)
        ≤ ((F.family c).own).edge ((run_of F image costs first rest).node c (last_of caller)) ((run_of F image costs first rest).node c (suc i)))
    goes_on i c popped caller callers within move these context = by o.below o.are o.frames o.belows where
      o : IsOn i popped (caller ∷ callers)
      o = on i popped (caller ∷ callers) (omega arith) these

      due : due_at image first rest i ≡ Returns
      due = returns_by (due_at image first rest i) move

      by : (below : List Frame) → frames_at image first rest i ≡ o.f ∷ below → AreFrames F image first rest (caller ∷ callers) below
          → AreBelow F image costs first rest i o.f (caller ∷ callers) below
          → IsAlong (F.family c) (run_of F image costs first rest) c (last_of caller) (suc i)
          × ((run_of F image costs first rest).owed (suc i)
          ≤ ((F.family c).own).edge ((run_of F image costs first rest).node c (last_of caller)) ((run_of F image costs first rest).node c (suc i)))
      by [] are frames belows = elim frames [ ]
      by (g ∷ below) are frames belows =
          let stands : standing_of F (g ∷ below) ≡ In c = sym (frames.0).standing ∙ context in
          let back = return_is i c o.f g below within are due stands in
          let p : Place = waiting_place g o.f in
          let q : Place = place_of Stays g (at (suc i)) in
          let after = frames_next i (o.f ∷ g ∷ below) Returns within are due in
          let from_is = (belows.0).node c in
          let to_is = node_is F image costs list x root first rest last (join.placed) (suc i) c g below Stays after back.still in
          let extra = (((join.placed).filled).extra) c p q back.edge in
          let most = owed_most costs (at (suc i)).loaded (code_instruction image (at (suc i)).pc) in
          let owes : owed image costs (at (suc i)) ≤ ((F.family c).own).edge (F.number c p) (F.number c q) = omega (arith, extra, most) in (
            record {
              edge =
                  subst (λ (k : ℕ). (F.family c).edge k ((run_of F image costs first rest).node c (suc i)) ≡ true) (sym from_is)
                  (subst (λ (k : ℕ). (F.family c).edge (F.number c p) k ≡ true) (sym to_is) ((((join.placed).filled).edges) c p q back.edge));
              counts = ((join.counted).goes_on) i c popped caller callers within move these context;
            },
            subst (λ (k : ℕ). owed image costs (at (suc i)) ≤ ((F.family c).own).edge k ((run_of F image costs first rest).node c (suc i))) (sym from_is)
                (subst (λ (k : ℕ). owed image costs (at (suc i)) ≤ ((F.family c).own).edge (F.number c p) k) (sym to_is) owes),
          )

    stubs : (i c time : ℕ) (popped caller : Activation) (callers : List Activation) → i < last → (run_of F image costs first rest).move i ≡ ReturnsTo
        → these_at i ≡ popped ∷ caller ∷ callers → caller.standing ≡ In c → popped.standing ≡ Stub time
        → (run_of F image costs first rest).cycles (suc i) ≤ (run_of F image costs first rest).cycles popped.first + time
    stubs i c time popped caller callers within move these context is = by o.below o.are o.frame o.frames where
      o : IsOn i popped (caller ∷ callers)
      o = on i popped (caller ∷ callers) (omega arith) these

      due : due_at image first rest i ≡ Returns
      due = returns_by (due_at image first rest i) move

      by : (below : List Frame) → frames_at image first rest i ≡ o.f ∷ below → IsFrame F image first rest popped o.f below
          → AreFrames F image first rest (caller ∷ callers) below
          → (at (suc i)).cycles ≤ (at popped.first).cycles + time
      by [] are frame frames = elim frames [ ]
      by (g ∷ below) are frame frames =
          let stands : standing_of F (g ∷ below) ≡ In c = sym (frames.0).standing ∙ context in
          let back = return_is i c o.f g below within are due stands in
          let leads : F.follows c (waiting_place g o.f) ≡ Stub time =
          sym (ap (λ (s : Standing). follows_from F s (waiting_place g o.f)) stands) ∙ sym frame.standing ∙ is in
          let asserted = (((join.placed).filled).time) c (waiting_place g o.f) (o.f).sub time back.called leads in
          let most = (join.placed).last_within in
          let keeps = ((join.placed).follows).stubs (o.f).sub time asserted i o.f g below (omega arith) due are refl in
          let spends = keeps.spends in
          let begun : (at popped.first).cycles ≡ (o.f).start.cycles = ap (λ (m : Machine). m.cycles) frame.start in
          omega (arith, spends, begun)

    -- each step keeps to the contexts
    pub are_followed : AreFollowed F.family (run_of F image costs first rest) (root_of F first) last
    are_followed = record {
      enters = enters;
      within = (join.counted).within;
      asserted = (join.counted).asserted;
      goes = goes;
      calls = calls;
      returns = returns;
      goes_on = goes_on;
      stubs = stubs;
    }
