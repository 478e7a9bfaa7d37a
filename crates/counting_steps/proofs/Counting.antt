-- What counts in the frames of a run counts.
use Rattle.std.proofs.Common.{◌≡◌, ◌≢◌, ℕ, zero, suc, ◌+◌, ◌%◌, ◌^◌, ◌<◌, ◌≤◌, ◌⊎◌, inl, inr, Bool, true, false, List, [], ◌∷◌, length, Option, Some}
use Rattle.std.proofs.Common.{None, Contains, refl, sym, ap, subst, ◌∙◌, arith}
use Rattle.std.specs.Prelude.{nat_lt}
use Rattle.std.specs.Int.{cast_signed, w32}
use Rattle.std.proofs.lemmas.Bool.{cases_Bool, lt-ltb}
use Rattle.std.proofs.lemmas.Int.{ints}
use Rattle.std.proofs.lemmas.Bool.Decides.{nat_tests}
use Rattle.abs_state.specs.State.{State, cell_at}
use Rattle.abs_state.specs.declared.key.Key.TheVariants as key
use Rattle.abs_state.specs.declared.key.Next.TheVariants.{Into}
use Rattle.abs_state.specs.declared.key.Place.{Place}
use Rattle.assert_bind.specs.Sight.{MeetsEach}
use Rattle.assert_bind.specs.declared.body.BoundAssertion.{BoundAssertion}
use Rattle.call_effects.specs.Mask.{after_call, has_cell}
use Rattle.cell_places.proofs.PlaceLemmas.{content_word}
use Rattle.cell_places.specs.Place.{content_of}
use Rattle.closed_steps.proofs.Taking.{IsDone, done, there}
use Rattle.closed_steps.specs.Graph.{Answers, IsBound}
use Rattle.context_facts.proofs.Answering.{contexts_answer}
use Rattle.context_facts.specs.Context.{AreLawful}
use Rattle.context_runs.proofs.Linking.{AreBelow, AreLinked, IsWaitingSince}
use Rattle.context_runs.proofs.Placing.{clear_of, facts_are, followed, follows_step, linked, node_is, running, window}
use Rattle.context_runs.specs.Contexts.{Contexts, facts_of, standing_of}
use Rattle.context_runs.specs.Joined.{AreFrames, Counts, IsFrame, IsPlaced, move_of, root_of, run_of, top_of}
use Rattle.context_steps.proofs.Contexts.{Exists, stack_exists}
use Rattle.context_steps.specs.Followed.{AreContexts}
use Rattle.flow_system.specs.State.{IsClosed}
use Rattle.frame_laws.specs.Activation.{Activation, last_of, stack_at}
use Rattle.frame_laws.specs.Context.{Context, Counter, In, Standing}
use Rattle.frame_laws.specs.Run.{Goes, Returns as ReturnsTo}
use Rattle.frame_laws.specs.Steps.{IsWithin}
use Rattle.sparc_machine.specs.Frame.{Frame, Transfer, Stays, Calls, Returns, StepsTo, config_at, due_at, frames_after, frames_at, machine_at, root_frame}
use Rattle.sparc_machine.specs.declared.machine.Machine.{Machine}
use Rattle.sparc_runs.proofs.Levels.{depths}
use Rattle.sparc_runs.proofs.Places.{at_places}
use Rattle.sparc_runs.specs.Meets.{sight_at, sight_of}
use Rattle.sparc_runs.specs.Window.{depth_from}
use Rattle.stack_laws.specs.Followed.{Holds, IsClear, IsFollowed, IsStepFollowed}
use Rattle.stack_laws.specs.Standing.{IsKept, StackFacts, lent, place_of, summary_in, waiting_place}
use Rattle.stack_laws.specs.StepFacts.{ArePlain, IsTaken as Takes, is_stub}
use Rattle.step_covers.proofs.CoveredLemmas.{assertions_kept, narrows_cover}
use Rattle.step_covers.specs.Covered.{IsCovered}
use Rattle.step_covers.specs.Does.{IsHere}
use Rattle.transfer_acts.proofs.Depths.{programs_are_lawful}
use Rattle.transfer_acts.specs.Program.{program_of}
use Rattle.transfer_rules.specs.Closed.{IsAllowed, IsTaken}
use Rattle.transfer_rules.specs.Fact.{state_in}
use Rattle.transfer_rules.specs.Give.{Facts}
use Rattle.transfer_rules.specs.Lawful.{rules_of}
use Rattle.transfer_rules.specs.declared.act.Way.{Way}
use Rattle.transfer_rules.specs.declared.fact.Fact.{Fact}
use Rattle.transfer_rules.specs.declared.fact.Fact.TheVariants as fact
use Rattle.transfer_rules.specs.declared.step.Step.{Step}
use Rattle.transfer_values.proofs.LawLemmas.{families_are_lawful}
use Rattle.transfer_values.specs.Family.{family}
use Rattle.transfer_values.specs.Narrow.{narrowed}
use Rattle.transfer_values.specs.Resolve.{widest}
use Rattle.value_lattice.proofs.MayLemmas.{may_from_has}
use Rattle.value_lattice.specs.Order.{place_of as place_of_word, rank_of}
use Rattle.value_lattice.specs.Thresholds.{IsThresholds}
use Rattle.counting_steps.proofs.Changing.{adds_cell, leaves_cell}
use Rattle.counting_steps.specs.Changes.{Adds, AreChanges, Leaves}
use Rattle.counting_steps.specs.Counted.{CountersCount}

-- where there is a state among facts, it is the fact
state_is : (o : Option Fact) (s : State) → state_in o ≡ Some s → o ≡ Some (fact.State s)
state_is None s is = absurd (cc)
state_is (Some (fact.State u)) s is = cc
state_is (Some (fact.Args given)) s is = absurd (cc)
state_is (Some (fact.Sum e)) s is = absurd (cc)
state_is (Some fact.Mark) s is = absurd (cc)

-- the place of a word is the rank of its value with sign
place_is : (w : ℕ) → w < 2 ^ 32 → place_of_word w ≡ rank_of (cast_signed w32 w)
place_is w within = grind (arith, ints, nat_tests)

stays_by : (due : Transfer) → move_of due ≡ Goes → due ≡ Stays
stays_by Stays e = refl
stays_by (Calls target address) e = cc
stays_by Returns e = cc

returns_by : (due : Transfer) → move_of due ≡ ReturnsTo → due ≡ Returns
returns_by Stays e = cc
returns_by (Calls target address) e = cc
returns_by Returns e = refl

module _ (t image costs : List ℕ) (list : List BoundAssertion) (eight : Bool) (x : Facts) (F : Contexts) (bound : IsBound image list)
    (thresholds : IsThresholds t) (closed : IsClosed (rules_of t (family t image list) (program_of image list eight (widest image list))) x)
    (contexts : AreContexts image list eight t x F) (changes : AreChanges image list eight t x F contexts) (root : ℕ) (first : Machine)
    (rest : List Machine) (last : ℕ) (placed : IsPlaced F image costs list x root first rest last) where
  abbrev at : ℕ → Machine
  at i = machine_at image first rest i

  abbrev these_at : ℕ → List Activation
  these_at i = stack_at F.family (run_of F image costs first rest) (root_of F first) i

  lawful : (c : ℕ) → contexts.has c ≡ true
      → AreLawful t (contexts.thresholds c) (family t image list) (family (contexts.thresholds c) image list) (program_of image list eight (widest image list))
  lawful c has = record {
    coarse = families_are_lawful.lawful t image list thresholds;
    fine = families_are_lawful.lawful (contexts.thresholds c) image list (contexts.are c has);
    finer = families_are_lawful.finer t (contexts.thresholds c) image list thresholds (contexts.are c has) (contexts.wider c has);
    program = programs_are_lawful image list eight (widest image list);
  }

  answers : (c : ℕ) → contexts.has c ≡ true
      → Answers (contexts.thresholds c) (family (contexts.thresholds c) image list) (program_of image list eight (widest image list)) (F.facts c) x
  answers c has =
      contexts_answer t (contexts.thresholds c) (family t image list) (family (contexts.thresholds c) image list)
      (program_of image list eight (widest image list))
      x (F.sub c) (contexts.arguments c) (F.facts c) (lawful c has) closed (contexts.facts c has)

  -- a frame in a context is in one that there is
  in_one : (stack : List Frame) (c : ℕ) → standing_of F stack ≡ In c → contexts.has c ≡ true
  in_one stack c is =
      subst (λ (s : Standing). Exists t image list eight x F bound thresholds closed contexts s) is
      (stack_exists t image list eight x F bound thresholds closed contexts stack)

  -- the activation on top of the stack at a place is the frame on top there
  record IsOn (i : ℕ) (a : Activation) (callers : List Activation) : Type 0 where
    pub f : Frame
    pub below : List Frame
    pub are : frames_at image first rest i ≡ f ∷ below
    pub frame : IsFrame F image first rest a f below
    pub frames : AreFrames F image first rest callers below
    pub belows : AreBelow F image costs first rest i f callers below

  on : (i : ℕ) (a : Activation) (callers : List Activation) → i ≤ last → these_at i ≡ a ∷ callers → IsOn i a callers
  on i a callers within are =
      by (frames_at image first rest i) refl
      (subst (λ (l : List Activation). AreLinked F image costs first rest i l (frames_at image first rest i)) are
      (linked F image costs list x root first rest last placed i within))
    where
      by : (frames : List Frame) → frames_at image first rest i ≡ frames → AreLinked F image costs first rest i (a ∷ callers) frames → IsOn i a callers
      by [] is l = elim l [ ]
      by (f ∷ below) is l = record { f = f; below = below; are = is; frame = l.0; frames = l.2; belows = l.3 }

  -- there is no stub's frame where the frame on top is in a context
  clear : (i c : ℕ) (f : Frame) (below : List Frame) → i ≤ last → frames_at image first rest i ≡ f ∷ below → standing_of F (f ∷ below) ≡ In c
      → IsClear image list (facts_of F x) x (window F image costs list x root first rest last placed) (due_at image first rest i) f below (at i)
  clear i c f below within are context =
      clear_of image costs list F x placed.filled (window F image costs list x root first rest last placed) (due_at image first rest i) f below (at i) c
      (subst (λ (l : List Frame). Holds image list (facts_of F x) x (window F image costs list x root first rest last placed)
      (due_at image first rest i) l (at i)) are
      (followed F image costs list x root first rest last placed i within).holds) context

  takes : (i c : ℕ) (f : Frame) (below : List Frame) → i < last → frames_at image first rest i ≡ f ∷ below → standing_of F (f ∷ below) ≡ In c
      → Takes image costs list (facts_of F x) x (window F image costs list x root first rest last placed) (due_at image first rest i) f below (at i)
      (at (suc i))
  takes i c f below within are context =
      let most = placed.last_within in
      let r = (followed F image costs list x root first rest last placed i (omega arith)).running in
      let here = clear i c f below (omega arith) are context in
      record {
        running = record { machine = r.machine; mask = r.mask; due = r.due };
        entered = here.entered.0;
        plain = here.plain;
        stands = here.stands;
        steps = (at_places image costs first rest placed.follows.runs).steps i (omega arith);
        closed = placed.before i within f below are here.plain;
        meets = subst (λ (b : Bool). MeetsEach list (sight_of image (at i) b)) (lt-ltb i (length rest) (omega arith)) (placed.follows.meets i (omega arith));
      }

  -- the step from a place, as the rules take it in the context's facts
  taken : (i c : ℕ) (f : Frame) (below : List Frame) → i < last → frames_at image first rest i ≡ f ∷ below → standing_of F (f ∷ below) ≡ In c
      → contexts.has c ≡ true
      → IsDone (contexts.thresholds c) image list eight (F.facts c) (place_of (due_at image first rest i) f (at i)) f (at i) (at (suc i))
  taken i c f below within are context has =
      let same = facts_are image costs list F x placed.filled (f ∷ below) c context in
      subst (λ (facts : Facts). IsDone (contexts.thresholds c) image list eight facts (place_of (due_at image first rest i) f (at i)) f (at i)
      (at (suc i))) same
      (done (contexts.thresholds c) image costs list eight (facts_of F x) x bound (contexts.are c has) (window F image costs list x root first rest last placed)
      (due_at image first rest i) f below (at i) (at (suc i))
      (subst (λ (facts : Facts). Answers (contexts.thresholds c) (family (contexts.thresholds c) image list)
      (program_of image list eight (widest image list)) facts x) (sym same) (answers c has))
      (takes i c f below within are context))

  -- what a cell of the frame on top holds at a place
  content_is : (i cell : ℕ) (f : Frame) (below : List Frame) → i ≤ last → frames_at image first rest i ≡ f ∷ below
      → (run_of F image costs first rest).content i cell ≡ place_of_word (content_of (at i) f.start.cwp cell)
  content_is i cell f below within are =
      let machine = (followed F image costs list x root first rest last placed i within).running.machine in
      ap (λ (l : List Frame). rank_of (cast_signed w32 (content_of (at i) (top_of (root_frame first) l).start.cwp cell))) are
      ∙ sym (place_is (content_of (at i) f.start.cwp cell) (content_word f.start.cwp (at i) cell machine))

  frames_next : (i : ℕ) (frames : List Frame) (due : Transfer) → i < last → frames_at image first rest i ≡ frames → due_at image first rest i ≡ due
      → frames_at image first rest (suc i) ≡ frames_after due (at (suc i)) frames
  frames_next i frames due within are is =
      let most = placed.last_within in
      (at_places image costs first rest placed.follows.runs).frames i (omega arith)
      ∙ ap (λ (l : List Frame). frames_after (due_at image first rest i) (at (suc i)) l) are
      ∙ ap (λ (d : Transfer). frames_after d (at (suc i)) frames) is

  -- at a head the cell is within the counter's numbers
  pub within_numbers : (i c : ℕ) (a : Activation) (callers : List Activation) → i ≤ last → these_at i ≡ a ∷ callers → a.standing ≡ In c
      → IsWithin (F.family c) (run_of F image costs first rest) c i
  within_numbers i c a callers within these context h counter is_head is_counter node =
      let o = on i a callers within these in
      let stands : standing_of F (o.f ∷ o.below) ≡ In c = sym o.frame.standing ∙ context in
      let has = in_one (o.f ∷ o.below) c stands in
      let here = clear i c o.f o.below within o.are stands in
      let same = facts_are image costs list F x placed.filled (o.f ∷ o.below) c stands in
      let p : Place = place_of (due_at image first rest i) o.f (at i) in
      let r = (followed F image costs list x root first rest last placed i within).running in
      let found : F.facts c (key.Node (place_of (due_at image first rest i) o.f (at i))) ≡ Some (fact.State here.stands.state) =
      subst (λ (facts : Facts). facts (key.Node (place_of (due_at image first rest i) o.f (at i))) ≡ Some (fact.State here.stands.state)) same
      (state_is (facts_of F x (o.f ∷ o.below) (key.Node (place_of (due_at image first rest i) o.f (at i)))) here.stands.state here.stands.is) in
      let most = placed.last_within in
      let stood : IsHere image (place_of (due_at image first rest i) o.f (at i)) o.f.start.cwp (at i) = record {
        accepted = bound.accepted;
        bytes = bound.bytes;
        machine = r.machine;
        at = record { window = here.entered.0.machine.window; shallow = here.stands.shallow; is = here.stands.covers.window; size = r.machine.registers };
        pc = refl;
      } in
      let covered : IsCovered (contexts.thresholds c) here.stands.state (place_of (due_at image first rest i) o.f (at i)).depth o.f (at i) = record {
        thresholds = contexts.are c has;
        over = (answers c has).over (place_of (due_at image first rest i) o.f (at i)) here.stands.state found;
        machine = r.machine;
        word = here.entered.0.word;
        covers = here.stands.covers;
      } in
      let kept = assertions_kept image list (place_of (due_at image first rest i) o.f (at i)) o.f.start.cwp (at i)
      (nat_lt i (length rest)) bound.sound stood (placed.follows.meets i (omega arith)) in
      let left = there (contexts.thresholds c) (narrowed (contexts.thresholds c) list (place_of (due_at image first rest i) o.f (at i)) here.stands.state)
      (place_of (due_at image first rest i) o.f (at i)).depth o.f (at i)
      (narrows_cover (contexts.thresholds c) list (place_of (due_at image first rest i) o.f (at i)) here.stands.state o.f (at i) covered kept.ranges) in
      let allowed : IsAllowed (family (contexts.thresholds c) image list) (F.facts c) (place_of (due_at image first rest i) o.f (at i)) left.state =
      record { state = here.stands.state; found = found; narrowed = left.is } in
      let number : F.number c (place_of (due_at image first rest i) o.f (at i)) ≡ h =
      sym (node_is F image costs list x root first rest last placed i c o.f o.below (due_at image first rest i) o.are refl) ∙ node in
      let low = changes.low c h counter has is_counter in
      let word = content_word o.f.start.cwp (at i) counter.cell r.machine in
      let may = may_from_has (cell_at left.state counter.cell) (content_of (at i) o.f.start.cwp counter.cell) o.f.caller here.entered.0.word
      (left.covers.covers.says.cells counter.cell low) in
      let ends = changes.heads c h counter (place_of (due_at image first rest i) o.f (at i)) left.state has is_head is_counter number allowed
      (content_of (at i) o.f.start.cwp counter.cell) word may in
      let content = content_is i counter.cell o.f o.below within o.are in
      (omega (arith, ends.0, content), omega (arith, ends.1, content))

  -- what the step from a place changes
  pub counts_from : (i c h : ℕ) (counter : Counter) (f : Frame) (below : List Frame) → i < last → frames_at image first rest i ≡ f ∷ below
      → standing_of F (f ∷ below) ≡ In c → (F.family c).loops.has h ≡ true → (F.family c).counter h ≡ Some counter
      → (F.family c).loops.body h ((run_of F image costs first rest).node c i) ≡ true
      → place_of_word (content_of (at (suc i)) f.start.cwp counter.cell) + counter.changes.down ((run_of F image costs first rest).node c i)
      ≡ place_of_word (content_of (at i) f.start.cwp counter.cell) + counter.changes.up ((run_of F image costs first rest).node c i)
  counts_from i c h counter f below within are context is_head is_counter inside =
      by (changes.changes c h counter (place_of (due_at image first rest i) f (at i)) d.step d.way d.before d.after has is_head is_counter
      (subst (λ (n : ℕ). (F.family c).loops.body h n ≡ true) node inside) d.taken)
    where
      has : contexts.has c ≡ true
      has = in_one (f ∷ below) c context

      d : IsDone (contexts.thresholds c) image list eight (F.facts c) (place_of (due_at image first rest i) f (at i)) f (at i) (at (suc i))
      d = taken i c f below within are context (in_one (f ∷ below) c context)

      node : (run_of F image costs first rest).node c i ≡ F.number c (place_of (due_at image first rest i) f (at i))
      node = node_is F image costs list x root first rest last placed i c f below (due_at image first rest i) are refl

      low : counter.cell < 48
      low = changes.low c h counter (in_one (f ∷ below) c context) is_counter

      by : Leaves x (place_of (due_at image first rest i) f (at i)) d.step counter.cell
          (counter.changes.up (F.number c (place_of (due_at image first rest i) f (at i))))
          (counter.changes.down (F.number c (place_of (due_at image first rest i) f (at i))))
          ⊎ Adds (place_of (due_at image first rest i) f (at i)) d.step d.before counter.cell
          (counter.changes.up (F.number c (place_of (due_at image first rest i) f (at i))))
          (counter.changes.down (F.number c (place_of (due_at image first rest i) f (at i))))
          → place_of_word (content_of (at (suc i)) f.start.cwp counter.cell) + counter.changes.down ((run_of F image costs first rest).node c i)
          ≡ place_of_word (content_of (at i) f.start.cwp counter.cell) + counter.changes.up ((run_of F image costs first rest).node c i)
      by (inl leaves) =
          let same = ap (λ (w : ℕ). place_of_word w) (leaves_cell image d.step d.way f.start.cwp counter.cell (at i) (at (suc i)) d.does low leaves.free) in
          let up = ap counter.changes.up node in
          let down = ap counter.changes.down node in
          let both = leaves.same in
          omega (arith, same, up, down, both)
      by (inr adds) =
          let change =
          adds_cell image (place_of (due_at image first rest i) f (at i)) d.step d.way d.before f.start.cwp f.caller counter.cell
          (counter.changes.up (F.number c (place_of (due_at image first rest i) f (at i))))
          (counter.changes.down (F.number c (place_of (due_at image first rest i) f (at i))))
          (at i) (at (suc i)) d.does low d.covers.word (λ r near. content_word f.start.cwp (at i) r d.covers.machine) d.covers.covers.says.cells adds in
          let up = ap counter.changes.up node in
          let down = ap counter.changes.down node in
          omega (arith, change, up, down)

  pub goes : (i c : ℕ) (a : Activation) (callers : List Activation) → i < last → (run_of F image costs first rest).move i ≡ Goes → these_at i ≡ a ∷ callers
      → a.standing ≡ In c → Counts F image costs first rest c i (suc i)
  goes i c a callers within move these context h counter is_head is_counter from_in to_in =
      let o = on i a callers (omega arith) these in
      let stands : standing_of F (o.f ∷ o.below) ≡ In c = sym o.frame.standing ∙ context in
      let due = stays_by (due_at image first rest i) move in
      let next = frames_next i (o.f ∷ o.below) Stays within o.are due in
      let change = counts_from i c h counter o.f o.below within o.are stands is_head is_counter from_in in
      let from = content_is i counter.cell o.f o.below (omega arith) o.are in
      let to = content_is (suc i) counter.cell o.f o.below (omega arith) next in
      omega (arith, change, from, to)

  -- where a pop goes back to, the caller's other cells are what they were
  kept_by : (i c : ℕ) (g f : Frame) (below : List Frame) → i < last → due_at image first rest i ≡ Returns → frames_at image first rest i ≡ g ∷ f ∷ below
      → ArePlain list (f ∷ below) → IsKept x f g (at (suc i))
  kept_by i c g f below within due are plain =
      elim (cases_Bool (is_stub list g.sub)) [
        | inl stub ↦ (step.stub stub plain due).1.1
        | inr open_there ↦
            (subst (λ (d : Transfer). IsFollowed image (facts_of F x) x d (due_at image first rest (suc i)) g (f ∷ below) (at i) (at (suc i))) due
            (step.plain (open_there, plain))).1.1
      ]
    where
      step : IsStepFollowed image list (facts_of F x) x (config_at image first rest i) (config_at image first rest (suc i)) g (f ∷ below)
      step =
          let most = placed.last_within in
          (followed F image costs list x root first rest last placed i (omega arith)).steps (omega arith) (λ j less. placed.before j (omega arith)) g
          (f ∷ below) are

  pub goes_on : (i c : ℕ) (popped caller : Activation) (callers : List Activation) → i < last → (run_of F image costs first rest).move i ≡ ReturnsTo
      → these_at i ≡ popped ∷ caller ∷ callers → caller.standing ≡ In c → Counts F image costs first rest c (last_of caller) (suc i)
  goes_on i c popped caller callers within move these context h counter is_head is_counter from_in to_in =
      let o = on i popped (caller ∷ callers) (omega arith) these in
      by o.f o.below o.are o.frames o.belows
    where
      due : due_at image first rest i ≡ Returns
      due = returns_by (due_at image first rest i) move

      by : (g : Frame) (below : List Frame) → frames_at image first rest i ≡ g ∷ below → AreFrames F image first rest (caller ∷ callers) below
          → AreBelow F image costs first rest i g (caller ∷ callers) below
          → (run_of F image costs first rest).content (suc i) counter.cell + counter.changes.down ((run_of F image costs first rest).node c (last_of caller))
          ≡ (run_of F image costs first rest).content (last_of caller) counter.cell + counter.changes.up
          ((run_of F image costs first rest).node c (last_of caller))
      by g [] are frames belows = elim frames [ ]
      by g (f ∷ below) are frames belows =
          let since = belows.0 in
          let early : last_of caller < last = (let less = belows.1 in omega arith) in
          let stands : standing_of F (f ∷ below) ≡ In c = sym frames.0.standing ∙ context in
          let has = in_one (f ∷ below) c stands in
          let here = clear (last_of caller) c f below (omega arith) since.frames stands in
          let d = taken (last_of caller) c f below early since.frames stands has in
          let change = counts_from (last_of caller) c h counter f below early since.frames stands is_head is_counter from_in in
          let into : (place_of (due_at image first rest (last_of caller)) f (at (last_of caller))).next ≡ Into g.sub =
          ap (λ (to : Transfer). (place_of to f (at (last_of caller))).next) since.due in
          let free = call_leaves f below g early since.frames stands into in
          let low = changes.low c h counter has is_counter in
          let depth : depth_from f.start.cwp (at (suc (last_of caller))).cwp ≡ d.step.depth =
          depths.below f.start.cwp (at (suc (last_of caller))).cwp d.step.depth here.entered.0.machine.window d.covers_next.machine.window
          (let s = d.shallow in omega arith) d.covers_next.covers.window in
          let lends : has_cell (lent x f g) counter.cell ≡ false =
          subst (λ (m : Machine). has_cell (after_call (summary_in x g.sub).written (depth_from f.start.cwp m.cwp)) counter.cell ≡ false) since.start
          (subst (λ (n : ℕ). has_cell (after_call (summary_in x g.sub).written n) counter.cell ≡ false) (sym depth) free) in
          let kept = kept_by i c g f below within due are here.plain counter.cell low lends in
          let pushed : content_of g.start f.start.cwp counter.cell ≡ content_of (at (suc (last_of caller))) f.start.cwp counter.cell =
          ap (λ (m : Machine). content_of m f.start.cwp counter.cell) (sym since.start) in
          let same : place_of_word (content_of (at (suc i)) f.start.cwp counter.cell) ≡
          place_of_word (content_of (at (suc (last_of caller))) f.start.cwp counter.cell) =
          ap (λ (w : ℕ). place_of_word w) (kept ∙ pushed) in
          let next : frames_at image first rest (suc i) ≡ f ∷ below = frames_next i (g ∷ f ∷ below) Returns within are due in
          let from = content_is (last_of caller) counter.cell f below (omega arith) since.frames in
          let to = content_is (suc i) counter.cell f below (omega arith) next in
          omega (arith, change, same, from, to)
        where
          call_leaves : (f : Frame) (below : List Frame) (g : Frame) (early : last_of caller < last)
              (are : frames_at image first rest (last_of caller) ≡ f ∷ below)
              (stands : standing_of F (f ∷ below) ≡ In c) → (place_of (due_at image first rest (last_of caller)) f (at (last_of caller))).next ≡ Into g.sub
              → has_cell (after_call (summary_in x g.sub).written
              (taken (last_of caller) c f below early are stands (in_one (f ∷ below) c stands)).step.depth) counter.cell ≡ false
          call_leaves f below g early are stands into = choose
              (changes.changes c h counter (place_of (due_at image first rest (last_of caller)) f (at (last_of caller))) d.step d.way d.before d.after
              (in_one (f ∷ below) c stands) is_head is_counter (subst (λ (n : ℕ). (F.family c).loops.body h n ≡ true) node from_in) d.taken)
            where
              d : IsDone (contexts.thresholds c) image list eight (F.facts c)
                  (place_of (due_at image first rest (last_of caller)) f (at (last_of caller))) f (at (last_of caller)) (at (suc (last_of caller)))
              d = taken (last_of caller) c f below early are stands (in_one (f ∷ below) c stands)

              node : (run_of F image costs first rest).node c (last_of caller) ≡
                  F.number c (place_of (due_at image first rest (last_of caller)) f (at (last_of caller)))
              node = node_is F image costs list x root first rest last placed (last_of caller) c f below (due_at image first rest (last_of caller)) are refl

              choose : Leaves x (place_of (due_at image first rest (last_of caller)) f (at (last_of caller))) d.step counter.cell
                  (counter.changes.up (F.number c (place_of (due_at image first rest (last_of caller)) f (at (last_of caller)))))
                  (counter.changes.down (F.number c (place_of (due_at image first rest (last_of caller)) f (at (last_of caller)))))
                  ⊎ Adds (place_of (due_at image first rest (last_of caller)) f (at (last_of caller))) d.step d.before counter.cell
                  (counter.changes.up (F.number c (place_of (due_at image first rest (last_of caller)) f (at (last_of caller)))))
                  (counter.changes.down (F.number c (place_of (due_at image first rest (last_of caller)) f (at (last_of caller)))))
                  → has_cell (after_call (summary_in x g.sub).written
                  (taken (last_of caller) c f below early are stands (in_one (f ∷ below) c stands)).step.depth) counter.cell ≡ false
              choose (inl leaves) = leaves.call g.sub into
              choose (inr adds) = absurd (adds.stays g.sub into)

-- where the program points of contexts change the cells of counters as these say, and asserted counts are kept, at each
-- head of a run the cell is within the counter's numbers, and each step, and each call as a whole, changes it by what its
-- node adds and takes
pub counters_count : CountersCount
counters_count t image costs list eight x F bound thresholds closed contexts changes root first rest last placed asserted = record {
  within = λ place c top below near these context.
      within_numbers t image costs list eight x F bound thresholds closed contexts changes root first rest last placed place c top below near these context;
  asserted = asserted;
  goes = λ place c top below near move these context.
      goes t image costs list eight x F bound thresholds closed contexts changes root first rest last placed place c top below near move these context;
  goes_on = λ place c popped caller below near move these context.
      goes_on t image costs list eight x F bound thresholds closed contexts changes root first rest last placed place c popped caller below near move
      these context;
}
