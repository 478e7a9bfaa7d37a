-- The facts of the contexts of frames are covered by each step of a run.
use Rattle.std.proofs.Common.{◌≡◌, ℕ, ◌+◌, ◌%◌, ◌^◌, ◌<◌, Bool, true, false, List, [], ◌∷◌, Option, Some, None, refl, sym, ap, subst, ◌∙◌, arith}
use Rattle.abs_state.proofs.OrderLemmas.{states_are_ordered}
use Rattle.abs_state.specs.State.{State, entry_state, is_at_most as is_state_at_most}
use Rattle.abs_state.specs.declared.key.Key.TheVariants as key
use Rattle.abs_state.specs.declared.key.Next.TheVariants.{At}
use Rattle.abs_state.specs.declared.key.Place.{Place}
use Rattle.assert_bind.proofs.StubLemmas.{stubs_those}
use Rattle.assert_bind.specs.declared.body.BoundAssertion.{BoundAssertion}
use Rattle.call_effects.specs.Summary.{effects_of_stub, is_at_most}
use Rattle.call_effects.specs.declared.summary.Summary.{Summary as Effects}
use Rattle.closed_steps.proofs.Covering.{closed_answers, graphs_cover_steps}
use Rattle.closed_steps.proofs.Following.{keeps_stubs, root_no_stub}
use Rattle.closed_steps.proofs.Leading.{same_place, summary_is}
use Rattle.closed_steps.specs.Graph.{Answers, IsBound}
use Rattle.closed_steps.specs.Runs.{IsRun}
use Rattle.context_facts.proofs.Answering.{contexts_answer, contexts_enter}
use Rattle.context_facts.specs.Context.{AreLawful, IsContext}
use Rattle.context_runs.proofs.Spent.{runs_keep_contexts}
use Rattle.context_runs.specs.Contexts.{Contexts, facts_by, facts_of, follows_from, standing_of}
use Rattle.flow_system.specs.State.{IsClosed}
use Rattle.frame_laws.specs.Context.{Free, In, Standing, Stub}
use Rattle.sparc_machine.specs.Frame.{Frame, Stays, root_frame}
use Rattle.sparc_machine.specs.declared.machine.Machine.{Machine}
use Rattle.sparc_runs.proofs.Bounds.{operands_words}
use Rattle.sparc_runs.proofs.Levels.{depths}
use Rattle.sparc_runs.proofs.MeetLaws.{sights_meet}
use Rattle.sparc_runs.specs.Meets.{Heads}
use Rattle.sparc_runs.specs.Window.{depth_from}
use Rattle.stack_laws.specs.Standing.{Stands, place_of, summary_in, waiting_place}
use Rattle.stack_laws.specs.StepFacts.{StepFacts, is_stub}
use Rattle.state_covers.proofs.CoverLemmas.{entries_cover, greater_states_cover}
use Rattle.state_covers.specs.Covers.{Covers}
use Rattle.transfer_acts.proofs.Depths.{programs_are_lawful}
use Rattle.transfer_acts.specs.Program.{program_of}
use Rattle.transfer_rules.proofs.Closing.{closed_calls, closed_starts}
use Rattle.transfer_rules.specs.Closed.{HasState, IsTaken}
use Rattle.transfer_rules.specs.Fact.{state_in}
use Rattle.transfer_rules.specs.Give.{Facts, arguments, entered_with, entry_of}
use Rattle.transfer_rules.specs.Lawful.{rules_of}
use Rattle.transfer_rules.specs.declared.act.Way.TheVariants.{Onward}
use Rattle.transfer_rules.specs.declared.fact.Fact.TheVariants as fact
use Rattle.transfer_rules.specs.declared.step.Step.{Step}
use Rattle.transfer_values.proofs.LawLemmas.{families_are_lawful}
use Rattle.transfer_values.specs.Family.{family}
use Rattle.transfer_values.specs.Resolve.{widest}
use Rattle.value_lattice.specs.Thresholds.{IsThresholds}
use Rattle.context_steps.specs.Followed.{AreContexts, ContextsCoverSteps, ContextsFollowRuns, RunsArePlaced, RunsSpendBounds}

module _ (t image : List ℕ) (list : List BoundAssertion) (eight : Bool) (x : Facts) (F : Contexts) (bound : IsBound image list)
    (thresholds : IsThresholds t) (closed : IsClosed (rules_of t (family t image list) (program_of image list eight (widest image list))) x)
    (contexts : AreContexts image list eight t x F) where
  -- how a frame stands is in one of the contexts, if in any
  abbrev pub Exists : Standing → Type 0
  Exists Free = Unit {0}
  Exists (Stub time) = Unit {0}
  Exists (In c) = contexts.has c ≡ true

  root_exists : (root : ℕ) (s : Standing) → F.roots root ≡ s → Exists s
  root_exists root Free is = tt
  root_exists root (Stub time) is = tt
  root_exists root (In c) is = contexts.roots root c is

  next_exists : (s : Standing) (p : Place) → Exists s → (r : Standing) → follows_from F s p ≡ r → Exists r
  next_exists Free p has r is = subst Exists is tt
  next_exists (Stub time) p has r is = subst Exists is tt
  next_exists (In c) p has Free is = tt
  next_exists (In c) p has (Stub time) is = tt
  next_exists (In c) p has (In d) is = contexts.follows c d p has is

  -- the contexts of a stack exist
  pub stack_exists : (stack : List Frame) → Exists (standing_of F stack)
  stack_exists [] = tt
  stack_exists (root ∷ []) = root_exists root.sub (F.roots root.sub) refl
  stack_exists (callee ∷ frame ∷ rest) =
      next_exists (standing_of F (frame ∷ rest)) (waiting_place frame callee) (stack_exists (frame ∷ rest))
      (follows_from F (standing_of F (frame ∷ rest)) (waiting_place frame callee)) refl

  abbrev widened : Standing → List ℕ
  widened Free = t
  widened (Stub time) = t
  widened (In c) = contexts.thresholds c

  are_thresholds : (s : Standing) → Exists s → IsThresholds (widened s)
  are_thresholds Free has = thresholds
  are_thresholds (Stub time) has = thresholds
  are_thresholds (In c) has = contexts.are c has

  lawful : (c : ℕ) → contexts.has c ≡ true
      → AreLawful t (contexts.thresholds c) (family t image list) (family (contexts.thresholds c) image list) (program_of image list eight (widest image list))
  lawful c has = record {
    coarse = families_are_lawful.lawful t image list thresholds;
    fine = families_are_lawful.lawful (contexts.thresholds c) image list (contexts.are c has);
    finer = families_are_lawful.finer t (contexts.thresholds c) image list thresholds (contexts.are c has) (contexts.wider c has);
    program = programs_are_lawful image list eight (widest image list);
  }

  answers : (s : Standing) → Exists s → Answers (widened s) (family (widened s) image list) (program_of image list eight (widest image list)) (facts_by F x s) x
  answers Free has = closed_answers t (family t image list) (program_of image list eight (widest image list)) x closed
  answers (Stub time) has = closed_answers t (family t image list) (program_of image list eight (widest image list)) x closed
  answers (In c) has =
      contexts_answer t (contexts.thresholds c) (family t image list) (family (contexts.thresholds c) image list)
      (program_of image list eight (widest image list))
      x (F.sub c) (contexts.arguments c) (F.facts c) (lawful c has) closed (contexts.facts c has)

  enters : (s : Standing) → Exists s → (frame callee : Frame) (step : Step) (before after : State)
      → IsTaken (family (widened s) image list) (program_of image list eight (widest image list)) (facts_by F x s)
      (waiting_place frame callee) step Onward before after
      → is_stub list callee.sub ≡ false
      → HasState (facts_by F x (follows_from F s (waiting_place frame callee))) (entry_of callee.sub) (entered_with (arguments step.depth after))
  enters Free has frame callee step before after is followed =
      closed_calls.enters t (family t image list) (program_of image list eight (widest image list)) x
      (waiting_place frame callee) callee.sub step before after closed is refl followed
  enters (Stub time) has frame callee step before after is followed =
      closed_calls.enters t (family t image list) (program_of image list eight (widest image list)) x
      (waiting_place frame callee) callee.sub step before after closed is refl followed
  enters (In c) has frame callee step before after is followed = by (F.follows c (waiting_place frame callee)) refl where
    whole : HasState x (entry_of callee.sub) (entered_with (arguments step.depth after))
    whole =
        contexts_enter.whole t (contexts.thresholds c) (family t image list) (family (contexts.thresholds c) image list)
        (program_of image list eight (widest image list))
        x (F.sub c) callee.sub (contexts.arguments c) (F.facts c) (waiting_place frame callee) step before after (lawful c has) closed
        (contexts.facts c has) is refl followed

    by : (r : Standing) → F.follows c (waiting_place frame callee) ≡ r
        → HasState (facts_by F x r) (entry_of callee.sub) (entered_with (arguments step.depth after))
    by Free leads = whole
    by (Stub time) leads = whole
    by (In d) leads =
        let there = contexts.follows c d (waiting_place frame callee) has leads in
        let same = contexts.callee c d callee.sub (waiting_place frame callee) has refl leads in
        contexts_enter.context t (contexts.thresholds c) (contexts.thresholds d) (family t image list) (family (contexts.thresholds c) image list)
        (family (contexts.thresholds d) image list)
        (program_of image list eight (widest image list)) x (F.sub c) callee.sub (contexts.arguments c) (contexts.arguments d) (F.facts c) (F.facts d)
        (waiting_place frame callee) step before after (lawful c has) closed (contexts.facts c has)
        (subst (λ (q : ℕ). IsContext (contexts.thresholds d) (family (contexts.thresholds d) image list)
        (program_of image list eight (widest image list)) x q (contexts.arguments d) (F.facts d)) same
        (contexts.facts d there))
        (λ given found. contexts.handed c d callee.sub (waiting_place frame callee) given has leads found) is refl

  stubs_say : (target : ℕ) → is_stub list target ≡ true → is_at_most effects_of_stub (summary_in x target) ≡ true
  stubs_say target is =
      let says = closed_starts.stubs t (family t image list) (program_of image list eight (widest image list)) x target closed
      (((stubs_those list bound.sound).each target).1 is) in
      subst (λ (e : Effects). is_at_most effects_of_stub e ≡ true) (sym (summary_is x target says.all says.found)) says.above

  pub cover_steps : (costs : List ℕ) → StepFacts image costs list (facts_of F x) x
  cover_steps costs =
      graphs_cover_steps image costs list eight (facts_of F x) x bound
      (record {
        thresholds = λ stack. widened (standing_of F stack);
        are = λ stack. are_thresholds (standing_of F stack) (stack_exists stack);
        answers = λ stack. answers (standing_of F stack) (stack_exists stack);
        enters = λ frame callee rest step before after is followed.
            enters (standing_of F (frame ∷ rest)) (stack_exists (frame ∷ rest)) frame callee step before after is followed;
        stubs = stubs_say;
      })

  -- the entry of a root, where its frame begins
  root_state : (root : ℕ) (s : Standing) → F.roots root ≡ s → HasState x (entry_of root) entry_state → HasState (facts_by F x s) (entry_of root) entry_state
  root_state root Free is has = has
  root_state root (Stub time) is has = has
  root_state root (In c) is has =
      let enters = (contexts.facts c (contexts.roots root c is)).enters in
      let same = contexts.root_sub root c is in
      record {
        state = enters.state;
        found = subst (λ (q : ℕ). F.facts c (key.Node (entry_of q)) ≡ Some (fact.State enters.state)) same enters.found;
        above = states_are_ordered.onward entry_state (entered_with (contexts.arguments c)) enters.state (contexts.root_args root c is) enters.above;
      }

  pub root_stands : (costs : List ℕ) (heads : Heads) (root : ℕ) (first : Machine) (rest : List Machine) → IsRun image costs list heads root first rest
      → Stands image (facts_of F x (root_frame first ∷ [])) Stays (root_frame first) first
  root_stands costs heads root first rest run =
      let whole = closed_starts.roots t (family t image list) (program_of image list eight (widest image list)) x root closed run.rooted in
      let here : HasState x (entry_of first.pc) entry_state = subst (λ (r : ℕ). HasState x (entry_of r) entry_state) (sym run.begins.pc) whole in
      let has = root_state first.pc (F.roots first.pc) refl here in
      let flat : depth_from first.cwp first.cwp ≡ 0 = depths.start first.cwp run.begins.machine.window in
      let npc : first.npc ≡ (first.pc + 4) % 2 ^ 32 = run.begins.npc ∙ ap (λ (a : ℕ). (a + 4) % 2 ^ 32) (sym run.begins.pc) in
      let same : entry_of first.pc ≡ place_of Stays (root_frame first) first =
      same_place (entry_of first.pc) (place_of Stays (root_frame first) first) refl refl (ap At (sym npc)) (sym flat) in
      record {
        state = has.state;
        is = subst (λ (r : Place). state_in (facts_of F x (root_frame first ∷ []) (key.Node r)) ≡ Some has.state) same (ap state_in has.found);
        shallow = subst (λ (n : ℕ). n < 2) (sym flat) (omega arith);
        covers = greater_states_cover entry_state has.state (depth_from first.cwp first.cwp) (root_frame first) first has.above run.begins.machine
            (operands_words.first first 15 run.begins.machine)
            (subst (λ (n : ℕ). Covers entry_state n (root_frame first) first) (sym flat) (entries_cover (root_frame first) run.begins.machine refl));
        leads = tt;
      }

-- each step of a run shows what the law of the stack asks of the facts of the contexts in which frames stand, and of a
-- closed state where a frame has no context
pub contexts_cover_steps : ContextsCoverSteps
contexts_cover_steps t image costs list eight x F bound thresholds closed contexts = cover_steps t image list eight x F bound thresholds closed contexts costs

-- a run from a root that meets the assertions can be followed over the facts of the contexts of its frames
pub contexts_follow_runs : ContextsFollowRuns
contexts_follow_runs t image costs list eight x F heads root first rest bound thresholds closed contexts run = record {
  bytes = bound.bytes;
  begins = run.begins;
  runs = run.runs;
  looked_into = root_no_stub list root bound.sound run.rooted;
  stands = root_stands t image list eight x F bound thresholds closed contexts costs heads root first rest run;
  meets = sights_meet image heads first rest list run.meets;
  stubs = keeps_stubs image heads first rest list run.meets;
  facts = contexts_cover_steps t image costs list eight x F bound thresholds closed contexts;
}

-- where the graphs of contexts are filled in from their facts, such a run stands at their program points, up to its first
-- gap
pub runs_are_placed : RunsArePlaced
runs_are_placed t image costs list eight x F heads root first rest last bound thresholds closed contexts run filled within before = record {
  follows = contexts_follow_runs t image costs list eight x F heads root first rest bound thresholds closed contexts run;
  filled = filled;
  last_within = within;
  before = before;
}

-- up to its first gap each frame of such a run walks the graph of its context keeping the bounds of its heads, and each
-- frame with a bounded context spends at most its bound, at each place and at its pop
pub runs_spend_bounds : RunsSpendBounds
runs_spend_bounds t image costs list eight x F heads root first rest last bound thresholds closed contexts run sound filled within before counted place low =
    runs_keep_contexts F image costs list x root first rest last sound
    (record {
      placed = runs_are_placed t image costs list eight x F heads root first rest last bound thresholds closed contexts run filled within before;
      counted = counted;
    }) place low
