-- What each place of a run owes to the contexts of its frames.
use Rattle.std.proofs.Common.{◌≡◌, ℕ, zero, suc, ◌<◌, ◌≤◌, inl, inr, Bool, true, false, List, [], ◌∷◌, ◌++◌, length, refl, sym, ap, subst, ◌∙◌, arith}
use Rattle.std.specs.Prelude.{is_some}
use Rattle.abs_state.specs.declared.key.Key.TheVariants as key
use Rattle.abs_state.specs.declared.key.Next.TheVariants.{Into}
use Rattle.abs_state.specs.declared.key.Place.{Place}
use Rattle.assert_bind.specs.declared.body.BoundAssertion.{BoundAssertion}
use Rattle.context_runs.proofs.Linking.{AreLinked, ArePushes, linked_after}
use Rattle.context_runs.specs.Contexts.{AreFilled, Contexts, IsCalled, facts_by, facts_of, follows_from, standing_of}
use Rattle.context_runs.specs.Joined.{IsPlaced, root_of, run_of, top_of}
use Rattle.frame_laws.specs.Activation.{Activation, stack_at}
use Rattle.frame_laws.specs.Context.{Standing, Free, Stub, In}
use Rattle.sparc_machine.specs.Frame.{Frame, Transfer, Stays, Calls, Returns, due_at, frames_at, machine_at, root_frame}
use Rattle.sparc_machine.specs.declared.machine.Machine.{Machine}
use Rattle.sparc_runs.proofs.Places.{at_places}
use Rattle.sparc_runs.proofs.RunLaws.{runs_running}
use Rattle.sparc_runs.proofs.Transfers.{keep_links}
use Rattle.sparc_runs.specs.Running.{IsRunning, IsRunningAt}
use Rattle.sparc_runs.specs.Window.{depth_from}
use Rattle.stack_laws.proofs.Runs.{runs_followed}
use Rattle.stack_laws.specs.Followed.{Holds, IsClear, IsFollowed, IsFollowedAt}
use Rattle.stack_laws.specs.Standing.{Waits, place_of, waiting_place}
use Rattle.stack_laws.specs.StepFacts.{is_stub, pushed}
use Rattle.transfer_rules.specs.Give.{Facts}

-- a truth value isn't both
both : (b : Bool) → b ≡ true → b ≡ false → ⊥
both true e f = cc
both false e f = cc

module _ (image costs : List ℕ) (list : List BoundAssertion) (F : Contexts) (x : Facts) (filled : AreFilled image costs list F) where
  -- the facts of a frame in a context are the context's
  pub facts_are : (frames : List Frame) (c : ℕ) → standing_of F frames ≡ In c → facts_of F x frames ≡ F.facts c
  facts_are frames c is = ap (λ (s : Standing). facts_by F x s) is

  -- a frame that a stub's frame was pushed on leads to no context
  pub stub_is_free : (lowest below : Frame) (rest : List Frame) (m : Machine) → is_stub list lowest.sub ≡ true
      → Waits (facts_of F x (below ∷ rest)) x below lowest m → (c : ℕ) → standing_of F (lowest ∷ below ∷ rest) ≡ In c → ⊥
  stub_is_free lowest below rest m stub waits c is = by (standing_of F (below ∷ rest)) refl is where
    by : (s : Standing) → standing_of F (below ∷ rest) ≡ s → follows_from F s (waiting_place below lowest) ≡ In c → ⊥
    by Free here e = cc
    by (Stub time) here e = cc
    by (In d) here e =
        let there : is_some (F.facts d (key.Call (waiting_place below lowest) lowest.sub)) ≡ true =
        subst (λ (facts : Facts). is_some (facts (key.Call (waiting_place below lowest) lowest.sub)) ≡ true) (facts_are (below ∷ rest) d here) waits.called in
        both (is_stub list lowest.sub) stub ((filled.plain) d (waiting_place below lowest) lowest.sub c (record { there = there; into = refl }) e)

  -- nor do those above it
  pub above_is_free : (inner : List Frame) (lowest below : Frame) (rest : List Frame) → ((c : ℕ) → standing_of F (lowest ∷ below ∷ rest) ≡ In c → ⊥)
      → (c : ℕ) → standing_of F (inner ++ lowest ∷ below ∷ rest) ≡ In c → ⊥
  above_is_free [] lowest below rest none c is = none c is
  above_is_free (f ∷ []) lowest below rest none c is = by (standing_of F (lowest ∷ below ∷ rest)) refl is where
    by : (s : Standing) → standing_of F (lowest ∷ below ∷ rest) ≡ s → follows_from F s (waiting_place lowest f) ≡ In c → ⊥
    by Free here e = cc
    by (Stub time) here e = cc
    by (In d) here e = none d here
  above_is_free (f ∷ g ∷ inner) lowest below rest none c is =
      by (above_is_free (g ∷ inner) lowest below rest none) (standing_of F (g ∷ inner ++ lowest ∷ below ∷ rest)) refl is
    where
      by : ((d : ℕ) → standing_of F (g ∷ inner ++ lowest ∷ below ∷ rest) ≡ In d → ⊥) → (s : Standing)
          → standing_of F (g ∷ inner ++ lowest ∷ below ∷ rest) ≡ s → follows_from F s (waiting_place g f) ≡ In c → ⊥
      by away Free here e = cc
      by away (Stub time) here e = cc
      by away (In d) here e = away d here

  -- a machine whose frame is in a context has no stub's frame on its stack
  pub clear_of : (invalid : ℕ) (due : Transfer) (f : Frame) (below : List Frame) (m : Machine) (c : ℕ)
      → Holds image list (facts_of F x) x invalid due (f ∷ below) m → standing_of F (f ∷ below) ≡ In c
      → IsClear image list (facts_of F x) x invalid due f below m
  clear_of invalid due f below m c (inl clear) is = clear
  clear_of invalid due f below m c (inr b) is =
      absurd
      (above_is_free b.inner b.lowest b.below b.rest (stub_is_free b.lowest b.below b.rest b.lowest.start b.stub (b.waiting).0) c
      (subst (λ (frames : List Frame). standing_of F frames ≡ In c) b.are is))

module _
    (F : Contexts)
    (image costs : List ℕ)
    (list : List BoundAssertion)
    (x : Facts)
    (root : ℕ)
    (first : Machine)
    (rest : List Machine)
    (last : ℕ)
    (join : IsPlaced F image costs list x root first rest last)
  where
    -- every place up to the last is followed
    abbrev pub window : ℕ
    window = (runs_followed image costs list (facts_of F x) x root first rest join.follows).0

    -- each place of the run is followed
    pub followed : (i : ℕ) → i ≤ last → IsFollowedAt image list (facts_of F x) x window first rest i
    followed i within =
        let most = join.last_within in
        (runs_followed image costs list (facts_of F x) x root first rest join.follows).1 i (omega arith) (λ j less. join.before j (omega arith))

    abbrev pub run_mask : ℕ
    run_mask = (runs_running image costs root first rest (join.follows).bytes (join.follows).begins (join.follows).runs).0

    -- what holds of each machine of the run
    pub running : (i : ℕ) → IsRunningAt image run_mask first rest i
    running i = (runs_running image costs root first rest (join.follows).bytes (join.follows).begins (join.follows).runs).2 i

    abbrev next : ℕ → Machine
    next i = machine_at image first rest (suc i)

    -- the program point of a call is where its frame waits
    pub waits_there : (i target address : ℕ) (f : Frame) → i < length rest → due_at image first rest i ≡ Calls target address
        → place_of (Calls target address) f (machine_at image first rest i) ≡ waiting_place f (pushed target address (next i))
    waits_there i target address f within due =
        let here = (running i).running in
        let is = subst (λ (d : Transfer). IsRunning image run_mask
        (record { machine = machine_at image first rest i; due = d; frames = frames_at image first rest i })) due here in
        let steps = ((at_places image costs first rest (join.follows).runs).steps) i within in
        let link = keep_links image costs target address (machine_at image first rest i) (next i) is.machine is.due steps in
        let same : depth_from f.start.cwp (machine_at image first rest i).cwp ≡ depth_from f.start.cwp (next i).cwp =
        ap (λ (w : ℕ). depth_from f.start.cwp w) (sym link.window) in
        λ j. record { sub = f.sub; pc = (is.due).pc j; next = Into target; depth = same j }

    -- the node at a place
    pub node_is : (i c : ℕ) (f : Frame) (below : List Frame) (due : Transfer) → frames_at image first rest i ≡ f ∷ below → due_at image first rest i ≡ due
        → (run_of F image costs first rest).node c i ≡ F.number c (place_of due f (machine_at image first rest i))
    node_is i c f below due frames is =
        ap (λ (l : List Frame). F.number c (place_of (due_at image first rest i) (top_of (root_frame first) l) (machine_at image first rest i))) frames
        ∙ ap (λ (d : Transfer). F.number c (place_of d f (machine_at image first rest i))) is

    -- how the step from a place is followed where the frame on top is in a context
    pub follows_step : (i c : ℕ) (f : Frame) (below : List Frame) (due : Transfer) → i < last → frames_at image first rest i ≡ f ∷ below
        → due_at image first rest i ≡ due → standing_of F (f ∷ below) ≡ In c
        → IsFollowed image (facts_of F x) x due (due_at image first rest (suc i)) f below (machine_at image first rest i) (next i)
    follows_step i c f below due within frames is context =
        let most = join.last_within in
        let here = followed i (omega arith) in
        let holds = subst (λ (l : List Frame). Holds image list (facts_of F x) x window (due_at image first rest i) l
        (machine_at image first rest i)) frames here.holds in
        let clear = clear_of image costs list F x (join.filled) window (due_at image first rest i) f below (machine_at image first rest i) c holds context in
        let step = here.steps (omega arith) (λ j less. join.before j (omega arith)) f below frames in
        subst (λ (d : Transfer). IsFollowed image (facts_of F x) x d (due_at image first rest (suc i)) f below (machine_at image first rest i) (next i)) is
        (step.plain clear.plain)

    -- a call of a frame in a context is among the context's facts
    pub called_there : (i c target address : ℕ) (f : Frame) (below : List Frame) → i < last → frames_at image first rest i ≡ f ∷ below
        → due_at image first rest i ≡ Calls target address → standing_of F (f ∷ below) ≡ In c
        → IsCalled F c (waiting_place f (pushed target address (next i))) target
    called_there i c target address f below within frames is context =
        let most = join.last_within in
        let step = follows_step i c f below (Calls target address) within frames is context in
        let there = subst (λ (facts : Facts). is_some (facts (key.Call (place_of (Calls target address) f (machine_at image first rest i)) target)) ≡ true)
        (facts_are image costs list F x join.filled (f ∷ below) c context)
        step.0 in
        record {
          there = subst (λ (p : Place). is_some (F.facts c (key.Call p target)) ≡ true) (waits_there i target address f (omega arith) is) there;
          into = refl;
        }

    pushes : (i : ℕ) → i < last → (due : Transfer) → due_at image first rest i ≡ due → (frames : List Frame) → frames_at image first rest i ≡ frames
        → ArePushes F image costs first rest i due frames
    pushes i within Stays is frames are = tt
    pushes i within (Calls target address) is [] are = tt
    pushes i within (Calls target address) is (f ∷ below) are =
        let most = join.last_within in (
          record {
            node = λ c. node_is i c f below (Calls target address) are is ∙ ap (λ (p : Place). F.number c p) (waits_there i target address f (omega arith) is);
            leads = λ c context.
                ((join.filled).leads) c (waiting_place f (pushed target address (next i))) target
                (called_there i c target address f below within are is context);
          },
          is,
          are,
        )
    pushes i within Returns is frames are = tt

    abbrev these_at : ℕ → List Activation
    these_at i = stack_at F.family (run_of F image costs first rest) (root_of F first) i

    -- the activations at each place are the frames there
    pub linked : (i : ℕ) → i ≤ last → AreLinked F image costs first rest i (stack_at F.family (run_of F image costs first rest) (root_of F first) i)
        (frames_at image first rest i)
    linked zero within = (record { standing = refl; start = refl }, refl, tt, tt)
    linked (suc i) within =
        let most = join.last_within in
        let before = linked i (omega arith) in
        let push = pushes i within (due_at image first rest i) refl (frames_at image first rest i) refl in
        let after = linked_after F image costs first rest i (due_at image first rest i) (these_at i) (frames_at image first rest i) before push in
        subst (λ (frames : List Frame). AreLinked F image costs first rest (suc i) (these_at (suc i)) frames)
        (sym (((at_places image costs first rest (join.follows).runs).frames) i (omega arith)))
        after
