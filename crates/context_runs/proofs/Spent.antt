-- Frames of a run walk the graphs of their contexts and spend at most their bounds.
use Rattle.std.proofs.Common.{◌≡◌, ℕ, zero, suc, ◌+◌, ◌<◌, ◌≤◌, inl, inr, Bool, true, false, List, [], ◌∷◌, ◌++◌, Option, Some, refl, sym, ap, subst}
use Rattle.std.proofs.Common.{◌∙◌, arith}
use Rattle.std.specs.Prelude.{All, is_some}
use Rattle.abs_state.specs.declared.key.Key.TheVariants as key
use Rattle.assert_bind.specs.Binding.{stub}
use Rattle.assert_bind.specs.declared.body.BoundAssertion.{BoundAssertion}
use Rattle.context_runs.proofs.Joining.{are_followed}
use Rattle.context_runs.proofs.Linking.{AreLinked}
use Rattle.context_runs.proofs.Placing.{facts_are, followed, linked, window}
use Rattle.context_runs.specs.Contexts.{Contexts, facts_of, follows_from, standing_of}
use Rattle.context_runs.specs.Joined.{AreFrames, HaveSpent, IsJoinable, PoppedSpent, RunsKeepContexts, move_of, root_of, run_of}
use Rattle.frame_laws.proofs.Spending.{frames_in_bounds, popped_spend}
use Rattle.frame_laws.proofs.Walking.{frames_on_walks}
use Rattle.frame_laws.specs.Activation.{Activation, is_stub as is_timed, stack_at}
use Rattle.frame_laws.specs.Context.{Standing, Free, Stub, In, IsSound}
use Rattle.frame_laws.specs.Laws.{SpendsTo}
use Rattle.sparc_machine.specs.Frame.{Frame, due_at, frames_at, machine_at}
use Rattle.sparc_machine.specs.declared.machine.Machine.{Machine}
use Rattle.stack_laws.specs.Followed.{Holds}
use Rattle.stack_laws.specs.Standing.{AreWaiting, waiting_place}
use Rattle.stack_laws.specs.StepFacts.{ArePlain, is_stub}
use Rattle.transfer_rules.specs.Give.{Facts}

-- a truth value isn't both
both : (b : Bool) → b ≡ true → b ≡ false → ⊥
both true e f = cc
both false e f = cc

module _
    (F : Contexts)
    (image costs : List ℕ)
    (list : List BoundAssertion)
    (x : Facts)
    (root : ℕ)
    (first : Machine)
    (rest : List Machine)
    (last : ℕ)
    (join : IsJoinable F image costs list x root first rest last)
  where
    abbrev these_at : ℕ → List Activation
    these_at i = stack_at F.family (run_of F image costs first rest) (root_of F first) i

    frames_are : (i : ℕ) (these : List Activation) (frames : List Frame) → AreLinked F image costs first rest i these frames
        → AreFrames F image first rest these frames
    frames_are i [] [] l = tt
    frames_are i (a ∷ callers) (f ∷ below) l = (l.0, l.2)
    frames_are i [] (f ∷ below) l = elim l [ ]
    frames_are i (a ∷ callers) [] l = elim l [ ]

    -- where no frame is a stub's, none has a context's place for one
    not_timed : (f : Frame) (below : List Frame) (m : Machine) → ArePlain list (f ∷ below) → AreWaiting (facts_of F x) x f below m → (time : ℕ)
        → standing_of F (f ∷ below) ≡ Stub time → ⊥
    not_timed f [] m plain waiting time is = (((join.placed).filled).root_free) f.sub time is
    not_timed f (g ∷ below) m plain waiting time is = by (standing_of F (g ∷ below)) refl is where
      by : (s : Standing) → standing_of F (g ∷ below) ≡ s → follows_from F s (waiting_place g f) ≡ Stub time → ⊥
      by Free here e = cc
      by (Stub other) here e = cc
      by (In c) here e =
          let there : is_some (F.facts c (key.Call (waiting_place g f) f.sub)) ≡ true =
          subst (λ (facts : Facts). is_some (facts (key.Call (waiting_place g f) f.sub)) ≡ true)
          (facts_are image costs list F x (join.placed).filled (g ∷ below) c here) (waiting.0).called in
          let asserted : stub list f.sub ≡ Some time =
          (((join.placed).filled).time) c (waiting_place g f) f.sub time (record { there = there; into = refl }) e in
          both (is_stub list f.sub) (ap (λ (o : Option ℕ). is_some o) asserted) plain.0

    standing_not : (s : Standing) → ((time : ℕ) → s ≡ Stub time → ⊥) → is_timed s ≡ false
    standing_not Free none = refl
    standing_not (Stub time) none = absurd (none time refl)
    standing_not (In c) none = refl

    all_free : (m : Machine) (these : List Activation) (f : Frame) (below : List Frame) → AreFrames F image first rest these (f ∷ below)
        → ArePlain list (f ∷ below) → AreWaiting (facts_of F x) x f below m → All (λ a. is_timed a.standing ≡ false) these
    all_free m [] f below frames plain waiting k d within = absurd (omega arith)
    all_free m (a ∷ callers) f below frames plain waiting zero d within =
        standing_not a.standing (λ time e. not_timed f below m plain waiting time (sym (frames.0).standing ∙ e))
    all_free m (a ∷ []) f below frames plain waiting (suc k) d within = absurd (omega arith)
    all_free m (a ∷ b ∷ callers) f [] frames plain waiting (suc k) d within = elim frames.1 [ ]
    all_free m (a ∷ b ∷ callers) f (g ∷ below) frames plain waiting (suc k) d within =
        all_free m (b ∷ callers) g below frames.1 plain.1 waiting.1 k d (omega arith)

    have : (cycles : ℕ) (these : List Activation) (frames : List Frame) → AreFrames F image first rest these frames
        → All (SpendsTo F.family (run_of F image costs first rest) cycles) these → HaveSpent F cycles frames
    have cycles [] [] are all = tt
    have cycles (a ∷ callers) (f ∷ below) are all = (
      λ c most is bound.
          (let spends = all 0 a (omega arith) c most ((are.0).standing ∙ is) bound in
          let begun : (machine_at image first rest a.first).cycles ≡ f.start.cycles = ap (λ (m : Machine). m.cycles) (are.0).start in
          omega (arith, spends, begun)),
      have cycles callers below are.1 (λ k d within. all (suc k) d (omega arith)),
    )
    have cycles [] (f ∷ below) are all = elim are [ ]
    have cycles (a ∷ callers) [] are all = elim are [ ]

    among : (inner : List Frame) (lowest : Frame) (others : List Frame) → is_stub list lowest.sub ≡ true → ArePlain list (inner ++ lowest ∷ others) → ⊥
    among [] lowest others stub plain = both (is_stub list lowest.sub) stub plain.0
    among (h ∷ inner) lowest others stub plain = among inner lowest others stub plain.1

    spend : (sound : IsSound F.family) (i : ℕ) → i ≤ last → (frames : List Frame) → frames_at image first rest i ≡ frames → ArePlain list frames
        → HaveSpent F (machine_at image first rest i).cycles frames
    spend sound i within [] are plain = tt
    spend sound i within (f ∷ below) are plain =
        let links = subst (λ (l : List Frame). AreLinked F image costs first rest i (these_at i) l) are
        (linked F image costs list x root first rest last (join.placed) i within) in
        let frames = frames_are i (these_at i) (f ∷ below) links in
        let here = followed F image costs list x root first rest last (join.placed) i within in
        let holds = subst
        (λ (l : List Frame).
        Holds image list (facts_of F x) x (window F image costs list x root first rest last (join.placed)) (due_at image first rest i) l
        (machine_at image first rest i))
        are
        here.holds in
        let free : All (λ (a : Activation). is_timed a.standing ≡ false) (these_at i) = elim holds [
          | inl clear ↦ all_free (machine_at image first rest i) (these_at i) f below frames plain clear.waiting
          | inr b ↦ absurd (among b.inner b.lowest (b.below ∷ b.rest) b.stub (subst (λ (l : List Frame). ArePlain list l) b.are plain))
        ] in
        have (machine_at image first rest i).cycles (these_at i) (f ∷ below) frames
        (frames_in_bounds F.family (run_of F image costs first rest) (root_of F first) last sound
        (are_followed F image costs list x root first rest last join) i within free)

    popped : (sound : IsSound F.family) (i : ℕ) → i < last → PoppedSpent F image first rest i
    popped sound i within f below c most due are stands bound =
        by (these_at i) refl
        (subst (λ (l : List Frame). AreLinked F image costs first rest i (these_at i) l) are
        (linked F image costs list x root first rest last (join.placed) i (omega arith)))
      where
        by : (these : List Activation) → these_at i ≡ these → AreLinked F image costs first rest i these (f ∷ below)
            → (machine_at image first rest (suc i)).cycles ≤ f.start.cycles + most
        by [] is links = elim links [ ]
        by (a ∷ callers) is links =
            let spends = popped_spend F.family (run_of F image costs first rest) (root_of F first) last sound
            (are_followed F image costs list x root first rest last join) i a callers within (ap move_of due) is c most
            ((links.0).standing ∙ stands) bound in
            let begun : (machine_at image first rest a.first).cycles ≡ f.start.cycles = ap (λ (m : Machine). m.cycles) (links.0).start in
            omega (arith, spends, begun)

-- where the graphs of contexts are filled in from their facts, and what counts in them counts, each frame of a run has at
-- each place walked the graph of its context keeping the head bounds, and each frame with a bounded context has spent at
-- most its bound, at each place without a subprogram that isn't looked into and at its pop
pub runs_keep_contexts : RunsKeepContexts
runs_keep_contexts F image costs list x root first rest last sound join i within = (
  record {
    frames =
        frames_are F image costs list x root first rest last join i (these_at F image costs list x root first rest last join i) (frames_at image first rest i)
        (linked F image costs list x root first rest last (join.placed) i within);
    walk =
        frames_on_walks F.family (run_of F image costs first rest) (root_of F first) last sound
        (are_followed F image costs list x root first rest last join) i within;
    spend = λ plain. spend F image costs list x root first rest last join sound i within (frames_at image first rest i) refl plain;
  },
  λ less. popped F image costs list x root first rest last join sound i less,
)
