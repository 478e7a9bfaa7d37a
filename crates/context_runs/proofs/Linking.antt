-- Activations of a run in contexts are the frames of the machine's stack.
use Rattle.std.proofs.Common.{◌≡◌, ℕ, suc, ◌<◌, List, [], ◌∷◌, ◌++◌, Some, refl, sym, ap, subst, ◌∙◌, arith}
use Rattle.std.specs.Prelude.{unwrap_or, Option}
use Rattle.context_runs.specs.Contexts.{Contexts, follows_from, standing_of}
use Rattle.context_runs.specs.Joined.{AreFrames, IsFrame, move_of, run_of}
use Rattle.frame_laws.specs.Activation.{Activation, called_from, last_of, stack_after}
use Rattle.frame_laws.specs.Context.{Standing, Free, Stub, In}
use Rattle.graph_laws.specs.Walk.{end_of}
use Rattle.sparc_machine.specs.Frame.{Frame, Transfer, Stays, Calls, Returns, due_at, frames_after, frames_at, machine_at}
use Rattle.sparc_machine.specs.declared.machine.Machine.{Machine}
use Rattle.stack_laws.specs.Standing.{waiting_place}
use Rattle.stack_laws.specs.StepFacts.{pushed}

-- a list ends with what is put behind it
end_behind : (n : ℕ) (rest : List ℕ) (place : ℕ) → end_of n (rest ++ place ∷ []) ≡ place
end_behind n [] place = refl
end_behind n (m ∷ rest) place = end_behind m rest place

module _ (F : Contexts) (image costs : List ℕ) (first : Machine) (rest : List Machine) where
  -- At a place a frame has waited since for the one that it called: it was on top there, at the program point where it waits,
  -- and the machine behind is the one with which the other began.
  pub record IsWaitingSince (place : ℕ) (f g : Frame) (below : List Frame) : Type 0 where
    pub node : (c : ℕ) → (run_of F image costs first rest).node c place ≡ F.number c (waiting_place f g)
    pub due : due_at image first rest place ≡ Calls g.sub g.caller
    pub frames : frames_at image first rest place ≡ f ∷ below
    pub start : machine_at image first rest (suc place) ≡ g.start

  -- each caller below a frame has waited since its last place, which is before a place
  abbrev pub AreBelow : ℕ → Frame → List Activation → List Frame → Type 0
  AreBelow i g [] [] = Unit {0}
  AreBelow i g (a ∷ callers) (f ∷ below) = IsWaitingSince (last_of a) f g below × (last_of a < i) × AreBelow i f callers below
  AreBelow i g [] (f ∷ below) = ⊥
  AreBelow i g (a ∷ callers) [] = ⊥

  -- so it is later
  below_later : (i : ℕ) (g : Frame) (callers : List Activation) (below : List Frame) → AreBelow i g callers below → AreBelow (suc i) g callers below
  below_later i g [] [] are = tt
  below_later i g (a ∷ callers) (f ∷ below) are = (are.0, (let less = are.1 in omega arith), below_later i f callers below are.2)
  below_later i g [] (f ∷ below) are = elim are [ ]
  below_later i g (a ∷ callers) [] are = elim are [ ]

  -- the activations at a place are the frames there
  abbrev pub AreLinked : ℕ → List Activation → List Frame → Type 0
  AreLinked i [] [] = Unit {0}
  AreLinked i (a ∷ callers) (f ∷ below) =
      IsFrame F image first rest a f below × (last_of a ≡ i) × AreFrames F image first rest callers below × AreBelow i f callers below
  AreLinked i [] (f ∷ below) = ⊥
  AreLinked i (a ∷ callers) [] = ⊥

  -- what is known of the step behind a call
  pub record IsPush (i target address : ℕ) (f : Frame) (below : List Frame) : Type 0 where
    pub node : (c : ℕ)
        → (run_of F image costs first rest).node c i ≡ F.number c (waiting_place f (pushed target address (machine_at image first rest (suc i))))
    pub leads : (c : ℕ) → standing_of F (f ∷ below) ≡ In c
        → (F.family c).leads (F.number c (waiting_place f (pushed target address (machine_at image first rest (suc i)))))
        ≡ Some (F.follows c (waiting_place f (pushed target address (machine_at image first rest (suc i)))))

  -- where a call is due, it is made from the frame on top, and pushes onto it
  abbrev pub ArePushes : ℕ → Transfer → List Frame → Type 0
  ArePushes i Stays frames = Unit {0}
  ArePushes i (Calls target address) [] = Unit {0}
  ArePushes i (Calls target address) (f ∷ below) =
      IsPush i target address f below × (due_at image first rest i ≡ Calls target address) × (frames_at image first rest i ≡ f ∷ below)
  ArePushes i Returns frames = Unit {0}

  abbrev next_frame : ℕ → ℕ → ℕ → Frame
  next_frame i target address = pushed target address (machine_at image first rest (suc i))

  -- how a frame stands that a call pushes
  called_is : (i target address : ℕ) (f : Frame) (below : List Frame) → IsPush i target address f below → (s : Standing) → standing_of F (f ∷ below) ≡ s
      → called_from F.family (run_of F image costs first rest) s i ≡ follows_from F s (waiting_place f (next_frame i target address))
  called_is i target address f below push Free is = refl
  called_is i target address f below push (Stub time) is = refl
  called_is i target address f below push (In c) is =
      ap (λ (n : ℕ). unwrap_or ((F.family c).leads n) Free) (push.node c) ∙ ap (λ (s : Option Standing). unwrap_or s Free) (push.leads c is)

  -- and behind a step they are the frames there
  pub linked_after : (i : ℕ) (due : Transfer) (these : List Activation) (frames : List Frame) → AreLinked i these frames → ArePushes i due frames
      → AreLinked (suc i) (stack_after F.family (run_of F image costs first rest) (move_of due) i these)
      (frames_after due (machine_at image first rest (suc i)) frames)
  linked_after i Stays [] [] linked push = tt
  linked_after i Stays (a ∷ callers) (f ∷ below) linked push = (
    record { standing = (linked.0).standing; start = (linked.0).start },
    end_behind a.first a.later
        (suc i),
    linked.2,
    below_later i f callers below linked.3,
  )
  linked_after i (Calls target address) [] [] linked push = tt
  linked_after i (Calls target address) (a ∷ callers) (f ∷ below) linked push = (
    record {
      standing =
          ap (λ (s : Standing). called_from F.family (run_of F image costs first rest) s i) (linked.0).standing
          ∙ called_is i target address f below push.0 (standing_of F (f ∷ below)) refl;
      start = refl;
    },
    refl,
    (linked.0, linked.2),
    (waiting_at (last_of a) linked.1, (let last = linked.1 in omega (arith, last)), below_later i f callers below linked.3),
  ) where
    waiting_at : (place : ℕ) → place ≡ i → IsWaitingSince place f (next_frame i target address) below
    waiting_at place at = subst (λ (n : ℕ). IsWaitingSince n f (next_frame i target address) below) (sym at) (record {
      node = (push.0).node;
      due = push.1;
      frames = push.2;
      start = refl;
    })
  linked_after i Returns [] [] linked push = tt
  linked_after i Returns (a ∷ []) (f ∷ []) linked push = tt
  linked_after i Returns (a ∷ b ∷ callers) (f ∷ g ∷ below) linked push = (
    record { standing = ((linked.2).0).standing; start = ((linked.2).0).start },
    end_behind b.first b.later (suc i),
    (linked.2).1,
    below_later i g callers below (linked.3).2,
  )
  linked_after i Returns (a ∷ []) (f ∷ g ∷ below) linked push = absurd linked.2
  linked_after i Returns (a ∷ b ∷ callers) (f ∷ []) linked push = absurd linked.2
  linked_after i Stays [] (f ∷ below) linked push = elim linked [ ]
  linked_after i Stays (a ∷ callers) [] linked push = elim linked [ ]
  linked_after i (Calls target address) [] (f ∷ below) linked push = elim linked [ ]
  linked_after i (Calls target address) (a ∷ callers) [] linked push = elim linked [ ]
  linked_after i Returns [] (f ∷ below) linked push = elim linked [ ]
  linked_after i Returns (a ∷ []) [] linked push = elim linked [ ]
  linked_after i Returns (a ∷ b ∷ callers) [] linked push = elim linked [ ]
