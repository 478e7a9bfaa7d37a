-- Activations have the frames of the stack, and the one on top is on top at the place.
use Rattle.std.proofs.Common.{◌≡◌, ℕ, zero, suc, ◌≤◌, List, [], ◌∷◌, ◌++◌, length, All, refl, sym, ap, subst, ◌∙◌, arith}
use Rattle.std.proofs.lemmas.List.Elements.{All-nil, All-cons, All-head, All-tail, All-push, All-weaker}
use Rattle.graph_laws.specs.Walk.{end_of}
use Rattle.sparc_machine.specs.Frame.{Transfer, Stays, Calls, Returns, frames_after, root_frame, first_config, machine_at, due_at}
use Rattle.sparc_machine.specs.declared.machine.Machine.{Machine}
use Rattle.sparc_runs.proofs.Places.{next_from}
use Rattle.sparc_runs.specs.Activation.{Activation, also_at, activations_after, activations_at, frames_of, latest}
use Rattle.sparc_runs.specs.Activation.{IsActive, AreActivations, ActivationsAreFrames}

-- the frames behind a step
frames_behind : (due : Transfer) (m : Machine) (place : ℕ) (these : List Activation)
    → frames_of (activations_after due m place these) ≡ frames_after due m (frames_of these)
frames_behind Stays m place [] = refl
frames_behind (Calls target address) m place [] = refl
frames_behind Returns m place [] = refl
frames_behind Stays m place (top ∷ rest) = refl
frames_behind (Calls target address) m place (top ∷ rest) = refl
frames_behind Returns m place (top ∷ []) = refl
frames_behind Returns m place (top ∷ below ∷ rest) = refl

-- the end of a walk with one node more
end_pushed : (n m : ℕ) (rest : List ℕ) → end_of n (rest ++ m ∷ []) ≡ m
end_pushed n m [] = refl
end_pushed n m (k ∷ rest) = end_pushed k m rest

module _ (image : List ℕ) (first : Machine) (rest : List Machine) where
  -- an activation is one a place later too
  later : (i : ℕ) (a : Activation) → IsActive image first rest i a → IsActive image first rest (suc i) a
  later i a h = record {
    start = h.start;
    within = (let w = h.within in omega arith);
    later = All-weaker (λ (place : ℕ). place ≤ i) (λ (place : ℕ). place ≤ suc i) (λ x less. omega arith) a.later h.later;
  }

  all_later : (i : ℕ) (these : List Activation) → All (IsActive image first rest i) these → All (IsActive image first rest (suc i)) these
  all_later i these h = All-weaker (IsActive image first rest i) (IsActive image first rest (suc i)) (λ a. later i a) these h

  also_active : (i : ℕ) (a : Activation) → IsActive image first rest i a → IsActive image first rest (suc i) (also_at (suc i) a)
  also_active i a h =
      let k = later i a h in
      record { start = k.start; within = k.within; later = All-push (λ (place : ℕ). place ≤ suc i) a.later (suc i) k.later (omega arith) }

  -- what holds of each activation holds behind a step
  pub active_behind : (due : Transfer) (i : ℕ) (these : List Activation) → All (IsActive image first rest i) these
      → All (IsActive image first rest (suc i)) (activations_after due (machine_at image first rest (suc i)) (suc i) these)
  active_behind due i [] h = All-nil (IsActive image first rest (suc i))
  active_behind Stays i (top ∷ below) h =
      All-cons (IsActive image first rest (suc i)) (also_at (suc i) top) below (also_active i top (All-head (IsActive image first rest i) top below h))
      (all_later i below (All-tail (IsActive image first rest i) top below h))
  active_behind (Calls target address) i (top ∷ below) h =
      All-cons (IsActive image first rest (suc i)) _ (top ∷ below)
      (record { start = refl; within = omega arith; later = All-nil (λ (place : ℕ). place ≤ suc i) })
      (all_later i (top ∷ below) h)
  active_behind Returns i (top ∷ []) h = All-nil (IsActive image first rest (suc i))
  active_behind Returns i (top ∷ below ∷ others) h =
      let tail = All-tail (IsActive image first rest i) top (below ∷ others) h in
      All-cons (IsActive image first rest (suc i)) (also_at (suc i) below) others
      (also_active i below (All-head (IsActive image first rest i) below others tail))
      (all_later i others (All-tail (IsActive image first rest i) below others tail))

  top_behind : (due : Transfer) (m : Machine) (place : ℕ) (these : List Activation) (a : Activation) (below : List Activation)
      → activations_after due m place these ≡ a ∷ below → latest a ≡ place
  top_behind due m place [] a below is = cc
  top_behind Stays m place (top ∷ under) a below is =
      let same : also_at place top ≡ a = cc in subst (λ (x : Activation). latest x ≡ place) same (end_pushed top.first place top.later)
  top_behind (Calls target address) m place (top ∷ under) a below is =
      let same : record { frame = record { sub = target; caller = address; start = m }; first = place; later = [] } ≡ a = cc in
      subst (λ (x : Activation). latest x ≡ place) same refl
  top_behind Returns m place (top ∷ []) a below is = cc
  top_behind Returns m place (top ∷ under ∷ others) a below is =
      let same : also_at place under ≡ a = cc in subst (λ (x : Activation). latest x ≡ place) same (end_pushed under.first place under.later)

  -- at each place
  pub are : (i : ℕ) → i ≤ length rest → AreActivations image first rest i
  are zero within = record {
    frames = refl;
    active =
        All-cons (IsActive image first rest 0) _ [] (record { start = refl; within = omega arith; later = All-nil (λ (place : ℕ). place ≤ 0) })
        (All-nil (IsActive image first rest 0));
    top = λ a below is. first_top a below is;
  } where
    first_top : (a : Activation) (below : List Activation) → activations_at image first rest 0 ≡ a ∷ below → latest a ≡ 0
    first_top a below is =
        let same : record { frame = root_frame first; first = 0; later = [] } ≡ a = cc in subst (λ (x : Activation). latest x ≡ 0) same refl
  are (suc i) within =
      let h = are i (omega arith) in
      record {
        frames =
            frames_behind (due_at image first rest i) (machine_at image first rest (suc i)) (suc i) (activations_at image first rest i)
            ∙ ap (frames_after (due_at image first rest i) (machine_at image first rest (suc i))) h.frames
            ∙ sym (ap (λ c. c.frames) (next_from image (first_config first) rest i (omega arith)));
        active = active_behind (due_at image first rest i) i (activations_at image first rest i) h.active;
        top = λ a below is. top_behind (due_at image first rest i) (machine_at image first rest (suc i)) (suc i) (activations_at image first rest i) a below is;
      }

-- activations have the frames of the stack
pub are_frames : ActivationsAreFrames
are_frames image first rest i within = are image first rest i within
