-- Runs that meet assertions keep the asserted counts of heads of contexts.
use Rattle.std.proofs.Common.{◌≡◌, ℕ, zero, suc, ◌≤◌, true, List, [], ◌∷◌, ◌++◌, map, Option, Some, None, length, refl, sym, ap, subst, ◌∙◌, arith}
use Rattle.std.specs.Prelude.{All}
use Rattle.std.specs.Option.{option_and_then}
use Rattle.std.proofs.lemmas.Bool.{eqb-true}
use Rattle.assert_bind.proofs.AboutLemmas.{found}
use Rattle.assert_bind.specs.Binding.{about, count_in, repeats}
use Rattle.assert_bind.specs.Subject.{is_same, subject_of}
use Rattle.assert_bind.specs.declared.body.BoundAssertion.{BoundAssertion}
use Rattle.assert_bind.specs.declared.body.BoundBody.{BoundBody}
use Rattle.assert_bind.specs.declared.body.BoundBody.TheVariants as body
use Rattle.assert_bind.specs.declared.subject.Subject.TheVariants as of
use Rattle.context_runs.proofs.Linking.{AreLinked}
use Rattle.context_runs.proofs.Placing.{linked}
use Rattle.context_runs.specs.Contexts.{Contexts, standing_of}
use Rattle.context_runs.specs.Joined.{AreFrames, IsPlaced, move_of, root_of, run_of, top_of}
use Rattle.counted_runs.specs.Asserted.{AreAsserted, AssertedCountsAreKept, address_by, heads_of, loops_by, number_by}
use Rattle.frame_laws.specs.Activation.{Activation, on_at, places_of, stack_after, stack_at}
use Rattle.frame_laws.specs.Context.{Standing, In}
use Rattle.frame_laws.specs.Steps.{KeepsAsserted}
use Rattle.graph_laws.specs.Walk.{AreInside}
use Rattle.sparc_machine.specs.Frame.{Frame, Transfer, Stays, Calls, Returns, due_at, frames_at, machine_at, root_frame}
use Rattle.sparc_machine.specs.declared.machine.Machine.{Machine}
use Rattle.sparc_runs.proofs.Activations.{are_frames}
use Rattle.sparc_runs.specs.Activation.{Activation as MachineActivation, activations_after, activations_at, also_at, frames_of, places_of as their_places}
use Rattle.sparc_runs.specs.Meets.{Heads, IsMet, KeepsLoops, Meets, nodes_of}
use Rattle.stack_laws.specs.Standing.{place_of}
use Rattle.transfer_rules.specs.Give.{Facts}

-- what is mapped over a list and one more
map_end : {A B : Type 0} (f : A → B) (list : List A) (one : A) → map f (list ++ one ∷ []) ≡ map f list ++ f one ∷ []
map_end f [] one = refl
map_end f (a ∷ list) one = ap (λ l. f a ∷ l) (map_end f list one)

map_both : {A B : Type 0} (f : A → B) (first second : List A) → map f (first ++ second) ≡ map f first ++ map f second
map_both f [] second = refl
map_both f (a ∷ first) second = ap (λ l. f a ∷ l) (map_both f first second)

append_twice : {A : Type 0} (first second third : List A) → (first ++ second) ++ third ≡ first ++ (second ++ third)
append_twice [] second third = refl
append_twice (a ∷ first) second third = ap (λ l. a ∷ l) (append_twice first second third)

-- an asserted count is met as one of the loop at its address
looped : (says : BoundBody) (address count : ℕ) → is_same (subject_of says) (of.Loop address) ≡ true → count_in says ≡ Some count
    → says ≡ body.Loop address count
looped (body.Root a) address count same is = absurd (cc)
looped (body.Never a) address count same is = absurd (cc)
looped (body.At a reg lo hi) address count same is = absurd (cc)
looped (body.Jump a to) address count same is = absurd (cc)
looped (body.CallTo a to) address count same is = absurd (cc)
looped (body.Stub a t) address count same is = absurd (cc)
looped (body.Loop a n) address count same is =
    let at : a ≡ address = eqb-true a address same in
    let within : n ≡ count = cc in
    λ i. body.Loop (at i) (within i)

keeps_loops : (image : List ℕ) (heads : Heads) (first : Machine) (rest : List Machine) (list : List BoundAssertion) → Meets image heads first rest list
    → (address count : ℕ) → repeats list address ≡ Some count → KeepsLoops image heads first rest address count
keeps_loops image heads first rest list meets address count is = by (about list (of.Loop address)) refl is where
  by : (o : Option BoundAssertion) → about list (of.Loop address) ≡ o → option_and_then (λ assertion. count_in assertion.body) o ≡ Some count
      → KeepsLoops image heads first rest address count
  by None at none = absurd (cc)
  by (Some item) at has =
      let f = found list (of.Loop address) item at in
      let met : IsMet image heads first rest item.body =
      subst (λ (x : BoundAssertion). IsMet image heads first rest x.body) f.there (meets f.place item f.within) in
      subst (IsMet image heads first rest) (looped item.body address count f.same has) met

module _
    (F : Contexts)
    (image costs : List ℕ)
    (list : List BoundAssertion)
    (x : Facts)
    (root : ℕ)
    (first : Machine)
    (rest : List Machine)
    (last : ℕ)
    (placed : IsPlaced F image costs list x root first rest last)
  where
    -- the number of the program point of a frame at a place
    abbrev at_frame : ℕ → Frame → ℕ → ℕ
    at_frame c f k = F.number c (place_of (due_at image first rest k) f (machine_at image first rest k))

    -- an activation in contexts is one of the machine: on top at the same places, where its nodes are those of its frame
    record IsSame (a : Activation) (b : MachineActivation) : Type 0 where
      pub start : a.first ≡ b.first
      pub others : a.later ≡ b.later
      pub nodes : (c : ℕ) → map (λ k. (run_of F image costs first rest).node c k) (places_of a) ≡ map (λ k. at_frame c b.frame k) (their_places b)

    abbrev AreSame : List Activation → List MachineActivation → Type 0
    AreSame [] [] = Unit {0}
    AreSame (a ∷ callers) (b ∷ below) = IsSame a b × AreSame callers below
    AreSame [] (b ∷ below) = ⊥
    AreSame (a ∷ callers) [] = ⊥

    -- the node at a place is that of the frame on top
    top_node : (i c : ℕ) (b : MachineActivation) (below : List MachineActivation) → i ≤ last → activations_at image first rest i ≡ b ∷ below
        → (run_of F image costs first rest).node c i ≡ at_frame c b.frame i
    top_node i c b below within is =
        let most = placed.last_within in
        let frames : frames_at image first rest i ≡ b.frame ∷ frames_of below =
        sym ((are_frames image first rest i (omega arith)).frames) ∙ ap (λ (l : List MachineActivation). frames_of l) is in
        ap (λ (l : List Frame). F.number c (place_of (due_at image first rest i) (top_of (root_frame first) l) (machine_at image first rest i))) frames

    also_same : (i : ℕ) (a : Activation) (b : MachineActivation) → IsSame a b → ((c : ℕ) → (run_of F image costs first rest).node c i ≡ at_frame c b.frame i)
        → IsSame (on_at a i) (also_at i b)
    also_same i a b same node = record {
      start = same.start;
      others = ap (λ l. l ++ i ∷ []) same.others;
      nodes = λ c.
          map_end (λ k. (run_of F image costs first rest).node c k) (places_of a) i
          ∙ ap (λ l. l ++ (run_of F image costs first rest).node c i ∷ []) (same.nodes c)
          ∙ ap (λ n. map (λ k. at_frame c b.frame k) (their_places b) ++ n ∷ []) (node c)
          ∙ sym (map_end (λ k. at_frame c b.frame k) (their_places b) i);
    }

    same_after : (i : ℕ) (due : Transfer) (these : List Activation) (mine : List MachineActivation) → AreSame these mine
        → ((c : ℕ) (b : MachineActivation) (below : List MachineActivation)
        → activations_after due (machine_at image first rest (suc i)) (suc i) mine ≡ b ∷ below
        → (run_of F image costs first rest).node c (suc i) ≡ at_frame c b.frame (suc i))
        → AreSame (stack_after F.family (run_of F image costs first rest) (move_of due) i these)
        (activations_after due (machine_at image first rest (suc i)) (suc i) mine)
    same_after i Stays [] [] same node = tt
    same_after i Stays (a ∷ callers) (b ∷ below) same node = (also_same (suc i) a b same.0 (λ c. node c (also_at (suc i) b) below refl), same.1)
    same_after i (Calls target address) [] [] same node = tt
    same_after i (Calls target address) (a ∷ callers) (b ∷ below) same node = (
      record {
        start = refl;
        others = refl;
        nodes = λ c.
            ap (λ n. n ∷ [])
            (node c (record {
              frame = record { sub = target; caller = address; start = machine_at image first rest (suc i) };
              first = suc i;
              later = [];
            }) (b ∷ below) refl);
      },
      same,
    )
    same_after i Returns [] [] same node = tt
    same_after i Returns (a ∷ []) (b ∷ []) same node = tt
    same_after i Returns (a ∷ g ∷ callers) (b ∷ d ∷ below) same node =
        (also_same (suc i) g d (same.1).0 (λ c. node c (also_at (suc i) d) below refl), (same.1).1)
    same_after i Returns (a ∷ []) (b ∷ d ∷ below) same node = elim same.1 [ ]
    same_after i Returns (a ∷ g ∷ callers) (b ∷ []) same node = elim same.1 [ ]
    same_after i Stays [] (b ∷ below) same node = elim same [ ]
    same_after i Stays (a ∷ callers) [] same node = elim same [ ]
    same_after i (Calls target address) [] (b ∷ below) same node = elim same [ ]
    same_after i (Calls target address) (a ∷ callers) [] same node = elim same [ ]
    same_after i Returns [] (b ∷ below) same node = elim same [ ]
    same_after i Returns (a ∷ []) [] same node = elim same [ ]
    same_after i Returns (a ∷ g ∷ callers) [] same node = elim same [ ]

    these_are : (i : ℕ) → i ≤ last
        → AreSame (stack_at F.family (run_of F image costs first rest) (root_of F first) i) (activations_at image first rest i)
    these_are zero within = (record { start = refl; others = refl; nodes = λ c. refl }, tt)
    these_are (suc i) within =
        same_after i (due_at image first rest i) (stack_at F.family (run_of F image costs first rest) (root_of F first) i) (activations_at image first rest i)
        (these_are i (omega arith))
        (λ c b below is. top_node (suc i) c b below within is)

    module _ (address : ℕ → ℕ → ℕ) (asserted : AreAsserted list F address) (meets : Meets image (heads_of F address) first rest list) where
      -- one activation keeps the asserted counts
      keeps : (i : ℕ) → i ≤ length rest → (above : List MachineActivation) (a : Activation) (b : MachineActivation) (below : List MachineActivation)
          → activations_at image first rest i ≡ above ++ b ∷ below → IsSame a b → a.standing ≡ standing_of F (frames_of (b ∷ below))
          → KeepsAsserted F.family (run_of F image costs first rest) a
      keeps i within above a b below are same stands c h before stretch after is has none cut inside =
          let at = asserted c h has none in
          let context : standing_of F (frames_of (b ∷ below)) ≡ In c = sym stands ∙ is in
          let kept = keeps_loops image (heads_of F address) first rest list meets (address c h) at.count at.is i above b below within are in
          let node : ℕ → ℕ = λ k. (run_of F image costs first rest).node c k in
          let there : nodes_of image (heads_of F address) first rest (frames_of (b ∷ below)) b ≡ map (λ k. at_frame c b.frame k) (their_places b) =
          ap
          (λ (s : Standing). map (λ k. number_by F s (place_of (due_at image first rest k) b.frame (machine_at image first rest k))) (their_places b))
          context in
          let cut_there : map node before ++ (map node stretch ++ map node after) ≡ nodes_of image (heads_of F address) first rest (frames_of (b ∷ below)) b =
          ap (λ l. map node before ++ l) (sym (map_both node stretch after))
          ∙ sym (map_both node before (stretch ++ after))
          ∙ ap (λ l. map node l) cut
          ∙ same.nodes c
          ∙ sym there in
          let has_there : (loops_by F (standing_of F (frames_of (b ∷ below)))).has h ≡ true =
          subst (λ (s : Standing). (loops_by F s).has h ≡ true) (sym context) has in
          let address_there : address_by address (standing_of F (frames_of (b ∷ below))) h ≡ address c h =
          ap (λ (s : Standing). address_by address s h) context in
          let inside_there : AreInside ((loops_by F (standing_of F (frames_of (b ∷ below)))).body h) (map node stretch) =
          subst (λ (s : Standing). AreInside ((loops_by F s).body h) (map node stretch)) (sym context) inside in
          let most = kept h (map node before) (map node stretch) (map node after) has_there address_there cut_there inside_there in
          let less = at.less in
          omega (arith, most, less)

      all_keep : (i : ℕ) → i ≤ length rest → (above : List MachineActivation) (these : List Activation) (mine : List MachineActivation)
          → activations_at image first rest i ≡ above ++ mine → AreSame these mine → AreFrames F image first rest these (frames_of mine)
          → All (KeepsAsserted F.family (run_of F image costs first rest)) these
      all_keep i within above [] mine are same frames k d less = absurd (omega arith)
      all_keep i within above (a ∷ callers) [] are same frames k d less = elim same [ ]
      all_keep i within above (a ∷ callers) (b ∷ below) are same frames zero d less = keeps i within above a b below are same.0 (frames.0).standing
      all_keep i within above (a ∷ callers) (b ∷ below) are same frames (suc k) d less =
          all_keep i within (above ++ b ∷ []) callers below (are ∙ sym (append_twice above (b ∷ []) below)) same.1 frames.1 k d (omega arith)

      frames_are : (i : ℕ) (these : List Activation) (frames : List Frame) → AreLinked F image costs first rest i these frames
          → AreFrames F image first rest these frames
      frames_are i [] [] l = tt
      frames_are i (a ∷ callers) (f ∷ below) l = (l.0, l.2)
      frames_are i [] (f ∷ below) l = elim l [ ]
      frames_are i (a ∷ callers) [] l = elim l [ ]

      pub asserted_kept : (i : ℕ) → i ≤ last
          → All (KeepsAsserted F.family (run_of F image costs first rest)) (stack_at F.family (run_of F image costs first rest) (root_of F first) i)
      asserted_kept i within =
          let most = placed.last_within in
          let frames = frames_are i (stack_at F.family (run_of F image costs first rest) (root_of F first) i) (frames_at image first rest i)
          (linked F image costs list x root first rest last placed i within) in
          all_keep i (omega arith) [] (stack_at F.family (run_of F image costs first rest) (root_of F first) i) (activations_at image first rest i) refl
          (these_are i within)
          (subst (λ (l : List Frame). AreFrames F image first rest (stack_at F.family (run_of F image costs first rest) (root_of F first) i) l)
          (sym (are_frames image first rest i (omega arith)).frames)
          frames)

-- where a run meets the assertions, each frame in a context keeps the bound of each head that is asserted there
pub asserted_counts : AssertedCountsAreKept
asserted_counts F image costs list x root first rest last address placed asserted meets i within =
    asserted_kept F image costs list x root first rest last placed address asserted meets i within
