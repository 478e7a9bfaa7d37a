-- A run from a root whose context has a bound never stands at a gap.
use Rattle.std.proofs.Common.{◌≡◌, ℕ, zero, suc, ◌<◌, ◌≤◌, Bool, true, false, List, [], ◌∷◌, ◌++◌, length, drop, Option, Some, None, inl, inr, refl, sym, ap, subst, ◌∙◌, arith}
use Rattle.std.specs.Prelude.{is_some, slice_get}
use Rattle.std.proofs.lemmas.Bool.{cases_lt, false≢true}
use Rattle.abs_state.specs.declared.key.GapKind.{GapKind}
use Rattle.abs_state.specs.declared.key.GapKind.TheVariants as why
use Rattle.abs_state.specs.declared.key.Key.TheVariants as key
use Rattle.abs_state.specs.declared.key.Next.TheVariants.{Into}
use Rattle.abs_state.specs.declared.key.Place.{Place}
use Rattle.assert_bind.specs.Binding.{stub}
use Rattle.assert_bind.specs.declared.body.BoundAssertion.{BoundAssertion}
use Rattle.context_runs.specs.Contexts.{AreFilled, Contexts, facts_by, facts_of as facts_over, follows_from, standing_of}
use Rattle.context_steps.proofs.Contexts.{contexts_follow_runs}
use Rattle.closed_steps.specs.Runs.{IsRun}
use Rattle.counted_runs.specs.Asserted.{heads_of}
use Rattle.frame_laws.specs.Context.{Standing, Free, Stub, In, is_bounded}
use Rattle.sparc_machine.specs.Frame.{Config, Frame, Transfer, Stays, Calls, Returns, config_after, config_at, config_from, first_config, frames_after, machine_at, root_frame}
use Rattle.sparc_machine.specs.declared.machine.Machine.{Machine}
use Rattle.stack_laws.proofs.Runs.{runs_followed}
use Rattle.stack_laws.specs.Followed.{Holds, IsBeforeGaps, IsClear}
use Rattle.stack_laws.specs.Standing.{AreWaiting, StackFacts, waiting_place}
use Rattle.stack_laws.specs.StepFacts.{ArePlain, HasNoGap, is_stub}
use Rattle.transfer_rules.specs.Give.{Facts}
use Rattle.wcet_report.specs.declared.outcome.Outcome.{Outcome}
use Rattle.wcet_report.specs.declared.reason.Reason.TheVariants as reason
use Rattle.context_outcomes.specs.Bounding.{IsBoundWith}
use Rattle.context_outcomes.specs.Setting.{Setting, facts_in}
use Rattle.outcome_runs.proofs.Contextual.{are_contexts}
use Rattle.outcome_runs.proofs.Filling.{filled}
use Rattle.outcome_runs.proofs.Sounding.{sound}
use Rattle.outcome_runs.specs.Family.{address_of, context_of, contexts_of, facts_of, root_of, sub_of}
use Rattle.outcome_runs.specs.Laws.{BoundedRootsMeetNoGap, HasBoundAt}
use Rattle.outcome_runs.specs.Told.{Entry, IsKnown, Told}

some_same : {X : Type 0} {x y : X} → Some x ≡ Some y → x ≡ y
some_same e = cc

none_some : {X : Type 0} {x : X} → None ≡ Some x → ⊥
none_some e = cc

-- the lowest frame of a stack is this one, if there is a frame
abbrev EndsIn : Frame → List Frame → Type 0
EndsIn r [] = Unit {0}
EndsIn r (f ∷ []) = f ≡ r
EndsIn r (f ∷ g ∷ rest) = EndsIn r (g ∷ rest)

ends_after : (r : Frame) (due : Transfer) (m : Machine) (frames : List Frame) → EndsIn r frames → EndsIn r (frames_after due m frames)
ends_after r Stays m frames ends = ends
ends_after r (Calls target address) m [] ends = tt
ends_after r (Calls target address) m (top ∷ rest) ends = ends
ends_after r Returns m [] ends = tt
ends_after r Returns m (f ∷ []) ends = tt
ends_after r Returns m (f ∷ g ∷ rest) ends = ends

ends_from : (image : List ℕ) (r : Frame) (c : Config) (rest : List Machine) (i : ℕ) → EndsIn r c.frames → EndsIn r (config_from image c rest i).frames
ends_from image r c rest zero ends = ends
ends_from image r c [] (suc i) ends = ends
ends_from image r c (next ∷ rest) (suc i) ends =
    ends_from image r (config_after image c next) rest i (ends_after r c.due next c.frames ends)

-- a stack with a stub's frame isn't plain
not_plain : (list : List BoundAssertion) (inner : List Frame) (lowest : Frame) (below : List Frame) → is_stub list lowest.sub ≡ true → ArePlain list (inner ++ lowest ∷ below) → ⊥
not_plain list [] lowest below stub plain = false≢true (sym plain.0 ∙ stub)
not_plain list (f ∷ inner) lowest below stub plain = not_plain list inner lowest below stub plain.1

module _ (S : Setting) (list : List Outcome) (told : Told S list) (known : IsKnown S) where
  abbrev F : Contexts
  F = contexts_of told

  abbrev y : StackFacts
  y = facts_over F (facts_in S)

  -- a frame stands in a context of its subprogram that has a bound
  record IsIn (s : Standing) (sub : ℕ) : Type 0 where
    context : ℕ
    is : s ≡ In context
    own : F.sub context ≡ sub
    bounded : is_some (F.family context).most ≡ true

  no_reason : (one : Entry S) (o : Option ℕ) → IsBoundWith S one.is.within one.is.callees o → is_some o ≡ true → (why : GapKind) (pc : ℕ)
      → is_some (facts_in S (key.Gap one.outcome.sub pc why)) ≡ false
  no_reason one None is bounded why pc = absurd (false≢true bounded)
  no_reason one (Some cost) is bounded why.Jump pc = none (is_some (facts_in S (key.Gap one.outcome.sub pc why.Jump))) (is.free (reason.Jump pc)) where
    none : (b : Bool) → (b ≡ true → ⊥) → b ≡ false
    none true never = absurd (never refl)
    none false never = refl
  no_reason one (Some cost) is bounded why.Call pc = none (is_some (facts_in S (key.Gap one.outcome.sub pc why.Call))) (is.free (reason.Call pc)) where
    none : (b : Bool) → (b ≡ true → ⊥) → b ≡ false
    none true never = absurd (never refl)
    none false never = refl
  no_reason one (Some cost) is bounded why.Instr pc = none (is_some (facts_in S (key.Gap one.outcome.sub pc why.Instr))) (is.free (reason.Instr pc)) where
    none : (b : Bool) → (b ≡ true → ⊥) → b ≡ false
    none true never = absurd (never refl)
    none false never = refl

  -- the subprogram of a context with a bound has no gap
  no_gap : (c : ℕ) (o : Option (Entry S)) → is_some (context_of told c o).most ≡ true → (pc : ℕ) → HasNoGap (facts_in S) (sub_of told o) pc
  no_gap c None bounded pc why = absurd (false≢true bounded)
  no_gap c (Some one) bounded pc why = no_reason one one.outcome.bound one.is.bound bounded why pc

  some_most : (o : Option ℕ) → is_some o ≡ true → (most : ℕ) × (o ≡ Some most)
  some_most None there = absurd (false≢true there)
  some_most (Some most) there = (most, refl)

  next_in : (c : ℕ) (p : Place) (t : ℕ) → is_some (F.facts c (key.Call p t)) ≡ true → p.next ≡ Into t → is_some (F.family c).most ≡ true
      → is_stub S.binding t ≡ false → IsIn (F.follows c p) t
  next_in c p t there into bounded plain = by (F.follows c p) refl where
    fine : is_bounded F.family (Some (F.follows c p)) ≡ true
    fine =
        let most = some_most (F.family c).most bounded in
        let calls = ((sound S list told known).bounds c most.0 most.1).calls (F.number c p) in
        subst (λ (o : Option Standing). is_bounded F.family o ≡ true) ((filled S list told known).leads c p t (record { there = there; into = into })) calls

    by : (s : Standing) → F.follows c p ≡ s → IsIn s t
    by Free is = absurd (false≢true (subst (λ (s : Standing). is_bounded F.family (Some s) ≡ true) is fine))
    by (Stub time) is =
        let told_time : stub S.binding t ≡ Some time = (filled S list told known).time c p t time (record { there = there; into = into }) is in
        absurd (false≢true (sym plain ∙ ap is_some told_time))
    by (In d) is = record {
      context = d;
      is = refl;
      own = (filled S list told known).callee c p t d (record { there = there; into = into }) is;
      bounded = subst (λ (s : Standing). is_bounded F.family (Some s) ≡ true) is fine;
    }

  -- each frame of a stack above a root with a bound stands in a context with one
  stack_in : (root : Frame) → IsIn (F.roots root.sub) root.sub → (top : Frame) (rest : List Frame) (m : Machine) → EndsIn root (top ∷ rest)
      → ArePlain S.binding (top ∷ rest) → AreWaiting y (facts_in S) top rest m → IsIn (standing_of F (top ∷ rest)) top.sub
  stack_in root begins top [] m ends plain waits = subst (λ (f : Frame). IsIn (F.roots f.sub) f.sub) (sym ends) begins
  stack_in root begins top (below ∷ rest) m ends plain waits =
      let under = stack_in root begins below rest m ends plain.1 waits.1 in
      let there : is_some (F.facts under.context (key.Call (waiting_place below top) top.sub)) ≡ true =
      subst (λ (s : Standing). is_some (facts_by F (facts_in S) s (key.Call (waiting_place below top) top.sub)) ≡ true) under.is waits.0.called in
      subst (λ (s : Standing). IsIn (follows_from F s (waiting_place below top)) top.sub) (sym under.is)
      (next_in under.context (waiting_place below top) top.sub there refl under.bounded plain.0)

  gap_free : (s : Standing) (sub pc : ℕ) → IsIn s sub → HasNoGap (facts_in S) sub pc
  gap_free s sub pc is =
      subst (λ (n : ℕ). HasNoGap (facts_in S) n pc) is.own (no_gap is.context (slice_get told.entries is.context) is.bounded pc)

  root_in : (r : ℕ) → HasBoundAt told r → IsIn (F.roots r) r
  root_in r has = record {
    context = has.place;
    is = ap (root_of told) has.at;
    own = ap (sub_of told) has.is.at ∙ has.is.sub;
    bounded = ap (λ (o : Option (Entry S)). is_some (context_of told has.place o).most) has.is.at ∙ has.bounded;
  }

  module _ (r : ℕ) (first : Machine) (rest : List Machine) (run : IsRun S.image S.costs S.binding (heads_of (contexts_of told) (address_of told)) r first rest) (has : HasBoundAt told r) where
    begins : IsIn (F.roots (root_frame first).sub) (root_frame first).sub
    begins = subst (λ (n : ℕ). IsIn (F.roots n) n) (sym run.begins.pc) (root_in r has)

    clear_stack : (invalid : ℕ) (due : Transfer) (top : Frame) (below : List Frame) (m : Machine) → Holds S.image S.binding y (facts_in S) invalid due (top ∷ below) m
        → ArePlain S.binding (top ∷ below) → EndsIn (root_frame first) (top ∷ below) → HasNoGap (facts_in S) top.sub m.pc
    clear_stack invalid due top below m (inl clear) plain ends =
        gap_free (standing_of F (top ∷ below)) top.sub m.pc (stack_in (root_frame first) begins top below m ends plain clear.waiting)
    clear_stack invalid due top below m (inr beneath) plain ends =
        absurd (not_plain S.binding beneath.inner beneath.lowest (beneath.below ∷ beneath.rest) beneath.stub (subst (ArePlain S.binding) beneath.are plain))

    before_gaps : (n : ℕ) → n ≤ suc (length rest) → IsBeforeGaps S.image S.binding (facts_in S) first rest n
    before_gaps zero within i low top below are plain = absurd (omega (arith, low))
    before_gaps (suc n) within i low top below are plain = elim (cases_lt i n) [
      | inl less ↦ before_gaps n (omega (arith, within)) i less top below are plain
      | inr last ↦
          let same : n ≡ i = omega (arith, low, last) in
          let ask =
          contexts_follow_runs S.thresholds S.image S.costs S.binding S.eight (facts_in S) F (heads_of F (address_of told)) r first rest known.bound known.thresholds
          known.due.closed (are_contexts S list told known) run in
          let followed = runs_followed S.image S.costs S.binding y (facts_in S) r first rest ask in
          let here = followed.1 n (omega (arith, within)) (before_gaps n (omega (arith, within))) in
          let at : (config_at S.image first rest n).frames ≡ top ∷ below = ap (λ (k : ℕ). (config_at S.image first rest k).frames) same ∙ are in
          let ends : EndsIn (root_frame first) (top ∷ below) =
          subst (EndsIn (root_frame first)) at (ends_from S.image (root_frame first) (first_config first) rest n refl) in
          let holds =
          subst (λ (frames : List Frame). Holds S.image S.binding y (facts_in S) followed.0 (config_at S.image first rest n).due frames (machine_at S.image first rest n)) at
          here.holds in
          subst (λ (k : ℕ). HasNoGap (facts_in S) top.sub (machine_at S.image first rest k).pc) same
          (clear_stack followed.0 (config_at S.image first rest n).due top below (machine_at S.image first rest n) holds plain ends)
    ]

pub bounded_roots_meet_no_gap : BoundedRootsMeetNoGap
bounded_roots_meet_no_gap S list told known root first rest run has = before_gaps S list told known root first rest run has (suc (length rest)) (omega arith)
