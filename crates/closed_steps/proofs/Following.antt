-- Runs follow the facts of a closed state.
use Rattle.std.proofs.Common.{◌≡◌, ℕ, zero, suc, ◌^◌, ◌<◌, Bool, true, false, List, [], ◌∷◌, length, Option, Some, None, Contains, refl, sym, ap}
use Rattle.std.proofs.Common.{subst, ◌∙◌, arith}
use Rattle.std.specs.Prelude.{slice_index_or, is_some}
use Rattle.std.proofs.lemmas.Bool.{eqb-true}
use Rattle.std.specs.List.{cons_option, filter_map}
use Rattle.std.specs.Option.{option_and_then}
use Rattle.abs_state.specs.State.{entry_state}
use Rattle.abs_state.specs.declared.key.Key.TheVariants as key
use Rattle.abs_state.specs.declared.key.Next.TheVariants.{At}
use Rattle.abs_state.specs.declared.key.Place.{Place}
use Rattle.assert_bind.proofs.AboutLemmas.{finds_itself, found}
use Rattle.assert_bind.specs.Binding.{about, root_in, roots, time_in}
use Rattle.assert_bind.specs.Index.{IsSound}
use Rattle.assert_bind.specs.Subject.{is_same, subject_of}
use Rattle.assert_bind.specs.declared.body.BoundAssertion.{BoundAssertion}
use Rattle.assert_bind.specs.declared.body.BoundBody.{BoundBody}
use Rattle.assert_bind.specs.declared.body.BoundBody.TheVariants as body
use Rattle.assert_bind.specs.declared.subject.Subject.{Subject}
use Rattle.assert_bind.specs.declared.subject.Subject.TheVariants as of
use Rattle.sparc_machine.specs.Frame.{Stays, root_frame}
use Rattle.sparc_machine.specs.declared.machine.Machine.{Machine}
use Rattle.sparc_runs.proofs.Bounds.{operands_words}
use Rattle.sparc_runs.proofs.Levels.{depths}
use Rattle.sparc_runs.proofs.MeetLaws.{sights_meet}
use Rattle.sparc_runs.specs.Meets.{Heads, IsMet, KeepsStubs, Meets}
use Rattle.sparc_runs.specs.Window.{depth_from}
use Rattle.stack_laws.proofs.Runs.{runs_followed}
use Rattle.stack_laws.specs.Followed.{KeepsAllStubs}
use Rattle.stack_laws.specs.Standing.{Stands, place_of}
use Rattle.stack_laws.specs.StepFacts.{is_stub}
use Rattle.state_covers.proofs.CoverLemmas.{entries_cover, greater_states_cover}
use Rattle.state_covers.specs.Covers.{Covers}
use Rattle.transfer_acts.specs.Program.{program_of}
use Rattle.transfer_rules.proofs.Closing.{closed_starts}
use Rattle.transfer_rules.specs.Fact.{state_in}
use Rattle.transfer_rules.specs.Give.{entry_of}
use Rattle.transfer_values.specs.Family.{family}
use Rattle.transfer_values.specs.Resolve.{widest}
use Rattle.closed_steps.proofs.Covering.{closed_states_cover_steps}
use Rattle.closed_steps.proofs.Leading.{same_place}
use Rattle.closed_steps.specs.Runs.{RunsFollowClosedStates}

-- what is left of a list comes from one of it
record IsFrom {A : Type 0} (give : A → Option ℕ) (list : List A) (e : ℕ) : Type 0 where
  pub place : ℕ
  pub item : A
  pub within : place < length list
  pub there : slice_index_or list place item ≡ item
  pub gives : give item ≡ Some e

further : {A : Type 0} (give : A → Option ℕ) (x : A) (xs : List A) (e : ℕ) → IsFrom give xs e → IsFrom give (x ∷ xs) e
further give x xs e f = record { place = suc f.place; item = f.item; within = omega (arith, f.within); there = f.there; gives = f.gives }

from_front : {A : Type 0} (give : A → Option ℕ) (x : A) (xs : List A) (e : ℕ) (first : Option ℕ) → give x ≡ first
    → (Contains (filter_map give xs) e → IsFrom give xs e) → Contains (cons_option first (filter_map give xs)) e → IsFrom give (x ∷ xs) e
from_front give x xs e None is each c = further give x xs e (each c)
from_front give x xs e (Some a) is each (zero, less, same) =
    record { place = 0; item = x; within = omega arith; there = refl; gives = is ∙ ap (λ (n : ℕ). Some n) same }
from_front give x xs e (Some a) is each (suc k, less, same) = further give x xs e (each (k, omega (arith, less), same))

is_from : {A : Type 0} (give : A → Option ℕ) (list : List A) (e : ℕ) → Contains (filter_map give list) e → IsFrom give list e
is_from give [] e (k, less, same) = absurd (omega (arith, less))
is_from give (x ∷ xs) e c = from_front give x xs e (give x) refl (λ later. is_from give xs e later) c

-- a root speaks of its entry, and has no time
root_subject : (says : BoundBody) (entry : ℕ) → root_in says ≡ Some entry → subject_of says ≡ of.Entry entry
root_subject (body.Root a) entry is = let same : a ≡ entry = cc in ap (λ (e : ℕ). of.Entry e) same
root_subject (body.Never a) entry is = absurd (cc)
root_subject (body.At a reg lo hi) entry is = absurd (cc)
root_subject (body.Jump a to) entry is = absurd (cc)
root_subject (body.CallTo a to) entry is = absurd (cc)
root_subject (body.Loop a count) entry is = absurd (cc)
root_subject (body.Stub a time) entry is = absurd (cc)

root_time : (says : BoundBody) (entry : ℕ) → root_in says ≡ Some entry → time_in says ≡ None
root_time (body.Root a) entry is = refl
root_time (body.Never a) entry is = absurd (cc)
root_time (body.At a reg lo hi) entry is = absurd (cc)
root_time (body.Jump a to) entry is = absurd (cc)
root_time (body.CallTo a to) entry is = absurd (cc)
root_time (body.Loop a count) entry is = absurd (cc)
root_time (body.Stub a time) entry is = absurd (cc)

-- the entry of a root is no stub's
pub root_no_stub : (list : List BoundAssertion) (root : ℕ) → IsSound list → Contains (roots list) root → is_stub list root ≡ false
root_no_stub list root sound has =
    let f = is_from (λ assertion. root_in assertion.body) list root has in
    let at : about list (subject_of f.item.body) ≡ Some f.item =
    subst (λ (x : BoundAssertion). about list (subject_of x.body) ≡ Some x) f.there (finds_itself list f.place f.item sound.apart f.within) in
    let is : about list (of.Entry root) ≡ Some f.item = subst (λ (s : Subject). about list s ≡ Some f.item) (root_subject f.item.body root f.gives) at in
    ap (λ (o : Option BoundAssertion). is_some (option_and_then (λ assertion. time_in assertion.body) o)) is ∙ ap is_some (root_time f.item.body root f.gives)

-- what speaks of an entry and has a time is a stub with both
timed : (says : BoundBody) (entry time : ℕ) → is_same (subject_of says) (of.Entry entry) ≡ true → time_in says ≡ Some time → says ≡ body.Stub entry time
timed (body.Root a) entry time same is = absurd (cc)
timed (body.Never a) entry time same is = absurd (cc)
timed (body.At a reg lo hi) entry time same is = absurd (cc)
timed (body.Jump a to) entry time same is = absurd (cc)
timed (body.CallTo a to) entry time same is = absurd (cc)
timed (body.Loop a count) entry time same is = absurd (cc)
timed (body.Stub a t) entry time same is =
    let at : a ≡ entry = eqb-true a entry same in
    let within : t ≡ time = cc in
    λ i. body.Stub (at i) (within i)

-- a run that meets the assertions keeps the times of stubs
pub keeps_stubs : (image : List ℕ) (heads : Heads) (first : Machine) (rest : List Machine) (list : List BoundAssertion) → Meets image heads first rest list
    → KeepsAllStubs image list first rest
keeps_stubs image heads first rest list meets entry time is = by (about list (of.Entry entry)) refl is where
  by : (o : Option BoundAssertion) → about list (of.Entry entry) ≡ o → option_and_then (λ assertion. time_in assertion.body) o ≡ Some time
      → KeepsStubs image first rest entry time
  by None at none = absurd (cc)
  by (Some item) at has =
      let f = found list (of.Entry entry) item at in
      let met : IsMet image heads first rest item.body =
      subst (λ (x : BoundAssertion). IsMet image heads first rest x.body) f.there (meets f.place item f.within) in
      subst (IsMet image heads first rest) (timed item.body entry time f.same has) met

-- a run from a root that meets the assertions is followed by the facts of any closed state, up to its first gap: each
-- machine in its top frame is covered by the state at its program point, each frame below keeps the cells that the one
-- above may not write, each step within a frame is an edge, each push a call, and each pop lands behind its call and goes
-- on along an edge
pub runs_follow_closed_states : RunsFollowClosedStates
runs_follow_closed_states t image costs list eight x heads root first rest bound thresholds closed run =
    runs_followed image costs list (λ stack. x) x root first rest
    (record {
      bytes = bound.bytes;
      begins = run.begins;
      runs = run.runs;
      looked_into = root_no_stub list root bound.sound run.rooted;
      stands = stands;
      meets = sights_meet image heads first rest list run.meets;
      stubs = keeps_stubs image heads first rest list run.meets;
      facts = closed_states_cover_steps t image costs list eight x bound thresholds closed;
    })
  where
    stands : Stands image x Stays (root_frame first) first
    stands =
        let has = closed_starts.roots t (family t image list) (program_of image list eight (widest image list)) x root closed run.rooted in
        let flat : depth_from first.cwp first.cwp ≡ 0 = depths.start first.cwp run.begins.machine.window in
        let same : entry_of root ≡ place_of Stays (root_frame first) first =
        same_place (entry_of root) (place_of Stays (root_frame first) first) (sym run.begins.pc) (sym run.begins.pc) (ap At (sym run.begins.npc)) (sym flat) in
        let word = caller_word in
        record {
          state = has.state;
          is = subst (λ (r : Place). state_in (x (key.Node r)) ≡ Some has.state) same (ap state_in has.found);
          shallow = subst (λ (n : ℕ). n < 2) (sym flat) (omega arith);
          covers = greater_states_cover entry_state has.state (depth_from first.cwp first.cwp) (root_frame first) first has.above run.begins.machine word
              (subst (λ (n : ℕ). Covers entry_state n (root_frame first) first) (sym flat) (entries_cover (root_frame first) run.begins.machine refl));
          leads = tt;
        }
      where
        caller_word : (root_frame first).caller < 2 ^ 32
        caller_word = operands_words.first first 15 run.begins.machine
