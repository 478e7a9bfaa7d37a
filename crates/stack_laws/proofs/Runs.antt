-- Up to its first gap each place of a run is followed.
use Rattle.std.proofs.Common.{◌≡◌, ℕ, zero, suc, ◌<◌, ◌≤◌, inl, Bool, true, false, List, [], ◌∷◌, Option, Some, None, length, refl, sym, ap, subst, arith}
use Rattle.std.specs.Prelude.{nat_lt, is_some}
use Rattle.std.proofs.lemmas.Bool.Decides.{nat_tests}
use Rattle.assert_bind.specs.Binding.{stub}
use Rattle.assert_bind.specs.Sight.{MeetsEach}
use Rattle.assert_bind.specs.declared.body.BoundAssertion.{BoundAssertion}
use Rattle.sparc_machine.specs.Frame.{Frame, Config, StepsTo, config_after, config_at, first_config}
use Rattle.sparc_machine.specs.declared.machine.Machine.{Machine}
use Rattle.sparc_runs.proofs.Places.{at_places}
use Rattle.sparc_runs.proofs.RunLaws.{runs_running, keep_running}
use Rattle.sparc_runs.proofs.Bounds.{operands_words}
use Rattle.sparc_runs.specs.High.{root_window}
use Rattle.sparc_runs.specs.Meets.{sight_of}
use Rattle.sparc_runs.specs.Running.{ArePushed, IsRunningAt}
use Rattle.sparc_runs.specs.Stub.{StubReturns}
use Rattle.sparc_runs.specs.Window.{IsMasked}
use Rattle.stack_laws.proofs.Beneath.{each_step, IsAsked, Leads}
use Rattle.stack_laws.specs.Followed.{Holds, IsBeforeGaps, IsFollowable, IsFollowedAt, IsStepFollowed, RunsAreFollowed}
use Rattle.stack_laws.specs.Standing.{StackFacts}
use Rattle.stack_laws.specs.StepFacts.{is_stub}
use Rattle.transfer_rules.specs.Give.{Facts}

-- what there is
told : {A : Type 0} → (o : Option A) → is_some o ≡ true → (a : A) × (o ≡ Some a)
told None there = cc
told (Some a) there = (a, refl)

-- the window of a stack's root is that in which the run began
root_is : (image : List ℕ) (invalid : ℕ) (first : Machine) (top : Frame) (rest : List Frame) → ArePushed image invalid first (top ∷ rest)
    → root_window top rest ≡ first.cwp
root_is image invalid first top [] pushed = ap (λ (m : Machine). m.cwp) pushed
root_is image invalid first top (below ∷ rest) pushed = root_is image invalid first below rest pushed.1

module _
    (image costs : List ℕ)
    (list : List BoundAssertion)
    (y : StackFacts)
    (x : Facts)
    (root : ℕ)
    (first : Machine)
    (rest : List Machine)
    (ask : IsFollowable image costs list y x root first rest)
    (invalid : ℕ)
    (masked : IsMasked invalid first)
    (running : (i : ℕ) → IsRunningAt image invalid first rest i)
  where
    -- where the run is at a place
    abbrev here : ℕ → Config
    here i = config_at image first rest i

    -- what a step from a place is asked
    asked : (i : ℕ) → i < length rest → IsBeforeGaps image list x first rest (suc i)
        → IsAsked image costs list y x ask.facts invalid first (here i) (here (suc i)).machine
    asked i within before =
        let steps : StepsTo image costs (here i).machine (here (suc i)).machine = ((at_places image costs first rest ask.runs).steps) i within in
        record {
          running = (running i).running;
          after = keep_running image costs invalid (here i) (here (suc i)).machine ask.bytes (running i).running steps;
          was = (running i).pushed;
          steps = steps;
          closed = before i (omega arith);
          meets =
              (let t : nat_lt i (length rest) ≡ true = grind (arith, nat_tests) in
              subst (λ (b : Bool). MeetsEach list (sight_of image (here i).machine b)) t (ask.meets i (omega arith)));
          back = λ F G below due are is_one.
              (let time = told (stub list F.sub) is_one in
              let keeps = ask.stubs F.sub time.0 time.1 in
              subst (λ (w : ℕ). StubReturns w F (here (suc i)).machine)
              (sym (root_is image invalid first F (G ∷ below) (subst (λ (l : List Frame). ArePushed image invalid first l) are (running i).pushed)))
              (keeps i F G below within due are refl).returns);
        }

    next_is : (i : ℕ) → i < length rest → here (suc i) ≡ config_after image (here i) (here (suc i)).machine
    next_is i within = ((at_places image costs first rest ask.runs).next) i within

    abbrev HoldsAt : Config → Type 0
    HoldsAt c = Holds image list y x invalid c.due c.frames c.machine

    begins : HoldsAt (first_config first)
    begins = inl (record {
      plain = (subst (λ (a : ℕ). is_stub list a ≡ false) (sym (ask.begins).pc) ask.looked_into, tt);
      entered = (record { machine = (ask.begins).machine; mask = masked; word = (operands_words.first) first 15 (ask.begins).machine }, tt);
      stands = ask.stands;
      waiting = tt;
      hanging = tt;
      high = masked.used;
    })

    earlier : (i : ℕ) → IsBeforeGaps image list x first rest (suc i) → IsBeforeGaps image list x first rest i
    earlier i before j less = before j (omega arith)

    holds_at : (i : ℕ) → i ≤ length rest → IsBeforeGaps image list x first rest i → HoldsAt (here i)
    holds_at zero within before = begins
    holds_at (suc i) within before =
        let ask_there = asked i (omega arith) before in
        let lead = each_step image costs list y x ask.facts invalid first (here i).machine (here (suc i)).machine (here i).due (here i).frames
        (holds_at i (omega arith) (earlier i before)) ask_there in
        subst HoldsAt (sym (next_is i (omega arith))) lead.holds

    leads : (i : ℕ) → i < length rest → IsBeforeGaps image list x first rest (suc i)
        → Leads image costs list y x ask.facts invalid (here i) (here (suc i)).machine
    leads i within before =
        each_step image costs list y x ask.facts invalid first (here i).machine (here (suc i)).machine (here i).due (here i).frames
        (holds_at i (omega arith) (earlier i before))
        (asked i within before)

    followed_at : (i : ℕ) → i ≤ length rest → IsBeforeGaps image list x first rest i → IsFollowedAt image list y x invalid first rest i
    followed_at i within before = record {
      running = (running i).running;
      holds = holds_at i within before;
      steps = λ less behind top below are.
          subst (λ (c : Config). IsStepFollowed image list y x (here i) c top below) (sym (next_is i less)) ((leads i less behind).followed top below are);
    }

-- Up to its first open instruction each place of a run is followed. A state stands at each machine without a stub's frame
-- and covers it; each frame below waits at the delay instruction of its call and keeps the cells that the one that it
-- called may not write; each step within a frame is an edge, each push a call, and each pop lands behind its call in the
-- window of its push and goes on along an edge.
pub runs_followed : RunsAreFollowed
runs_followed image costs list y x root first rest ask =
    let run = runs_running image costs root first rest ask.bytes ask.begins ask.runs in
    (run.0, λ i within before. followed_at image costs list y x root first rest ask run.0 run.1 run.2 i within before)
