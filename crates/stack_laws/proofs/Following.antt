-- How each step of a run is followed, and what holds behind it.
use Rattle.std.proofs.Common.{◌≡◌, ℕ, ◌+◌, ◌%◌, ◌^◌, ◌<◌, ◌⊎◌, inl, inr, Bool, true, false, List, [], ◌∷◌, refl, sym, ap, subst, ◌∙◌, arith}
use Rattle.std.specs.Prelude.{Some, is_some}
use Rattle.abs_state.specs.declared.key.Key.TheVariants as key
use Rattle.abs_state.specs.declared.key.Next.TheVariants.{Into}
use Rattle.abs_state.specs.declared.key.Place.{Place}
use Rattle.assert_bind.specs.Sight.{MeetsEach}
use Rattle.assert_bind.specs.declared.body.BoundAssertion.{BoundAssertion}
use Rattle.call_effects.proofs.SummaryLemmas.{up_parts}
use Rattle.call_effects.specs.Summary.{effects_of_stub}
use Rattle.sparc_machine.specs.Frame.{Frame, Transfer, Stays, Calls, Returns, StepsTo, transfer_of, frames_after}
use Rattle.sparc_machine.specs.declared.machine.Machine.{Machine}
use Rattle.sparc_runs.proofs.HighStacks.{pushes_high}
use Rattle.sparc_runs.proofs.Levels.{depths}
use Rattle.sparc_runs.proofs.Pops.{pops_go_on}
use Rattle.sparc_runs.proofs.Transfers.{keep_links}
use Rattle.sparc_runs.specs.High.{AreHigh, root_window}
use Rattle.sparc_runs.specs.Meets.{sight_of}
use Rattle.sparc_runs.specs.Running.{IsRunning, IsPushed}
use Rattle.sparc_runs.specs.Stub.{StubReturns}
use Rattle.sparc_runs.specs.Window.{depth_from}
use Rattle.stack_laws.proofs.Keeping.{top_used}
use Rattle.stack_laws.proofs.StubKeeping.{stubs_stay, root_is_highest, root_in_use}
use Rattle.stack_laws.proofs.Writing.{writes_stay}
use Rattle.stack_laws.specs.Followed.{IsClear, Holds, IsFollowed, Lands, GoesBack}
use Rattle.stack_laws.specs.Standing.{AreHanging, AreWaiting, IsBack, Stands, StackFacts, Waits, Hangs, place_of, waiting_place, summary_in}
use Rattle.stack_laws.specs.StepFacts.{AreEntered, ArePlain, HasNoGap, IsEntered, IsTaken, GoesOut, StepFacts, is_stub, pushed}
use Rattle.transfer_rules.specs.Fact.{state_in}
use Rattle.transfer_rules.specs.Give.{Facts}

-- a truth value is one or the other
one_of : (b : Bool) → (b ≡ true) ⊎ (b ≡ false)
one_of true = inl refl
one_of false = inr refl

module _ (image costs : List ℕ) (list : List BoundAssertion) (y : StackFacts) (x : Facts) (facts : StepFacts image costs list y x) (invalid : ℕ) where
  -- what holds behind a step, and how it was followed
  pub record Behind (due : Transfer) (top : Frame) (rest : List Frame) (m next : Machine) : Type 0 where
    pub holds : Holds image list y x invalid (transfer_of image m) (frames_after due next (top ∷ rest)) next
    pub followed : IsFollowed image y x due (transfer_of image m) top rest m next

  module _
      (top : Frame)
      (rest : List Frame)
      (m next : Machine)
      (steps : StepsTo image costs m next)
      (closed : HasNoGap x top.sub m.pc)
      (meets : MeetsEach list (sight_of image m true))
    where
      -- a step that is taken from a machine without a stub's frame
      taken : (due : Transfer) → IsRunning image invalid (record { machine = m; due = due; frames = top ∷ rest })
          → IsClear image list y x invalid due top rest m
          → IsTaken image costs list y x invalid due top rest m next
      taken due running clear = record {
        running = running;
        entered = (clear.entered).0;
        plain = clear.plain;
        stands = clear.stands;
        steps = steps;
        closed = closed;
        meets = meets;
      }

      inside : IsRunning image invalid (record { machine = m; due = Stays; frames = top ∷ rest })
          → IsRunning image invalid (record { machine = next; due = transfer_of image m; frames = frames_after Stays next (top ∷ rest) })
          → IsClear image list y x invalid Stays top rest m → Behind Stays top rest m next
      inside running after clear =
          let goes = (facts.inside) invalid top rest m next (taken Stays running clear) in
          let used = top_used invalid top rest clear.high in
          record {
            holds = inl (record {
              plain = clear.plain;
              entered = clear.entered;
              stands = goes.stands;
              waiting = writes_stay x invalid top m next (after.mask).below used (after.mask).used
                  (goes.stands).shallow goes.writes image y rest clear.waiting clear.hanging clear.high;
              hanging = clear.hanging;
              high = clear.high;
            });
            followed = goes.edge;
          }

      into : (target address : ℕ) → IsRunning image invalid (record { machine = m; due = Calls target address; frames = top ∷ rest })
          → IsRunning image invalid (record { machine = next; due = transfer_of image m; frames = frames_after (Calls target address) next (top ∷ rest) })
          → IsClear image list y x invalid (Calls target address) top rest m → Behind (Calls target address) top rest m next
      into target address running after clear =
          let take = taken (Calls target address) running clear in
          let goes = (facts.into) invalid target address top rest m next take in
          let link = keep_links image costs target address m next running.machine running.due steps in
          let used = top_used invalid top rest clear.high in
          let G : Frame = pushed target address next in
          let same_depth : depth_from top.start.cwp m.cwp ≡ depth_from top.start.cwp next.cwp = ap (λ (w : ℕ). depth_from top.start.cwp w) (sym link.window) in
          let shallow : depth_from top.start.cwp next.cwp < 2 = subst (λ (d : ℕ). d < 2) same_depth (clear.stands).shallow in
          let same : place_of (Calls target address) top m ≡ waiting_place top G =
          λ i. record { sub = top.sub; pc = (running.due).pc i; next = Into target; depth = same_depth i } in
          let below = writes_stay x invalid top m next (after.mask).below used
          (after.mask).used shallow goes.writes image y rest clear.waiting clear.hanging clear.high in
          let waits : Waits (y (top ∷ rest)) x top G next = record {
            state = (clear.stands).state;
            is = subst (λ (p : Place). state_in (y (top ∷ rest) (key.Node p)) ≡ Some (clear.stands).state) same (clear.stands).is;
            called = subst (λ (p : Place). is_some (y (top ∷ rest) (key.Call p target)) ≡ true) same goes.called;
            shallow = shallow;
            kept = λ c within free. refl;
          } in
          let hangs : Hangs image (y (top ∷ rest)) x top G = record { backs = goes.backs; hands = goes.hands } in
          let high : AreHigh invalid (G ∷ top ∷ rest) = pushes_high invalid target address next top rest after.mask clear.high shallow in
          let begun : IsEntered invalid G = record { machine = after.machine; mask = after.mask; word = (running.due).word } in
          record {
            holds = elim (one_of (is_stub list target)) [
              | inl is_one ↦ inr (record {
                inner = [];
                lowest = G;
                below = top;
                rest = rest;
                are = refl;
                stub = is_one;
                plain = clear.plain;
                entered = clear.entered;
                waiting = (waits, below);
                hanging = (hangs, clear.hanging);
                high = high;
              })
              | inr is_none ↦ inl (record {
                plain = (is_none, clear.plain);
                entered = (begun, clear.entered);
                stands =
                    subst (λ (due : Transfer). Stands image (y (G ∷ top ∷ rest)) due G next) (sym goes.still)
                    ((facts.entered) invalid target address top rest m next take is_none);
                waiting = (waits, below);
                hanging = (hangs, clear.hanging);
                high = high;
              })
            ];
            followed = (goes.called, goes.pc, goes.npc, goes.still, goes.whole);
          }

      out : IsRunning image invalid (record { machine = m; due = Returns; frames = top ∷ rest })
          → IsRunning image invalid (record { machine = next; due = transfer_of image m; frames = frames_after Returns next (top ∷ rest) })
          → IsClear image list y x invalid Returns top rest m → Behind Returns top rest m next
      out running after clear = by rest goes_out waiting_after clear.plain clear.entered clear.hanging clear.high where
        goes_out : GoesOut image x top m next
        goes_out = (facts.out) invalid top rest m next (taken Returns running clear)

        shallow : depth_from top.start.cwp next.cwp < 2
        shallow =
            let used = top_used invalid top rest clear.high in
            let start : depth_from top.start.cwp top.start.cwp ≡ 0 = (depths.start) top.start.cwp used.window in
            let here : depth_from top.start.cwp next.cwp ≡ 0 = ap (λ (w : ℕ). depth_from top.start.cwp w) goes_out.window ∙ start in
            omega arith

        waiting_after : AreWaiting y x top rest next
        waiting_after =
            writes_stay x invalid top m next (after.mask).below (top_used invalid top rest clear.high)
            (after.mask).used shallow goes_out.writes image y rest clear.waiting
            clear.hanging
            clear.high

        by : (rest : List Frame) → GoesOut image x top m next → AreWaiting y x top rest next → ArePlain list (top ∷ rest) → AreEntered invalid (top ∷ rest)
            → AreHanging image y x top rest → AreHigh invalid (top ∷ rest) → Behind Returns top rest m next
        by [] goes waiting plain entered hanging high = record {
          holds = tt;
          followed = (record { skip = goes.skip; comes = goes.comes; pc = goes.pc; npc = goes.npc; window = goes.window }, tt, goes.still, goes.whole);
        }
        by (F ∷ rest) goes waiting plain entered hanging high =
            let back : IsBack x F top goes.skip next = record {
              machine = after.machine;
              comes = goes.comes;
              pc = goes.pc;
              npc = goes.npc;
              window = goes.window;
              kept = (waiting.0).kept;
            } in
            let on = (hanging.0).backs next goes.skip back in
            record {
              holds = inl (record {
                plain = plain.1;
                entered = entered.1;
                stands = subst (λ (due : Transfer). Stands image (y (F ∷ rest)) due F next) (sym goes.still) on.stands;
                waiting = waiting.1;
                hanging = hanging.1;
                high = high.2;
              });
              followed = (
                record { skip = goes.skip; comes = goes.comes; pc = goes.pc; npc = goes.npc; window = goes.window },
                (on.edge, (waiting.0).kept),
                goes.still,
                goes.whole,
              );
            }

      -- each step from a machine without a stub's frame
      pub clear_step : (due : Transfer) → IsRunning image invalid (record { machine = m; due = due; frames = top ∷ rest })
          → IsRunning image invalid (record { machine = next; due = transfer_of image m; frames = frames_after due next (top ∷ rest) })
          → IsClear image list y x invalid due top rest m → Behind due top rest m next
      clear_step Stays running after clear = inside running after clear
      clear_step (Calls target address) running after clear = into target address running after clear
      clear_step Returns running after clear = out running after clear

  -- where the lowest stub's frame is popped, it goes back
  pub record IsPopped (lowest below : Frame) (rest : List Frame) (m next : Machine) : Type 0 where
    pub clear : IsClear image list y x invalid (transfer_of image m) below rest next
    pub lands : Lands x lowest next
    pub goes : GoesBack y x lowest (below ∷ rest) next
    pub still : transfer_of image m ≡ Stays

  -- the pop of the lowest frame of a stub
  pub popped : (lowest below : Frame) (rest : List Frame) (m next : Machine)
      → IsRunning image invalid (record { machine = m; due = Returns; frames = lowest ∷ below ∷ rest })
      → IsRunning image invalid (record { machine = next; due = transfer_of image m; frames = below ∷ rest }) → StepsTo image costs m next
      → IsPushed image invalid lowest → is_stub list lowest.sub ≡ true → StubReturns (root_window lowest (below ∷ rest)) lowest next
      → ArePlain list (below ∷ rest)
      → AreEntered invalid (below ∷ rest) → AreWaiting y x lowest (below ∷ rest) lowest.start → AreHanging image y x lowest (below ∷ rest)
      → AreHigh invalid (lowest ∷ below ∷ rest) → IsPopped lowest below rest m next
  popped lowest below rest m next running after steps was stub back plain entered waiting hanging high =
      let writes = (facts.stubs) lowest.sub stub in
      let up = up_parts effects_of_stub (summary_in x lowest.sub) writes in
      let on = pops_go_on image costs invalid
      (record { machine = m; due = Returns; frames = lowest ∷ below ∷ rest }) next lowest running refl steps was.word was.call back.pc in
      let used = top_used invalid lowest (below ∷ rest) high in
      let wait = stubs_stay x invalid (root_window lowest (below ∷ rest)) lowest next (after.mask).below used (root_in_use invalid lowest (below ∷ rest) high)
      (root_is_highest invalid lowest (below ∷ rest) high)
      writes
      back
      image
      y
      (below ∷ rest)
      waiting
      hanging
      high
      refl in
      let npc : next.npc ≡ (lowest.caller + 8 + 4) % 2 ^ 32 = (let e = on.npc in omega arith) in
      let is_back : IsBack x below lowest false next = record {
        machine = after.machine;
        comes = up.returns;
        pc = back.pc;
        npc = npc;
        window = back.window;
        kept = (wait.0).kept;
      } in
      let goes = (hanging.0).backs next false is_back in
      record {
        clear = record {
          plain = plain;
          entered = entered;
          stands = subst (λ (due : Transfer). Stands image (y (below ∷ rest)) due below next) (sym on.due) goes.stands;
          waiting = wait.1;
          hanging = hanging.1;
          high = high.2;
        };
        lands = record { skip = false; comes = up.returns; pc = back.pc; npc = npc; window = back.window };
        goes = (goes.edge, (wait.0).kept);
        still = on.due;
      }
