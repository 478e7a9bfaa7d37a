-- Steps beneath a subprogram that isn't looked into, and each step of a run.
use Rattle.std.proofs.Common.{◌≡◌, ℕ, inl, inr, Bool, true, false, List, [], ◌∷◌, ◌++◌, refl, sym, ap, subst}
use Rattle.assert_bind.specs.Sight.{MeetsEach}
use Rattle.assert_bind.specs.declared.body.BoundAssertion.{BoundAssertion}
use Rattle.sparc_machine.specs.Frame.{Frame, Transfer, Stays, Calls, Returns, Config, StepsTo, transfer_of, frames_after, config_after}
use Rattle.sparc_machine.specs.declared.machine.Machine.{Machine}
use Rattle.sparc_runs.specs.High.{AreHigh, root_window}
use Rattle.sparc_runs.specs.Meets.{sight_of}
use Rattle.sparc_runs.specs.Running.{IsRunning, ArePushed}
use Rattle.sparc_runs.specs.Stub.{StubReturns}
use Rattle.stack_laws.proofs.Following.{clear_step, popped, IsPopped}
use Rattle.stack_laws.specs.Followed.{IsClear, Holds, IsStepFollowed, Lands, GoesBack}
use Rattle.stack_laws.specs.Standing.{AreHanging, AreWaiting, StackFacts}
use Rattle.stack_laws.specs.StepFacts.{AreEntered, ArePlain, HasNoGap, StepFacts, is_stub, pushed}
use Rattle.transfer_rules.specs.Give.{Facts}

-- a truth value isn't both
both : (b : Bool) → b ≡ true → b ≡ false → ⊥
both true e f = cc
both false e f = cc

-- a stack with a stub's frame isn't one without
among : (list : List BoundAssertion) (inner : List Frame) (lowest : Frame) (rest : List Frame) → is_stub list lowest.sub ≡ true
    → ArePlain list (inner ++ lowest ∷ rest) → ⊥
among list [] lowest rest stub plain = both (is_stub list lowest.sub) stub plain.0
among list (h ∷ inner) lowest rest stub plain = among list inner lowest rest stub plain.1

-- the first of two equal lists that aren't empty
abbrev head_of : Frame → List Frame → Frame
head_of other [] = other
head_of other (F ∷ rest) = F

abbrev tail_of : List Frame → List Frame
tail_of [] = []
tail_of (F ∷ rest) = rest

module _ (image costs : List ℕ) (list : List BoundAssertion) (y : StackFacts) (x : Facts) (facts : StepFacts image costs list y x) (invalid : ℕ) where
  -- what is known of the frames below the lowest stub's
  record IsHeld (lowest below : Frame) (rest : List Frame) : Type 0 where
    pub stub : is_stub list lowest.sub ≡ true
    pub plain : ArePlain list (below ∷ rest)
    pub entered : AreEntered invalid (below ∷ rest)
    pub waiting : AreWaiting y x lowest (below ∷ rest) lowest.start
    pub hanging : AreHanging image y x lowest (below ∷ rest)
    pub high : AreHigh invalid (lowest ∷ below ∷ rest)

  held : (due : Transfer) (m : Machine) (inner : List Frame) (lowest below : Frame) (rest : List Frame) → IsHeld lowest below rest
      → Holds image list y x invalid due (inner ++ lowest ∷ below ∷ rest) m
  held due m [] lowest below rest h = inr (record {
    inner = [];
    lowest = lowest;
    below = below;
    rest = rest;
    are = refl;
    stub = h.stub;
    plain = h.plain;
    entered = h.entered;
    waiting = h.waiting;
    hanging = h.hanging;
    high = h.high;
  })
  held due m (f ∷ inner) lowest below rest h = inr (record {
    inner = f ∷ inner;
    lowest = lowest;
    below = below;
    rest = rest;
    are = refl;
    stub = h.stub;
    plain = h.plain;
    entered = h.entered;
    waiting = h.waiting;
    hanging = h.hanging;
    high = h.high;
  })

  -- where a step leads to, and how it was followed
  pub record Leads (c : Config) (next : Machine) : Type 0 where
    pub holds : Holds image list y x invalid (transfer_of image c.machine) (frames_after c.due next c.frames) next
    pub followed : (top : Frame) (rest : List Frame) → c.frames ≡ top ∷ rest → IsStepFollowed image list y x c (config_after image c next) top rest

  -- what is asked of the machine where a step begins
  pub record IsAsked (first : Machine) (c : Config) (next : Machine) : Type 0 where
    pub running : IsRunning image invalid c
    pub after : IsRunning image invalid (config_after image c next)
    pub was : ArePushed image invalid first c.frames
    pub steps : StepsTo image costs c.machine next
    pub closed : (top : Frame) (rest : List Frame) → c.frames ≡ top ∷ rest → ArePlain list (top ∷ rest) → HasNoGap x top.sub (c.machine).pc
    pub meets : MeetsEach list (sight_of image c.machine true)
    pub back : (F G : Frame) (rest : List Frame) → c.due ≡ Returns → c.frames ≡ F ∷ G ∷ rest → is_stub list F.sub ≡ true
        → StubReturns (root_window F (G ∷ rest)) F next

  module _ (first m next : Machine) where
    abbrev at : Transfer → List Frame → Config
    at due frames = record { machine = m; due = due; frames = frames }

    -- a step that doesn't pop the lowest stub's frame says nothing
    silent : (due : Transfer) (inner : List Frame) (lowest below : Frame) (rest : List Frame) → is_stub list lowest.sub ≡ true
        → ((top : Frame) (under : List Frame) → inner ++ lowest ∷ below ∷ rest ≡ top ∷ under → ArePlain list under → due ≡ Returns → ⊥)
        → (top : Frame) (under : List Frame) → inner ++ lowest ∷ below ∷ rest ≡ top ∷ under
        → IsStepFollowed image list y x (at due (inner ++ lowest ∷ below ∷ rest)) (config_after image (at due (inner ++ lowest ∷ below ∷ rest)) next) top under
    silent due inner lowest below rest stub not_popped top under are = record {
      plain = λ plain. absurd (among list inner lowest (below ∷ rest) stub (subst (λ (l : List Frame). ArePlain list l) (sym are) plain));
      stub = λ is_one plain returns. absurd (not_popped top under are plain returns);
    }

    beneath : (due : Transfer) (inner : List Frame) (lowest below : Frame) (rest : List Frame) → IsHeld lowest below rest
        → IsAsked first (at due (inner ++ lowest ∷ below ∷ rest)) next → Leads (at due (inner ++ lowest ∷ below ∷ rest)) next
    beneath Stays inner lowest below rest h ask = record {
      holds = held (transfer_of image m) next inner lowest below rest h;
      followed = silent Stays inner lowest below rest h.stub (λ top under are plain returns. cc);
    }
    beneath (Calls target address) [] lowest below rest h ask = record {
      holds = held (transfer_of image m) next (pushed target address next ∷ []) lowest below rest h;
      followed = silent (Calls target address) [] lowest below rest h.stub (λ top under are plain returns. cc);
    }
    beneath (Calls target address) (f ∷ inner) lowest below rest h ask = record {
      holds = held (transfer_of image m) next (pushed target address next ∷ f ∷ inner) lowest below rest h;
      followed = silent (Calls target address) (f ∷ inner) lowest below rest h.stub (λ top under are plain returns. cc);
    }
    beneath Returns (f ∷ inner) lowest below rest h ask = record {
      holds = held (transfer_of image m) next inner lowest below rest h;
      followed =
          silent Returns (f ∷ inner) lowest below rest h.stub
          (λ top under are plain returns.
          among list inner lowest (below ∷ rest) h.stub (subst (λ (l : List Frame). ArePlain list l) (sym (ap tail_of are)) plain));
    }
    beneath Returns [] lowest below rest h ask =
        let pop : IsPopped image costs list y x facts invalid lowest below rest m next =
        popped image costs list y x facts invalid lowest below rest m next ask.running ask.after ask.steps (ask.was).0 h.stub
        (ask.back lowest below rest refl refl h.stub) h.plain h.entered h.waiting h.hanging h.high in
        record {
          holds = inl pop.clear;
          followed = λ top under are. record {
            plain = λ plain. absurd (among list [] lowest (below ∷ rest) h.stub (subst (λ (l : List Frame). ArePlain list l) (sym are) plain));
            stub = λ is_one plain returns. (
              subst (λ (G : Frame). Lands x G next) (ap (head_of lowest) are) pop.lands,
              subst (λ (l : List Frame). GoesBack y x (head_of lowest l) (tail_of l) next) are pop.goes,
              pop.still,
            );
          };
        }

    clear : (due : Transfer) (top : Frame) (rest : List Frame) → IsClear image list y x invalid due top rest m → IsAsked first (at due (top ∷ rest)) next
        → Leads (at due (top ∷ rest)) next
    clear due top rest c ask =
        let behind = clear_step image costs list y x facts invalid top rest m next ask.steps
        (ask.closed top rest refl c.plain) ask.meets due ask.running ask.after c in
        record {
          holds = behind.holds;
          followed = λ up under are.
              subst
              (λ (l : List Frame).
              IsStepFollowed image list y x (at due (top ∷ rest)) (config_after image (at due (top ∷ rest)) next) (head_of top l) (tail_of l))
              are
              (record {
                plain = λ plain. behind.followed;
                stub = λ is_one plain returns. absurd (both (is_stub list top.sub) is_one (c.plain).0);
              });
        }

    -- each step of a run
    pub each_step : (due : Transfer) (frames : List Frame) → Holds image list y x invalid due frames m → IsAsked first (at due frames) next
        → Leads (at due frames) next
    each_step due [] holds ask = record {
      holds = none due;
      followed = λ top rest are. cc;
    }
      where
        none : (due : Transfer) → Holds image list y x invalid (transfer_of image m) (frames_after due next []) next
        none Stays = tt
        none (Calls target address) = tt
        none Returns = tt
    each_step due (top ∷ rest) (inl c) ask = clear due top rest c ask
    each_step due (top ∷ rest) (inr b) ask = go (top ∷ rest) b.are ask where
      hold : IsHeld b.lowest b.below b.rest
      hold = record { stub = b.stub; plain = b.plain; entered = b.entered; waiting = b.waiting; hanging = b.hanging; high = b.high }

      go : (frames : List Frame) → frames ≡ b.inner ++ b.lowest ∷ b.below ∷ b.rest → IsAsked first (at due frames) next → Leads (at due frames) next
      go frames are ask =
          subst (λ (l : List Frame). Leads (at due l) next) (sym are)
          (beneath due b.inner b.lowest b.below b.rest hold (subst (λ (l : List Frame). IsAsked first (at due l) next) are ask))
