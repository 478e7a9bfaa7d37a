-- Where the delay instructions of calls and returns lead, as the facts answer it.
use Rattle.std.proofs.Common.{◌≡◌, ℕ, ◌+◌, ◌-◌, ◌*◌, ◌%◌, ◌/◌, ◌^◌, ◌<◌, inl, inr, Bool, true, false, List, ◌∷◌, Option, Some, None, refl, sym, ap}
use Rattle.std.proofs.Common.{subst, ◌∙◌, arith, if◌then◌else◌}
use Rattle.std.specs.Prelude.{◌==◌, is_some, not}
use Rattle.std.proofs.lemmas.Bool.{both_ways, cases_Bool, cases_eq, false≢true}
use Rattle.abs_state.specs.State.{without}
use Rattle.abs_state.specs.declared.key.GapKind.TheVariants as why
use Rattle.abs_state.specs.declared.key.Key.TheVariants as key
use Rattle.abs_state.specs.declared.key.Next.TheVariants.{At}
use Rattle.abs_state.specs.declared.key.Place.{Place}
use Rattle.assert_bind.specs.declared.body.BoundAssertion.{BoundAssertion}
use Rattle.call_effects.proofs.MaskLemmas.{masks_are_sets, within_by}
use Rattle.call_effects.proofs.SummaryLemmas.{implies, up_parts}
use Rattle.call_effects.specs.Mask.{after_call, has_cell, is_within}
use Rattle.call_effects.specs.declared.summary.Summary.{Summary as Effects}
use Rattle.cell_places.specs.Place.{content_of}
use Rattle.sparc_decode.specs.declared.instruction.Instr.{Instr}
use Rattle.sparc_machine.specs.Effect.{flags_in}
use Rattle.sparc_machine.specs.Frame.{Frame, Transfer, Stays, Calls, Returns, instruction_at, transfer_of}
use Rattle.sparc_machine.specs.Machine.{register_of}
use Rattle.sparc_machine.specs.Straight.{code_instruction, passes}
use Rattle.sparc_machine.specs.declared.machine.Machine.{Machine}
use Rattle.sparc_runs.proofs.Levels.{depths}
use Rattle.sparc_runs.proofs.Transfers.{keep_links}
use Rattle.sparc_runs.specs.Cost.{annuls}
use Rattle.sparc_runs.specs.Going.{skips}
use Rattle.sparc_runs.specs.Running.{returns}
use Rattle.sparc_runs.specs.Window.{depth_from}
use Rattle.stack_laws.specs.Standing.{Backs, GoesOn, HandsOn, IsBack, StackFacts, Stands, behind_by, comes_back, effects_or_none, lent, no_effects}
use Rattle.stack_laws.specs.Standing.{place_of, summary_in, waiting_place}
use Rattle.stack_laws.specs.StepFacts.{GoesInto, GoesOut, PassesNothingOver, pushed, IsTaken as Takes}
use Rattle.state_covers.proofs.CoverLemmas.{greater_states_cover}
use Rattle.state_covers.specs.Covers.{Covers}
use Rattle.step_covers.proofs.CoveredLemmas.{entered_cover, returned_cover}
use Rattle.step_covers.specs.Does.{WayLeads}
use Rattle.transfer_acts.proofs.Agreeing.{acts_agree_with_frames, code_is_read}
use Rattle.transfer_acts.specs.Agreement.{Agrees}
use Rattle.transfer_acts.specs.Program.{program_of}
use Rattle.transfer_acts.specs.Reading.{is_skip}
use Rattle.transfer_acts.specs.Act.{is_next}
use Rattle.transfer_rules.specs.Closed.{HasState, IsTaken, LeadsTo, Says}
use Rattle.transfer_rules.specs.Fact.{effects_in, state_in}
use Rattle.transfer_rules.specs.Give.{Facts, arguments, entered_with, entry_of, onward}
use Rattle.transfer_rules.specs.declared.act.Way.{Way}
use Rattle.transfer_rules.specs.declared.act.Way.TheVariants.{Onward}
use Rattle.transfer_rules.specs.declared.fact.Fact.{Fact}
use Rattle.transfer_rules.specs.declared.fact.Fact.TheVariants as fact
use Rattle.transfer_values.specs.Family.{family}
use Rattle.transfer_values.specs.Resolve.{widest}
use Rattle.closed_steps.proofs.Leading.{depth_is, no_gap, same_place, skip_is, summary_is, writes_cells}
use Rattle.closed_steps.proofs.Taking.{IsDone}
use Rattle.closed_steps.specs.Graph.{Answers, IsBound}

-- what is said of a subprogram that may come back
record IsSaid (x : Facts) (sub : ℕ) : Type 0 where
  pub effects : Effects
  pub found : x (key.Summary sub) ≡ Some (fact.Sum effects)

none_comes : (skip : Bool) → comes_back no_effects skip ≡ true → ⊥
none_comes true is = false≢true is
none_comes false is = false≢true is

said : (x : Facts) (sub : ℕ) (skip : Bool) → comes_back (summary_in x sub) skip ≡ true → IsSaid x sub
said x sub skip comes = by (x (key.Summary sub)) refl comes where
  by : (o : Option Fact) → x (key.Summary sub) ≡ o → comes_back (effects_or_none (effects_in o)) skip ≡ true → IsSaid x sub
  by None is these = absurd (none_comes skip these)
  by (Some (fact.State s)) is these = absurd (none_comes skip these)
  by (Some (fact.Args list)) is these = absurd (none_comes skip these)
  by (Some (fact.Sum e)) is these = record { effects = e; found = is }
  by (Some fact.Mark) is these = absurd (none_comes skip these)

-- a call that writes nothing writes nothing of its caller
none_written : (depth c : ℕ) → has_cell (after_call 0 depth) c ≡ has_cell 0 c
none_written depth c = by (depth == 0) where
  by : (b : Bool) → has_cell (if b then 0 else 0 % 2 ^ 8 + (0 / 2 ^ 24 % 2 ^ 8) * 2 ^ 8 + (0 / 2 ^ 8 % 2 ^ 16) * 2 ^ 32) c ≡ has_cell 0 c
  by true = refl
  by false = refl

module _ (t image costs : List ℕ) (list : List BoundAssertion) (eight : Bool) (y : StackFacts) (x : Facts) (bound : IsBound image list) (invalid : ℕ)
    (due : Transfer) (top : Frame) (rest : List Frame) (m next : Machine)
    (answers : Answers t (family t image list) (program_of image list eight (widest image list)) (y (top ∷ rest)) x)
    (takes : Takes image costs list y x invalid due top rest m next)
    (d : IsDone t image list eight (y (top ∷ rest)) (place_of due top m) top m next) where
  -- the step, where it goes on
  pub record GoesOnward : Type 0 where
    pub taken : IsTaken (family t image list) (program_of image list eight (widest image list)) (y (top ∷ rest))
        (place_of due top m) d.step Onward d.before d.after
    pub pc : next.pc ≡ m.npc
    pub npc : next.npc ≡ (m.npc + 4) % 2 ^ 32
    pub still : transfer_of image m ≡ Stays

  slot : is_next (place_of due top m).next m.pc ≡ false → GoesOnward
  slot is =
      let way = d.is.onward is in
      let leads = subst (λ (w : Way). WayLeads image w (content_of m top.start.cwp) (flags_in m) m next) way d.does.leads in
      record {
        taken = subst (λ (w : Way). IsTaken (family t image list) (program_of image list eight (widest image list)) (y (top ∷ rest))
            (place_of due top m) d.step w d.before d.after) way d.taken;
        pc = leads.this;
        npc = leads.after;
        still = subst (λ (w : Way). Agrees w m.pc (transfer_of image m)) way
            (acts_agree_with_frames image list eight (place_of due top m) d.step d.way m d.taken.act refl);
      }

  whole : is_next (place_of due top m).next m.pc ≡ false → PassesNothingOver image m next
  whole is = subst (λ (o : Option Instr). annuls o m.pc next.pc ≡ false) (sym d.code) (d.is.whole is m.pc next.pc)

-- the delay instruction of a call
module _ (t image costs : List ℕ) (list : List BoundAssertion) (eight : Bool) (y : StackFacts) (x : Facts) (bound : IsBound image list)
    (invalid target address : ℕ) (top : Frame) (rest : List Frame) (m next : Machine)
    (answers : Answers t (family t image list) (program_of image list eight (widest image list)) (y (top ∷ rest)) x)
    (takes : Takes image costs list y x invalid (Calls target address) top rest m next)
    (d : IsDone t image list eight (y (top ∷ rest)) (place_of (Calls target address) top m) top m next) where
  pub on : GoesOnward t image costs list eight y x bound invalid (Calls target address) top rest m next answers takes d
  on = slot t image costs list eight y x bound invalid (Calls target address) top rest m next answers takes d refl

  link : (next.cwp ≡ m.cwp) × (register_of next 15 ≡ address)
  link = let l = keep_links image costs target address m next takes.running.machine takes.running.due takes.steps in (l.window, l.link)

  at : depth_from top.start.cwp next.cwp ≡ d.step.depth
  at = depth_is t image costs list eight y x bound invalid (Calls target address) top rest m next answers takes d.step d.after d.shallow d.covers_next

  flat : depth_from top.start.cwp m.cwp ≡ d.step.depth
  flat = ap (depth_from top.start.cwp) (sym link.0) ∙ at

  pub waits : place_of (Calls target address) top m ≡ waiting_place top (pushed target address next)
  waits =
      same_place (place_of (Calls target address) top m) (waiting_place top (pushed target address next)) refl takes.running.due.pc refl
      (ap (depth_from top.start.cwp) (sym link.0))

  hands : HandsOn x top (pushed target address next)
  hands = by (x (key.Summary target)) refl where
    none : summary_in x target ≡ no_effects → HandsOn x top (pushed target address next)
    none is =
        within_by (lent x top (pushed target address next)) (summary_in x top.sub).written
        (λ k has. absurd (both_ways (has_cell 0 k) (empty k)
        (sym (none_written (depth_from top.start.cwp next.cwp) k)
        ∙ subst (λ (e : Effects). has_cell (after_call e.written (depth_from top.start.cwp next.cwp)) k ≡ true) is has)))
      where
        empty : (k : ℕ) → has_cell 0 k ≡ false
        empty k = elim (cases_Bool (has_cell 0 k)) [ inl has ↦ absurd (masks_are_sets.none k has) | inr free ↦ free ]

    by : (o : Option Fact) → x (key.Summary target) ≡ o → HandsOn x top (pushed target address next)
    by None is = none (ap (λ o. effects_or_none (effects_in o)) is)
    by (Some (fact.State s)) is = none (ap (λ o. effects_or_none (effects_in o)) is)
    by (Some (fact.Args all)) is = none (ap (λ o. effects_or_none (effects_in o)) is)
    by (Some (fact.Sum there)) is =
        let says = answers.says_calls (place_of (Calls target address) top m) target d.step d.before d.after there on.taken refl is in
        let up = (up_parts (record { returns = false; skips = false; written = after_call there.written d.step.depth }) says.all says.above).written in
        subst (λ (e : Effects). is_within (after_call e.written (depth_from top.start.cwp next.cwp)) (summary_in x top.sub).written ≡ true)
        (sym (summary_is x target there is))
        (subst (λ (e : Effects). is_within (after_call there.written (depth_from top.start.cwp next.cwp)) e.written ≡ true)
        (sym (summary_is x top.sub says.all says.found))
        (subst (λ (n : ℕ). is_within (after_call there.written n) says.all.written ≡ true) (sym at) up))
    by (Some fact.Mark) is = none (ap (λ o. effects_or_none (effects_in o)) is)

  -- a machine that has come back goes on
  back_by : (k : Machine) (skip : Bool) (there : Effects) (n : ℕ) → n ≡ behind_by skip → x (key.Summary target) ≡ Some (fact.Sum there)
      → LeadsTo (y (top ∷ rest)) (place_of (Calls target address) top m)
      (onward (place_of (Calls target address) top m) ((address + n) % 2 ^ 32) d.step.depth)
      (without d.after (after_call there.written d.step.depth))
      → IsBack x top (pushed target address next) skip k → GoesOn image (y (top ∷ rest)) top (pushed target address next) k
  back_by k skip there n by found leads is =
      let covers : Covers (without d.after (after_call there.written d.step.depth)) d.step.depth top k =
      returned_cover t d.after (after_call there.written d.step.depth) d.step.depth top next k d.covers_next is.machine
      (record {
        window = is.window;
        kept = λ c low free. is.kept c low
            (subst (λ (e : Effects). has_cell (after_call e.written (depth_from top.start.cwp next.cwp)) c ≡ false) (sym (summary_is x target there found))
            (subst (λ (j : ℕ). has_cell (after_call there.written j) c ≡ false) (sym at) free));
      }) in
      let deep : depth_from top.start.cwp k.cwp ≡ d.step.depth = ap (depth_from top.start.cwp) is.window ∙ at in
      let same : onward (place_of (Calls target address) top m) ((address + n) % 2 ^ 32) d.step.depth ≡ place_of Stays top k =
      same_place (onward (place_of (Calls target address) top m) ((address + n) % 2 ^ 32) d.step.depth) (place_of Stays top k) refl
      (ap (λ (j : ℕ). (address + j) % 2 ^ 32) by ∙ sym is.pc)
      (ap At (next_is n (behind_by skip) k.npc by is.npc)) (sym deep) in
      record {
        edge = subst (λ (r : Place). is_some (y (top ∷ rest) (key.Edge r (place_of Stays top k))) ≡ true) waits
            (subst (λ (r : Place). is_some (y (top ∷ rest) (key.Edge (place_of (Calls target address) top m) r)) ≡ true) same (ap is_some leads.edge));
        stands = record {
          state = leads.state;
          is = subst (λ (r : Place). state_in (y (top ∷ rest) (key.Node r)) ≡ Some leads.state) same (ap state_in leads.found);
          shallow = subst (λ (j : ℕ). j < 2) (sym deep) d.shallow;
          covers = greater_states_cover (without d.after (after_call there.written d.step.depth)) leads.state
              (depth_from top.start.cwp k.cwp) top k leads.above is.machine takes.entered.word
              (subst (λ (j : ℕ). Covers (without d.after (after_call there.written d.step.depth)) j top k) (sym deep) covers);
          leads = tt;
        };
      }
    where
      next_is : (a b npc : ℕ) → a ≡ b → npc ≡ (address + b + 4) % 2 ^ 32 → ((address + a) % 2 ^ 32 + 4) % 2 ^ 32 ≡ npc
      next_is a b npc same is = omega arith

  pub backs : Backs image (y (top ∷ rest)) x top (pushed target address next)
  backs k false is =
      let there = said x target false is.comes in
      let comes : there.effects.returns ≡ true = subst (λ (e : Effects). comes_back e false ≡ true) (summary_is x target there.effects there.found) is.comes in
      back_by k false there.effects 8 refl there.found
      (subst (λ (a : ℕ). LeadsTo (y (top ∷ rest)) (place_of (Calls target address) top m)
      (onward (place_of (Calls target address) top m) a d.step.depth) (without d.after (after_call there.effects.written d.step.depth)))
      near (answers.comes_back (place_of (Calls target address) top m) target d.step d.before d.after there.effects on.taken refl there.found comes)) is
    where
      near : (m.pc + 4) % 2 ^ 32 ≡ (address + 8) % 2 ^ 32
      near = let e = takes.running.due.pc in omega arith
  backs k true is =
      let there = said x target true is.comes in
      let comes : there.effects.skips ≡ true = subst (λ (e : Effects). comes_back e true ≡ true) (summary_is x target there.effects there.found) is.comes in
      back_by k true there.effects 12 refl there.found
      (subst (λ (a : ℕ). LeadsTo (y (top ∷ rest)) (place_of (Calls target address) top m)
      (onward (place_of (Calls target address) top m) a d.step.depth) (without d.after (after_call there.effects.written d.step.depth)))
      far (answers.skips (place_of (Calls target address) top m) target d.step d.before d.after there.effects on.taken refl there.found comes)) is
    where
      far : (m.pc + 8) % 2 ^ 32 ≡ (address + 12) % 2 ^ 32
      far = let e = takes.running.due.pc in omega arith

  pub goes_into : GoesInto image (y (top ∷ rest)) x target address top m next
  goes_into =
      let call = answers.makes_call (place_of (Calls target address) top m) target d.step d.before d.after on.taken refl in
      record {
        still = on.still;
        whole = whole t image costs list eight y x bound invalid (Calls target address) top rest m next answers takes d refl;
        pc = on.pc ∙ takes.stands.leads;
        npc = on.npc ∙ ap (λ (n : ℕ). (n + 4) % 2 ^ 32) takes.stands.leads;
        called = ap is_some call.found;
        writes = writes_cells t image costs list eight y x bound invalid (Calls target address) top rest m next answers takes d;
        hands = hands;
        backs = backs;
      }

  -- the entry of what is called
  pub enters : HasState (y (pushed target address next ∷ top ∷ rest)) (entry_of target) (entered_with (arguments d.step.depth d.after))
      → Stands image (y (pushed target address next ∷ top ∷ rest)) Stays (pushed target address next) next
  enters has =
      let npc : next.npc ≡ (target + 4) % 2 ^ 32 = on.npc ∙ ap (λ (n : ℕ). (n + 4) % 2 ^ 32) takes.stands.leads in
      let zero_depth : depth_from next.cwp next.cwp ≡ 0 = depths.start next.cwp d.covers_next.machine.window in
      let same : entry_of target ≡ place_of Stays (pushed target address next) next =
      same_place (entry_of target) (place_of Stays (pushed target address next) next) refl (sym takes.stands.leads ∙ sym on.pc) (ap At (sym npc))
      (sym zero_depth) in
      let covers = entered_cover t d.after d.step.depth top (pushed target address next) takes.entered.machine.window d.shallow d.covers_next link.1 in
      record {
        state = has.state;
        is = subst (λ (r : Place). state_in (y (pushed target address next ∷ top ∷ rest) (key.Node r)) ≡ Some has.state) same (ap state_in has.found);
        shallow = subst (λ (n : ℕ). n < 2) (sym zero_depth) (omega arith);
        covers = greater_states_cover (entered_with (arguments d.step.depth d.after)) has.state (depth_from next.cwp next.cwp)
            (pushed target address next) next has.above d.covers_next.machine
            takes.running.due.word
            (subst (λ (n : ℕ). Covers (entered_with (arguments d.step.depth d.after)) n (pushed target address next) next) (sym zero_depth) covers);
        leads = tt;
      }

-- the delay instruction of a return
module _ (t image costs : List ℕ) (list : List BoundAssertion) (eight : Bool) (y : StackFacts) (x : Facts) (bound : IsBound image list) (invalid : ℕ)
    (top : Frame) (rest : List Frame) (m next : Machine)
    (answers : Answers t (family t image list) (program_of image list eight (widest image list)) (y (top ∷ rest)) x)
    (takes : Takes image costs list y x invalid Returns top rest m next)
    (d : IsDone t image list eight (y (top ∷ rest)) (place_of Returns top m) top m next) where
  off : GoesOnward t image costs list eight y x bound invalid Returns top rest m next answers takes d
  off = slot t image costs list eight y x bound invalid Returns top rest m next answers takes d refl

  shut : d.step.depth ≡ 0
  shut =
      elim (cases_eq d.step.depth 0) [
        | inl same ↦ same
        | inr deep ↦
            absurd (no_gap t image costs list eight y x bound invalid Returns top rest m next answers takes why.Instr
            (answers.deep (place_of Returns top m) d.step d.before d.after off.taken refl deep))
      ]

  -- the return before it skips a word as both say
  skip_same : passes skips (code_instruction image ((m.pc + 2 ^ 32 - 4) % 2 ^ 32)) ≡ is_skip (instruction_at image ((m.pc + 2 ^ 32 - 4) % 2 ^ 32))
  skip_same = by (code_instruction image ((m.pc + 2 ^ 32 - 4) % 2 ^ 32)) refl takes.running.due.leave where
    by : (o : Option Instr) → code_instruction image ((m.pc + 2 ^ 32 - 4) % 2 ^ 32) ≡ o → passes returns o ≡ true
        → passes skips o ≡ is_skip (instruction_at image ((m.pc + 2 ^ 32 - 4) % 2 ^ 32))
    by None is leave = absurd (false≢true leave)
    by (Some i) is leave = sym (ap is_skip (code_is_read image ((m.pc + 2 ^ 32 - 4) % 2 ^ 32) i is) ∙ skip_is i)

  said_back : Says x top.sub (record {
    returns = not (is_skip (instruction_at image ((m.pc + 2 ^ 32 - 4) % 2 ^ 32)));
    skips = is_skip (instruction_at image ((m.pc + 2 ^ 32 - 4) % 2 ^ 32));
    written = 0;
  })
  said_back = answers.says_back (place_of Returns top m) d.step d.before d.after off.taken refl shut

  comes : (b : Bool) → is_skip (instruction_at image ((m.pc + 2 ^ 32 - 4) % 2 ^ 32)) ≡ b → comes_back (summary_in x top.sub) b ≡ true
  comes false is =
      let up = up_parts (record {
        returns = not (is_skip (instruction_at image ((m.pc + 2 ^ 32 - 4) % 2 ^ 32)));
        skips = is_skip (instruction_at image ((m.pc + 2 ^ 32 - 4) % 2 ^ 32));
        written = 0;
      }) said_back.all said_back.above in
      subst (λ (e : Effects). comes_back e false ≡ true) (sym (summary_is x top.sub said_back.all said_back.found))
      (subst (λ (k : Bool). implies (not k) said_back.all.returns ≡ true) is up.returns)
  comes true is =
      let up = up_parts (record {
        returns = not (is_skip (instruction_at image ((m.pc + 2 ^ 32 - 4) % 2 ^ 32)));
        skips = is_skip (instruction_at image ((m.pc + 2 ^ 32 - 4) % 2 ^ 32));
        written = 0;
      }) said_back.all said_back.above in
      subst (λ (e : Effects). comes_back e true ≡ true) (sym (summary_is x top.sub said_back.all said_back.found))
      (subst (λ (k : Bool). implies k said_back.all.skips ≡ true) is up.skips)

  pub goes_out : GoesOut image x top m next
  goes_out = by (is_skip (instruction_at image ((m.pc + 2 ^ 32 - 4) % 2 ^ 32))) refl where
    from : (b : Bool) → is_skip (instruction_at image ((m.pc + 2 ^ 32 - 4) % 2 ^ 32)) ≡ b → m.npc ≡ (top.caller + behind_by b) % 2 ^ 32
    from b is = takes.stands.leads ∙ ap (λ (k : Bool). (top.caller + (if k then 12 else 8)) % 2 ^ 32) (skip_same ∙ is)
        ∙ ap (λ (n : ℕ). (top.caller + n) % 2 ^ 32) (bytes b) where
          bytes : (k : Bool) → (if k then 12 else 8) ≡ behind_by k
          bytes true = refl
          bytes false = refl

    window : next.cwp ≡ top.start.cwp
    window = let w = d.covers_next.covers.window in let z = shut in let s = takes.entered.machine.window in omega arith

    by : (b : Bool) → is_skip (instruction_at image ((m.pc + 2 ^ 32 - 4) % 2 ^ 32)) ≡ b → GoesOut image x top m next
    by b is =
        record {
          still = off.still;
          whole = whole t image costs list eight y x bound invalid Returns top rest m next answers takes d refl;
          skip = b;
          comes = comes b is;
          pc = off.pc ∙ from b is;
          npc = npc_is (behind_by b) (from b is);
          window = window;
          writes = writes_cells t image costs list eight y x bound invalid Returns top rest m next answers takes d;
        }
      where
        npc_is : (n : ℕ) → m.npc ≡ (top.caller + n) % 2 ^ 32 → next.npc ≡ (top.caller + n + 4) % 2 ^ 32
        npc_is n e = let f = off.npc in omega arith
