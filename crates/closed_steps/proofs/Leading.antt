-- Where a step of a run leads, as the facts answer it.
use Rattle.std.proofs.Common.{◌≡◌, ℕ, ◌+◌, ◌-◌, ◌%◌, ◌^◌, ◌<◌, ◌⊎◌, inl, inr, Bool, true, false, List, [], ◌∷◌, Option, Some, None, Contains, zero}
use Rattle.std.proofs.Common.{suc, refl, sym, ap, subst, ◌∙◌, arith, if◌then◌else◌}
use Rattle.std.specs.Prelude.{is_some, not, slice_index_or, IfSome}
use Rattle.std.specs.List.{list_any}
use Rattle.std.proofs.lemmas.Bool.{and_parts, both_ways, cases_Bool, not-true, or_left}
use Rattle.abs_state.specs.State.{State, cell_at}
use Rattle.abs_state.specs.declared.flags.Right.{Right}
use Rattle.abs_state.specs.declared.key.GapKind.{GapKind}
use Rattle.abs_state.specs.declared.key.GapKind.TheVariants as why
use Rattle.abs_state.specs.declared.key.Key.TheVariants as key
use Rattle.abs_state.specs.declared.key.Next.TheVariants.{At, Into, Back}
use Rattle.abs_state.specs.declared.key.Place.{Place}
use Rattle.assert_bind.proofs.SightLemmas.{answers_all}
use Rattle.assert_bind.specs.Binding.{listed}
use Rattle.assert_bind.specs.declared.body.BoundAssertion.{BoundAssertion}
use Rattle.bt_image.specs.Image.{is_code}
use Rattle.call_effects.proofs.MaskLemmas.{within_has}
use Rattle.call_effects.proofs.SummaryLemmas.{up_parts}
use Rattle.call_effects.specs.Cell.{cell_of}
use Rattle.call_effects.specs.Mask.{has_cell}
use Rattle.call_effects.specs.declared.summary.Summary.{Summary as Effects}
use Rattle.cell_places.specs.Place.{content_of, window_at}
use Rattle.sparc_decode.specs.declared.instruction.Instr.{Instr}
use Rattle.sparc_decode.specs.declared.instruction.Instr.TheVariants.{Jmpl}
use Rattle.sparc_decode.specs.declared.instruction.Second.TheVariants.{Reg, Imm}
use Rattle.sparc_machine.specs.Effect.{flags_in}
use Rattle.sparc_machine.specs.Frame.{Frame, Transfer, Stays, Calls, Returns, instruction_at, transfer_of}
use Rattle.sparc_machine.specs.Register.{physical_of}
use Rattle.sparc_machine.specs.Straight.{code_instruction, passes}
use Rattle.sparc_machine.specs.declared.machine.Machine.{Machine}
use Rattle.sparc_runs.proofs.Levels.{depths}
use Rattle.sparc_runs.proofs.MeetLaws.{targets_taken}
use Rattle.sparc_runs.proofs.RunLaws.{keep_running}
use Rattle.sparc_runs.specs.Going.{skips}
use Rattle.sparc_runs.specs.Meets.{sight_of, target_by}
use Rattle.sparc_runs.specs.Running.{IsDue}
use Rattle.sparc_runs.specs.Window.{depth_from}
use Rattle.stack_laws.specs.Standing.{LeadsOn, StackFacts, Stands, WritesCells, effects_or_none, place_of, summary_in}
use Rattle.stack_laws.specs.StepFacts.{IsTaken as Takes}
use Rattle.state_covers.proofs.CoverLemmas.{greater_states_cover}
use Rattle.state_covers.specs.Covers.{Covers}
use Rattle.step_covers.proofs.CoveredLemmas.{aims_resolved, tests_cover}
use Rattle.step_covers.proofs.WriteLemmas.{places_written}
use Rattle.step_covers.specs.Covered.{IsCovered}
use Rattle.step_covers.specs.Does.{AimsAt, Does, ExitLeads, GoesBack}
use Rattle.step_covers.specs.Follows.{FlagsFollow}
use Rattle.step_covers.specs.Says.{IsTaken as IsOpen}
use Rattle.transfer_acts.proofs.Agreeing.{acts_agree_with_frames, code_is_read}
use Rattle.transfer_acts.specs.Agreement.{Agrees, IsCallTo}
use Rattle.transfer_acts.specs.Program.{program_of}
use Rattle.transfer_acts.specs.Reading.{is_skip}
use Rattle.transfer_rules.proofs.PieceLists.{any_of_more}
use Rattle.transfer_rules.specs.Closed.{IsTaken, LeadsTo}
use Rattle.transfer_rules.specs.Fact.{effects_in, state_in}
use Rattle.transfer_rules.specs.Give.{Facts, delayed, is_behind, is_known, mask_of, onward, place}
use Rattle.transfer_rules.specs.declared.act.Aim.{Aim}
use Rattle.transfer_rules.specs.declared.act.Aim.TheVariants.{Computed, Fixed}
use Rattle.transfer_rules.specs.declared.act.Candidates.{Candidates}
use Rattle.transfer_rules.specs.declared.act.Exit.{Exit}
use Rattle.transfer_rules.specs.declared.act.Way.{Way}
use Rattle.transfer_rules.specs.declared.act.Way.TheVariants.{Onward, Forks, CallsTo, JumpsTo, ReturnsBy}
use Rattle.transfer_rules.specs.declared.fact.Fact.TheVariants as fact
use Rattle.transfer_rules.specs.declared.step.Step.{Step}
use Rattle.transfer_values.specs.Family.{family}
use Rattle.transfer_values.specs.Resolve.{resolved, widest}
use Rattle.transfer_values.specs.Test.{tested}
use Rattle.value_lattice.proofs.TestLemmas.{the_order_is_one, value_decides}
use Rattle.value_lattice.specs.Test.{is_at_most as is_value_at_most}
use Rattle.value_lattice.specs.Value.{Has, is_ret}
use Rattle.value_lattice.specs.declared.value.Value.{Value}
use Rattle.value_lattice.specs.declared.value.Value.TheVariants.{Words, Range, Ret}
use Rattle.closed_steps.proofs.Taking.{IsDone, there}
use Rattle.closed_steps.specs.Act.{StepIs, is_jump}
use Rattle.closed_steps.specs.Graph.{Answers, IsBound}

-- places with the same four fields are one
pub same_place : (p q : Place) → p.sub ≡ q.sub → p.pc ≡ q.pc → p.next ≡ q.next → p.depth ≡ q.depth → p ≡ q
same_place p q sub pc next depth = λ i. record { sub = sub i; pc = pc i; next = next i; depth = depth i }

-- the return address
ret_is : (v : Value) → is_ret v ≡ true → v ≡ Ret
ret_is (Words words) is = absurd (cc)
ret_is (Range lo hi) is = absurd (cc)
ret_is Ret is = refl

may_be_ret : (v : Value) → v ≡ Ret → is_value_at_most Ret v ≡ true
may_be_ret v same = subst (λ (u : Value). is_value_at_most Ret u ≡ true) (sym same) (the_order_is_one.same Ret ((value_decides Ret).1 tt))

-- two tests of returns that skip a word
pub skip_is : (i : Instr) → is_skip (Some i) ≡ skips i
skip_is (Jmpl rd rs1 (Imm n)) = refl
skip_is (Jmpl rd rs1 (Reg r)) = refl
skip_is _ = refl

-- a jump by registers shows a target
jump_target : (m : Machine) (i : Instr) → is_jump i ≡ true → (target : ℕ) × (target_by m (Some i) ≡ Some target)
jump_target m (Jmpl rd rs1 second) is = (_, refl)
jump_target m _ is = absurd (cc)

-- a listed target that is taken is code
listed_is : (image : List ℕ) (target : ℕ) (o : Option (List ℕ)) (shown : Option ℕ) → shown ≡ Some target → IfSome o (λ to. IfSome shown (Contains to))
    → IfSome o (λ to. Contains to target → is_code image target ≡ true) → IfSome o (λ to. Contains to target × (is_code image target ≡ true))
listed_is image target None shown is has code = tt
listed_is image target (Some to) shown is has code =
    let here : Contains to target = subst (λ (s : Option ℕ). IfSome s (Contains to)) is has in (here, code here)

-- a single target is one of the list
only_listed : (n : ℕ) (list : List ℕ) → Contains list n → (a : ℕ) → Contains (n ∷ []) a → Contains list a
only_listed n list has a is = subst (λ (b : ℕ). Contains list b) (one is.0 is.1 is.2) has where
  one : (k : ℕ) → k < 1 → slice_index_or (n ∷ []) k a ≡ a → n ≡ a
  one zero below same = same
  one (suc k) below same = absurd (omega arith)

-- a summary that is there is the one that is read
pub summary_is : (x : Facts) (sub : ℕ) (all : Effects) → x (key.Summary sub) ≡ Some (fact.Sum all) → summary_in x sub ≡ all
summary_is x sub all found = ap (λ o. effects_or_none (effects_in o)) found

module _ (t image costs : List ℕ) (list : List BoundAssertion) (eight : Bool) (y : StackFacts) (x : Facts) (bound : IsBound image list) (invalid : ℕ)
    (due : Transfer) (top : Frame) (rest : List Frame) (m next : Machine)
    (answers : Answers t (family t image list) (program_of image list eight (widest image list)) (y (top ∷ rest)) x)
    (takes : Takes image costs list y x invalid due top rest m next) where
  -- no gap stands where the machine does
  pub no_gap : (kind : GapKind) → x (key.Gap top.sub m.pc kind) ≡ Some fact.Mark → ⊥
  no_gap kind is = both_ways (is_some (x (key.Gap top.sub m.pc kind))) (takes.closed kind) (ap is_some is)

  -- the depth behind the step
  pub depth_is : (step : Step) (s : State) → step.depth < 2 → IsCovered t s step.depth top next → depth_from top.start.cwp next.cwp ≡ step.depth
  depth_is step s shallow covers =
      depths.below top.start.cwp next.cwp step.depth takes.entered.machine.window covers.machine.window (omega arith) covers.covers.window

  -- an edge, and a state that stands at its end
  pub record Went (to : Transfer) : Type 0 where
    pub edge : is_some (y (top ∷ rest) (key.Edge (place_of due top m) (place_of to top next))) ≡ true
    pub stands : Stands image (y (top ∷ rest)) to top next

  pub went : (to : Transfer) (q : Place) (s : State) (depth : ℕ) → LeadsTo (y (top ∷ rest)) (place_of due top m) q s → IsCovered t s depth top next
      → q ≡ place_of to top next → depth_from top.start.cwp next.cwp ≡ depth → depth < 2 → LeadsOn image to top next → Went to
  went to q s depth leads covers same at shallow on =
      record {
        edge = subst (λ (r : Place). is_some (y (top ∷ rest) (key.Edge (place_of due top m) r)) ≡ true) same (ap is_some leads.edge);
        stands = record {
          state = leads.state;
          is = subst (λ (r : Place). state_in (y (top ∷ rest) (key.Node r)) ≡ Some leads.state) same (ap state_in leads.found);
          shallow = subst (λ (n : ℕ). n < 2) (sym at) shallow;
          covers = greater_states_cover s leads.state (depth_from top.start.cwp next.cwp) top next leads.above covers.machine covers.word
              (subst (λ (n : ℕ). Covers s n top next) (sym at) covers.covers);
          leads = on;
        };
      }

  -- the cells that a step writes
  pub writes_cells : (d : IsDone t image list eight (y (top ∷ rest)) (place_of due top m) top m next) → WritesCells x top m next
  writes_cells d place =
      elim (places_written image costs m next d.instruction place takes.steps d.code) [
        | inl same ↦ inl same
        | inr w ↦
            (let says = answers.writes (place_of due top m) d.step d.way d.before d.taken.allowed d.taken.act in
            let up = (up_parts (record { returns = false; skips = false; written = mask_of d.step }) says.all says.above).written in
            let at = depth_is d.step d.after d.shallow d.covers_next in
            let all = summary_is x top.sub says.all says.found in
            inr (record {
              register = w.register;
              within = w.within;
              is = subst (λ (n : ℕ). physical_of n w.register ≡ place) (d.covers_next.covers.window ∙ ap (window_at top.start.cwp) (sym at)) w.is;
              has =
                  subst (λ (n : ℕ). has_cell (summary_in x top.sub).written (cell_of n w.register) ≡ true) (sym at)
                  (subst (λ (e : Effects). has_cell e.written (cell_of d.step.depth w.register) ≡ true) (sym all)
                  (within_has (mask_of d.step) says.all.written up (cell_of d.step.depth w.register) (d.is.writes w.register w.within w.some w.writes)));
            }))
      ]

  -- the gap that would be there isn't, so all is known
  pub known_call : (step : Step) (aim : Aim) (before after : State)
      → IsTaken (family t image list) (program_of image list eight (widest image list)) (y (top ∷ rest)) (place_of due top m) step (CallsTo aim) before after
      → is_known (place_of due top m) (resolved t image list m.pc aim before) ≡ true
  known_call step aim before after taken =
      elim (cases_Bool (is_known (place_of due top m) (resolved t image list m.pc aim before))) [
        | inl known ↦ known
        | inr unknown ↦ absurd (no_gap why.Call (answers.unknown_calls (place_of due top m) step aim before after taken unknown))
      ]

  known_jump : (step : Step) (aim : Aim) (before after : State)
      → IsTaken (family t image list) (program_of image list eight (widest image list)) (y (top ∷ rest)) (place_of due top m) step (JumpsTo aim) before after
      → (resolved t image list m.pc aim before).whole ≡ true
  known_jump step aim before after taken =
      elim (cases_Bool (resolved t image list m.pc aim before).whole) [
        | inl known ↦ known
        | inr unknown ↦ absurd (no_gap why.Jump (answers.unknown_jumps (place_of due top m) step aim before after taken unknown))
      ]

  known_return : (step : Step) (c : ℕ) (before after : State)
      → IsTaken (family t image list) (program_of image list eight (widest image list)) (y (top ∷ rest)) (place_of due top m) step (ReturnsBy c) before after
      → cell_at before c ≡ Ret
  known_return step c before after taken =
      elim (cases_Bool (is_ret (cell_at before c))) [
        | inl known ↦ ret_is (cell_at before c) known
        | inr unknown ↦ absurd (no_gap why.Jump (answers.unknown_returns (place_of due top m) c step before after taken unknown))
      ]

  -- where a transfer goes is one of its targets
  has_target : (i : Instr) (aim : Aim) (before : State) → code_instruction image m.pc ≡ Some i → IsCovered t before (place_of due top m).depth top m
      → ((left right : Right) (kind : Candidates) → aim ≡ Computed left right kind → is_jump i ≡ true) → AimsAt aim (content_of m top.start.cwp) next.npc
      → (resolved t image list m.pc aim before).whole ≡ true → Contains (resolved t image list m.pc aim before).list next.npc
  unfolding resolved
  has_target i (Fixed a) before code covers jump aims whole = (0, omega arith, sym aims)
  has_target i (Computed left right kind) before code covers jump aims whole =
      let target = jump_target m i (jump left right kind refl) in
      let shown : (sight_of image m true).target ≡ Some target.0 = subst (λ (o : Option Instr). target_by m o ≡ Some target.0) (sym code) target.1 in
      let is : next.npc ≡ target.0 = targets_taken image costs m next target.0 takes.steps shown in
      let allowed = (answers_all list (sight_of image m true) bound.sound).0 takes.meets in
      aims_resolved t image list m.pc (Computed left right kind) before (place_of due top m).depth top m next.npc covers aims
      (listed_is image next.npc (listed list m.pc) (sight_of image m true).target (shown ∙ ap Some (sym is)) allowed.listed (bound.code m.pc next.npc)) whole

  -- the transfer that is due behind the step
  due_behind : IsDue image (transfer_of image m) next
  due_behind = (keep_running image costs invalid (record { machine = m; due = due; frames = top ∷ rest }) next bound.bytes takes.running takes.steps).due

  -- a call, which is followed
  call_target : (aim : Aim) → IsCallTo aim m.pc (transfer_of image m) → (target : ℕ) × (transfer_of image m ≡ Calls target m.pc)
  call_target (Fixed a) is = (a, is)
  call_target (Computed left right kind) is = is

  calls : (step : Step) (aim : Aim) (before after : State)
      → IsTaken (family t image list) (program_of image list eight (widest image list)) (y (top ∷ rest)) (place_of due top m) step (CallsTo aim) before after
      → IsCovered t before (place_of due top m).depth top m → IsCovered t after step.depth top next → Does image step (CallsTo aim) top.start.cwp m next
      → (i : Instr) → code_instruction image m.pc ≡ Some i → StepIs (place_of due top m) i step (CallsTo aim) → step.depth < 2
      → IsCallTo aim m.pc (transfer_of image m) → Went (transfer_of image m)
  calls step aim before after taken covers covers_next does i code is shallow agrees =
      let target = call_target aim agrees in
      let due_next : IsDue image (Calls target.0 m.pc) next = subst (λ (to : Transfer). IsDue image to next) target.1 due_behind in
      let same : next.npc ≡ target.0 = due_next.npc in
      let known = known_call step aim before after taken in
      let parts = and_parts (resolved t image list m.pc aim before).whole
      (not (list_any (is_behind (place_of due top m)) (resolved t image list m.pc aim before).list)) known in
      let has = has_target i aim before code covers (λ left right kind e. is.computed left right kind (ap Some e)) does.leads.aims parts.0 in
      let apart : is_behind (place_of due top m) next.npc ≡ false = elim (cases_Bool (is_behind (place_of due top m) next.npc)) [
        | inl there ↦
            absurd (both_ways (list_any (is_behind (place_of due top m)) (resolved t image list m.pc aim before).list)
            (not-true (list_any (is_behind (place_of due top m)) (resolved t image list m.pc aim before).list) parts.1)
            (any_of_more (is_behind (place_of due top m)) (next.npc ∷ []) (resolved t image list m.pc aim before).list
            (only_listed next.npc (resolved t image list m.pc aim before).list has) (or_left (is_behind (place_of due top m) next.npc) false there)))
        | inr other ↦ other
      ] in
      let leads = answers.calls (place_of due top m) next.npc step aim before after taken has apart in
      let flat : step.depth ≡ (place_of due top m).depth = is.flat (λ e. absurd (cc)) in
      let at = depth_is step after shallow covers_next in
      subst (λ (to : Transfer). Went to) (sym target.1)
      (went (Calls target.0 m.pc) (delayed (place_of due top m) (Into next.npc)) after step.depth leads covers_next
      (same_place (delayed (place_of due top m) (Into next.npc)) (place_of (Calls target.0 m.pc) top next) refl (sym does.leads.pc) (ap Into same)
      (sym flat ∙ sym at))
      at shallow same)

  jumps : (step : Step) (aim : Aim) (before after : State)
      → IsTaken (family t image list) (program_of image list eight (widest image list)) (y (top ∷ rest)) (place_of due top m) step (JumpsTo aim) before after
      → IsCovered t before (place_of due top m).depth top m → IsCovered t after step.depth top next → Does image step (JumpsTo aim) top.start.cwp m next
      → (i : Instr) → code_instruction image m.pc ≡ Some i → StepIs (place_of due top m) i step (JumpsTo aim) → step.depth < 2
      → transfer_of image m ≡ Stays → Went (transfer_of image m)
  jumps step aim before after taken covers covers_next does i code is shallow agrees =
      let has = has_target i aim before code covers (λ left right kind e. is.computed left right kind (ap Some e)) does.leads.aims
      (known_jump step aim before after taken) in
      let leads = answers.jumps (place_of due top m) next.npc step aim before after taken has in
      let flat : step.depth ≡ (place_of due top m).depth = is.flat (λ e. absurd (cc)) in
      let at = depth_is step after shallow covers_next in
      subst (λ (to : Transfer). Went to) (sym agrees)
      (went Stays (delayed (place_of due top m) (At next.npc)) after step.depth leads covers_next
      (same_place (delayed (place_of due top m) (At next.npc)) (place_of Stays top next) refl (sym does.leads.pc) refl (sym flat ∙ sym at)) at shallow tt)

  goes_onward : (n : ℕ) → (place_of due top m).next ≡ At n → n ≡ m.npc → (step : Step) (before after : State)
      → IsTaken (family t image list) (program_of image list eight (widest image list)) (y (top ∷ rest)) (place_of due top m) step Onward before after
      → IsCovered t after step.depth top next → Does image step Onward top.start.cwp m next → step.depth < 2
      → transfer_of image m ≡ Stays → Went (transfer_of image m)
  goes_onward n is_at same step before after taken covers_next does shallow agrees =
      let leads = answers.goes_on (place_of due top m) n step before after taken is_at in
      let at = depth_is step after shallow covers_next in
      subst (λ (to : Transfer). Went to) (sym agrees)
      (went Stays (onward (place_of due top m) n step.depth) after step.depth leads covers_next
      (same_place (onward (place_of due top m) n step.depth) (place_of Stays top next) refl (same ∙ sym does.leads.this)
      (ap At (ap (λ (k : ℕ). (k + 4) % 2 ^ 32) same ∙ sym does.leads.after)) (sym at)) at shallow tt)

  -- a direction of a branch that is taken
  takes_exit : (step : Step) (way : Way) (exit : Exit) (after : State) → IsCovered t after step.depth top next → Does image step way top.start.cwp m next
      → (place_of due top m).depth ≡ step.depth → flags_in next ≡ flags_in m → step.depth < 2 → ExitLeads (Some exit) (flags_in m) next
      → ((s : State) → tested t exit.test after ≡ Some s
      → LeadsTo (y (top ∷ rest)) (place_of due top m) (place (place_of due top m) exit.pc (At exit.npc) (place_of due top m).depth) s)
      → transfer_of image m ≡ Stays → Went (transfer_of image m)
  takes_exit step way exit after covers does flat same shallow leads answer agrees =
      let left = there t (tested t exit.test after) step.depth top next
      (tests_cover t exit.test after step.depth top next covers (subst (λ f. IsOpen exit.test f) (sym same) leads.1)) in
      let at = depth_is step after shallow covers in
      subst (λ (to : Transfer). Went to) (sym agrees)
      (went Stays (place (place_of due top m) exit.pc (At exit.npc) (place_of due top m).depth) left.state step.depth (answer left.state left.is) left.covers
      (same_place (place (place_of due top m) exit.pc (At exit.npc) (place_of due top m).depth) (place_of Stays top next) refl (sym leads.0.this)
      (ap At (sym leads.0.after)) (flat ∙ sym at))
      at shallow tt)

  forks : (step : Step) (first second : Option Exit) (before after : State)
      → IsTaken (family t image list) (program_of image list eight (widest image list)) (y (top ∷ rest)) (place_of due top m) step
      (Forks first second) before after
      → IsCovered t after step.depth top next → Does image step (Forks first second) top.start.cwp m next
      → (i : Instr) → StepIs (place_of due top m) i step (Forks first second) → step.depth < 2 → transfer_of image m ≡ Stays → Went (transfer_of image m)
  forks step first second before after taken covers does i is shallow agrees = by first second taken does.leads where
    same : flags_in next ≡ flags_in m
    same =
        subst (λ (s : Step). FlagsFollow s.flags (content_of next top.start.cwp) (flags_in m) (flags_in next))
        (is.forks first second refl) does.follows.follows.flags

    flat : (place_of due top m).depth ≡ step.depth
    flat = sym (is.flat (λ e. absurd (cc)))

    by : (one two : Option Exit)
        → IsTaken (family t image list) (program_of image list eight (widest image list)) (y (top ∷ rest)) (place_of due top m) step
        (Forks one two) before after
        → ExitLeads one (flags_in m) next ⊎ ExitLeads two (flags_in m) next → Went (transfer_of image m)
    by None two these (inl leads) = absurd leads
    by (Some exit) two these (inl leads) =
        takes_exit step (Forks first second) exit after covers does flat same shallow leads
        (λ s left. answers.first (place_of due top m) step exit two before after s these left) agrees
    by one None these (inr leads) = absurd leads
    by one (Some exit) these (inr leads) =
        takes_exit step (Forks first second) exit after covers does flat same shallow leads
        (λ s left. answers.second (place_of due top m) step exit one before after s these left) agrees

  returns : (step : Step) (c : ℕ) (before after : State)
      → IsTaken (family t image list) (program_of image list eight (widest image list)) (y (top ∷ rest)) (place_of due top m) step (ReturnsBy c) before after
      → IsCovered t before (place_of due top m).depth top m → IsCovered t after step.depth top next → Does image step (ReturnsBy c) top.start.cwp m next
      → (i : Instr) → code_instruction image m.pc ≡ Some i → StepIs (place_of due top m) i step (ReturnsBy c) → step.depth < 2
      → transfer_of image m ≡ Returns → Went (transfer_of image m)
  returns step c before after taken covers covers_next does i code is shallow agrees =
      let ret = known_return step c before after taken in
      let leads = answers.returns (place_of due top m) c step before after taken (may_be_ret (cell_at before c) ret) in
      let flat : step.depth ≡ (place_of due top m).depth = is.flat (λ e. absurd (cc)) in
      let at = depth_is step after shallow covers_next in
      let content : content_of m top.start.cwp c ≡ top.caller =
      subst (λ (v : Value). Has v (content_of m top.start.cwp c) top.caller) ret (covers.covers.says.cells c does.leads.near) in
      subst (λ (to : Transfer). Went to) (sym agrees)
      (went Returns (delayed (place_of due top m) Back) after step.depth leads covers_next
      (same_place (delayed (place_of due top m) Back) (place_of Returns top next) refl (sym does.leads.pc) refl (sym flat ∙ sym at)) at shallow
      (back content does.leads))
    where
      back : content_of m top.start.cwp c ≡ top.caller → GoesBack image c (content_of m top.start.cwp) m next → LeadsOn image Returns top next
      back content g =
          let word = takes.running.machine.pc in
          let this : (next.pc + 2 ^ 32 - 4) % 2 ^ 32 ≡ m.pc = (let e = g.pc in omega arith) in
          let one : is_skip (instruction_at image m.pc) ≡ skips i = ap is_skip (code_is_read image m.pc i code) ∙ skip_is i in
          let two : passes skips (code_instruction image ((next.pc + 2 ^ 32 - 4) % 2 ^ 32)) ≡ skips i =
          ap (λ (a : ℕ). passes skips (code_instruction image a)) this ∙ ap (passes skips) code in
          g.back
          ∙ ap (λ (n : ℕ). (n + (if is_skip (instruction_at image m.pc) then 12 else 8)) % 2 ^ 32) content
          ∙ ap (λ (b : Bool). (top.caller + (if b then 12 else 8)) % 2 ^ 32) (one ∙ sym two)

  -- whatever its way is, where control stays in the frame
  pub goes_inside : (n : ℕ) → (place_of due top m).next ≡ At n → n ≡ m.npc
      → IsDone t image list eight (y (top ∷ rest)) (place_of due top m) top m next → Went (transfer_of image m)
  goes_inside n is_at same d =
      by d.step d.way d.before d.after d.taken d.covers d.covers_next d.does d.is
      (acts_agree_with_frames image list eight (place_of due top m) d.step d.way m d.taken.act refl) d.shallow
    where
      by : (step : Step) (way : Way) (before after : State)
          → IsTaken (family t image list) (program_of image list eight (widest image list)) (y (top ∷ rest)) (place_of due top m) step way before after
          → IsCovered t before (place_of due top m).depth top m → IsCovered t after step.depth top next → Does image step way top.start.cwp m next
          → StepIs (place_of due top m) d.instruction step way → Agrees way m.pc (transfer_of image m) → step.depth < 2 → Went (transfer_of image m)
      by step Onward before after taken covers covers_next does is agrees shallow =
          goes_onward n is_at same step before after taken covers_next does shallow agrees
      by step (Forks first second) before after taken covers covers_next does is agrees shallow =
          forks step first second before after taken covers_next does d.instruction is shallow agrees
      by step (CallsTo aim) before after taken covers covers_next does is agrees shallow =
          calls step aim before after taken covers covers_next does d.instruction d.code is shallow agrees
      by step (JumpsTo aim) before after taken covers covers_next does is agrees shallow =
          jumps step aim before after taken covers covers_next does d.instruction d.code is shallow agrees
      by step (ReturnsBy c) before after taken covers covers_next does is agrees shallow =
          returns step c before after taken covers covers_next does d.instruction d.code is shallow agrees
