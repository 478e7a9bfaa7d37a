-- Each step of a run shows what the law of the stack asks of the facts.
use Rattle.std.proofs.Common.{◌≡◌, ℕ, true, false, List, ◌∷◌, refl, sym, subst}
use Rattle.abs_state.specs.declared.key.Key.TheVariants as key
use Rattle.abs_state.specs.declared.key.Place.{Place}
use Rattle.assert_bind.proofs.StubLemmas.{stubs_those}
use Rattle.call_effects.specs.Summary.{effects_of_stub, is_at_most}
use Rattle.call_effects.specs.declared.summary.Summary.{Summary as Effects}
use Rattle.flow_system.specs.State.{IsClosed}
use Rattle.sparc_machine.specs.Frame.{Frame, Stays, Calls, Returns}
use Rattle.sparc_machine.specs.declared.machine.Machine.{Machine}
use Rattle.stack_laws.specs.Standing.{waiting_place, Stands, place_of, summary_in}
use Rattle.stack_laws.specs.StepFacts.{GoesInside, GoesInto, GoesOut, pushed, IsTaken as Takes}
use Rattle.transfer_acts.specs.Program.{program_of}
use Rattle.transfer_acts.specs.Reading.{is_stub}
use Rattle.transfer_rules.proofs.Closing.{closed_calls, closed_has_gaps, closed_leads_on, closed_says, closed_starts}
use Rattle.transfer_rules.proofs.FactKinds.{fitting}
use Rattle.transfer_rules.specs.Closed.{IsTaken}
use Rattle.transfer_rules.specs.Family.{Family, Program}
use Rattle.transfer_rules.specs.Give.{Facts}
use Rattle.transfer_rules.specs.Lawful.{rules_of}
use Rattle.transfer_rules.specs.declared.act.Way.TheVariants.{Onward}
use Rattle.transfer_rules.specs.declared.fact.Fact.TheVariants as fact
use Rattle.transfer_values.specs.Family.{family}
use Rattle.transfer_values.specs.Resolve.{widest}
use Rattle.closed_steps.proofs.Calling as calling
use Rattle.closed_steps.proofs.Leading as leading
use Rattle.closed_steps.proofs.Leading.{summary_is}
use Rattle.closed_steps.proofs.Taking.{done}
use Rattle.closed_steps.specs.Graph.{Answers, ClosedStatesCoverSteps, GraphsCoverSteps}

-- where the facts at each stack of frames lead on within them, and say of subprograms and of gaps what the rules say,
-- each step of a run that meets the assertions, from a covered machine where nothing is open, shows what the law of the
-- stack asks: it goes along an edge to a covered machine, or makes a call and enters it, or comes back
pub graphs_cover_steps : GraphsCoverSteps
graphs_cover_steps image costs list eight y x bound graphs = record { inside = inside; into = into; entered = entered; out = out; stubs = graphs.stubs } where
  inside : (invalid : ℕ) (top : Frame) (rest : List Frame) (m next : Machine) → Takes image costs list y x invalid Stays top rest m next
      → GoesInside image (y (top ∷ rest)) x top m next
  inside invalid top rest m next takes =
      let t = graphs.thresholds (top ∷ rest) in
      let answers = graphs.answers (top ∷ rest) in
      let d = done t image costs list eight y x bound (graphs.are (top ∷ rest)) invalid Stays top rest m next answers takes in
      let w = leading.goes_inside t image costs list eight y x bound invalid Stays top rest m next answers takes m.npc refl refl d in
      record {
        edge = w.edge;
        stands = w.stands;
        writes = leading.writes_cells t image costs list eight y x bound invalid Stays top rest m next answers takes d;
      }

  into : (invalid target address : ℕ) (top : Frame) (rest : List Frame) (m next : Machine)
      → Takes image costs list y x invalid (Calls target address) top rest m next → GoesInto image (y (top ∷ rest)) x target address top m next
  into invalid target address top rest m next takes =
      let t = graphs.thresholds (top ∷ rest) in
      let answers = graphs.answers (top ∷ rest) in
      let d = done t image costs list eight y x bound (graphs.are (top ∷ rest)) invalid (Calls target address) top rest m next answers takes in
      calling.goes_into t image costs list eight y x bound invalid target address top rest m next answers takes d

  entered : (invalid target address : ℕ) (top : Frame) (rest : List Frame) (m next : Machine)
      → Takes image costs list y x invalid (Calls target address) top rest m next → is_stub list target ≡ false
      → Stands image (y (pushed target address next ∷ top ∷ rest)) Stays (pushed target address next) next
  entered invalid target address top rest m next takes followed =
      let t = graphs.thresholds (top ∷ rest) in
      let answers = graphs.answers (top ∷ rest) in
      let d = done t image costs list eight y x bound (graphs.are (top ∷ rest)) invalid (Calls target address) top rest m next answers takes in
      let on = calling.on t image costs list eight y x bound invalid target address top rest m next answers takes d in
      calling.enters t image costs list eight y x bound invalid target address top rest m next answers takes d
      (graphs.enters top (pushed target address next) rest d.step d.before d.after
      (subst (λ (r : Place). IsTaken (family t image list) (program_of image list eight (widest image list)) (y (top ∷ rest)) r d.step Onward d.before d.after)
      (calling.waits t image costs list eight y x bound invalid target address top rest m next answers takes d) on.taken) followed)

  out : (invalid : ℕ) (top : Frame) (rest : List Frame) (m next : Machine) → Takes image costs list y x invalid Returns top rest m next
      → GoesOut image x top m next
  out invalid top rest m next takes =
      let t = graphs.thresholds (top ∷ rest) in
      let answers = graphs.answers (top ∷ rest) in
      let d = done t image costs list eight y x bound (graphs.are (top ∷ rest)) invalid Returns top rest m next answers takes in
      calling.goes_out t image costs list eight y x bound invalid top rest m next answers takes d

-- the facts of a closed state answer
pub closed_answers : (t : List ℕ) (f : Family) (m : Program) (x : Facts) → IsClosed (rules_of t f m) x → Answers t f m x x
closed_answers t f m x closed = record {
  over = λ p s found. (fitting t (key.Node p) (fact.State s) (closed.fit (key.Node p) (fact.State s) found)).over;
  goes_on = λ p n step before after is at. closed_leads_on.onward t f m x p n step before after closed is at;
  first = λ p step exit other before after s is left. closed_leads_on.first t f m x p step exit other before after s closed is left;
  second = λ p step exit other before after s is left. closed_leads_on.second t f m x p step exit other before after s closed is left;
  calls = λ p target step aim before after is has apart. closed_leads_on.calls t f m x p target step aim before after closed is has apart;
  jumps = λ p target step aim before after is has. closed_leads_on.jumps t f m x p target step aim before after closed is has;
  returns = λ p c step before after is may. closed_leads_on.returns t f m x p c step before after closed is may;
  makes_call = λ p target step before after is at. closed_calls.call t f m x p target step before after closed is at;
  comes_back = λ p target step before after there is at found comes. closed_calls.returns t f m x p target step before after there closed is at found comes;
  skips = λ p target step before after there is at found comes. closed_calls.skips t f m x p target step before after there closed is at found comes;
  unfollowed = λ p kind before is acts. closed_has_gaps.unfollowed t f m x p kind before closed is acts;
  unknown_calls = λ p step aim before after is unknown. closed_has_gaps.calls t f m x p step aim before after closed is unknown;
  unknown_jumps = λ p step aim before after is unknown. closed_has_gaps.jumps t f m x p step aim before after closed is unknown;
  unknown_returns = λ p c step before after is unknown. closed_has_gaps.returns t f m x p c step before after closed is unknown;
  deep = λ p step before after is at low. closed_has_gaps.deep t f m x p step before after closed is at low;
  writes = λ p step way before is acts. closed_says.writes t f m x p step way before closed is acts;
  says_calls = λ p target step before after there is at found. closed_says.calls t f m x p target step before after there closed is at found;
  says_back = λ p step before after is at flat. closed_says.back t f m x p step before after closed is at flat;
}

-- so do the facts of any closed state of the rules, at every stack: those of the due graph among them
pub closed_states_cover_steps : ClosedStatesCoverSteps
closed_states_cover_steps t image costs list eight x bound thresholds closed =
    graphs_cover_steps image costs list eight (λ stack. x) x bound
    (record {
      thresholds = λ stack. t;
      are = λ stack. thresholds;
      answers = λ stack. closed_answers t (family t image list) (program_of image list eight (widest image list)) x closed;
      enters = λ F G rest step before after is followed.
          closed_calls.enters t (family t image list) (program_of image list eight (widest image list)) x
          (waiting_place F G) G.sub step before after closed is refl followed;
      stubs = stubs_say;
    })
  where
    stubs_say : (target : ℕ) → is_stub list target ≡ true → is_at_most effects_of_stub (summary_in x target) ≡ true
    stubs_say target is =
        let says = closed_starts.stubs t (family t image list) (program_of image list eight (widest image list)) x target closed
        (((stubs_those list bound.sound).each target).1 is) in
        subst (λ (e : Effects). is_at_most effects_of_stub e ≡ true) (sym (summary_is x target says.all says.found)) says.above
