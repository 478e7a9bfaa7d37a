-- What a bound says of what followed calls reach.
use Rattle.std.proofs.Common.{◌≡◌, ◌⊎◌, ℕ, Bool, true, false, List, Option, Some, None, Contains, inl, inr, refl, sym, ap, subst}
use Rattle.std.specs.Prelude.{is_some}
use Rattle.std.proofs.lemmas.Bool.{false≢true}
use Rattle.abs_state.specs.declared.key.GapKind.{GapKind}
use Rattle.abs_state.specs.declared.key.GapKind.TheVariants as why
use Rattle.abs_state.specs.declared.key.Key.TheVariants as key
use Rattle.abs_state.specs.declared.key.Place.{Place}
use Rattle.assert_bind.specs.Binding.{roots}
use Rattle.call_laws.proofs.Risings.{none_in_empty}
use Rattle.graph_view.specs.Sites.{call_address}
use Rattle.transfer_acts.specs.Reading.{is_stub}
use Rattle.wcet_report.specs.Report.{root_bound}
use Rattle.wcet_report.specs.declared.context.Context.{Context}
use Rattle.wcet_report.specs.declared.outcome.Outcome.{Outcome}
use Rattle.wcet_report.specs.declared.outcome.Outcomes.{Outcomes}
use Rattle.wcet_report.specs.declared.reason.Reason.{Reason}
use Rattle.wcet_report.specs.declared.reason.Reason.TheVariants as reason
use Rattle.context_outcomes.proofs.Bounded.{bounded_have_no_reasons}
use Rattle.context_outcomes.specs.Arguments.{any_arguments}
use Rattle.context_outcomes.specs.Bounding.{HasReason, IsBoundWith, IsReason}
use Rattle.context_outcomes.specs.Calls.{IsCall, IsEntering}
use Rattle.context_outcomes.specs.Inside.{Inside}
use Rattle.context_outcomes.specs.Outcomes.{AreOutcomes, HasBound, HasOutcome, IsChosen, IsNeeded, IsOutcome, LeadsTo, bounded, called, root}
use Rattle.context_outcomes.specs.Setting.{Setting, facts_in}
use Rattle.context_outcomes.specs.Spending.{Callees}
use Rattle.plain_laws.proofs.OneBound.{cycle_call, enters_there}
use Rattle.outcome_laws.proofs.Agreeing.{Agree, reason_there}
use Rattle.outcome_laws.proofs.Bounds.{bounds_are_one, callees_agree, chosen_are_one, next_same}
use Rattle.outcome_laws.proofs.Outcomes.{made_of}
use Rattle.outcome_laws.proofs.Roots.{IsRootOutcome, root_outcome}
use Rattle.outcome_laws.specs.Reached.{HasNoneOfItsOwn, IsBounded, IsOwn, IsReached, itself, onward}
use Rattle.outcome_laws.specs.Reached.{BoundedCallBounded, BoundedHaveNoGap, ReachedAreBounded, RootsAreBoundedWhere}

-- the bound of an outcome is that of its context
has_bound : (S : Setting) (o : Outcome) → IsOutcome S o → HasBound S o.sub o.context o.bound
has_bound S o is = bounded is.within is.callees is.next is.leads is.bounds is.bound

-- what a context with a bound enters has one
enters_bounded : (S : Setting) (sub : ℕ) (context : Context) (bound : ℕ) → HasBound S sub context (Some bound) → (within : Inside S sub context) (p : Place)
    (t : ℕ) (next : Context) → IsEntering S sub within.facts p t → LeadsTo S within.facts p t next → IsBounded S t next
enters_bounded S sub context bound (bounded inner callees after led calls is) within p t next enters leads = by (callees p) refl where
  here : IsEntering S sub inner.facts p t
  here = enters_there S sub within inner p t enters

  same : after p ≡ next
  same = next_same S sub context inner within p t (after p) next (led p t here) leads

  by : (o : Option ℕ) → callees p ≡ o → IsBounded S t next
  by None e =
      absurd
      (is.free (reason.Callee (call_address (record { from = p; callee = t })) t)
      (record { place = p; enters = here; address = refl; unbounded = e }))
  by (Some most) e = record {
    bound = most;
    is = subst (λ (c : Context). HasBound S t c (Some most)) same (subst (HasBound S t (after p)) e (calls p t here));
  }

-- where a context has a bound, none of its calls is inside a call cycle
none_cyclic : (S : Setting) (sub : ℕ) (context : Context) (bound : ℕ) → HasBound S sub context (Some bound) → (within : Inside S sub context) (p : Place)
    (t : ℕ) → IsCall within.facts p t → is_stub S.binding t ≡ false → IsEntering S sub within.facts p t
none_cyclic S sub context bound (bounded inner callees after led calls is) within p t call plain = record {
  followed = record {
    call = call;
    apart = λ cyclic. is.free (reason.Recursion (call_address (record { from = p; callee = t }))) (cycle_call S within p t call.there cyclic);
  };
  plain = plain;
}

-- a context with a bound calls only stubs and contexts with a bound
pub bounded_call_bounded : BoundedCallBounded
bounded_call_bounded S sub context has within p t next call plain leads =
    enters_bounded S sub context has.bound has.is within p t next (none_cyclic S sub context has.bound has.is within p t call plain) leads

-- so do all that followed calls reach
pub reached_are_bounded : ReachedAreBounded
reached_are_bounded S sub last context final itself has = has
reached_are_bounded S sub last context final (onward within enters leads rest) has =
    reached_are_bounded S _ last _ final rest (enters_bounded S sub context has.bound has.is within _ _ _ enters leads)

-- what is never true is false
never_so : (b : Bool) → (b ≡ true → ⊥) → b ≡ false
never_so true never = absurd (never refl)
never_so false never = refl

-- a context with a bound has no reason against one, so its subprogram has no gap
no_gap : (S : Setting) (sub pc bound : ℕ) (context : Context) (why : GapKind) → HasBound S sub context (Some bound)
    → is_some (facts_in S (key.Gap sub pc why)) ≡ false
no_gap S sub pc bound context why.Jump (bounded within callees next leads calls is) =
    never_so (is_some (facts_in S (key.Gap sub pc why.Jump))) (is.free (reason.Jump pc))
no_gap S sub pc bound context why.Call (bounded within callees next leads calls is) =
    never_so (is_some (facts_in S (key.Gap sub pc why.Call))) (is.free (reason.Call pc))
no_gap S sub pc bound context why.Instr (bounded within callees next leads calls is) =
    never_so (is_some (facts_in S (key.Gap sub pc why.Instr))) (is.free (reason.Instr pc))

-- so it is by the bound that there is
pub bounded_have_no_gap : BoundedHaveNoGap
bounded_have_no_gap S sub pc context why has = no_gap S sub pc has.bound context why has.is

-- a call into a context without a bound
record HasOpen (S : Setting) {sub : ℕ} {context : Context} (within : Inside S sub context) (callees : Callees) : Type 0 where
  place : Place
  target : ℕ
  enters : IsEntering S sub within.facts place target
  unbounded : callees place ≡ None

-- a reason lies in the context itself, or is such a call
own_or_open : (S : Setting) {sub : ℕ} {context : Context} (within : Inside S sub context) (callees : Callees) (r : Reason) → IsReason S within callees r
    → IsOwn r ⊎ HasOpen S within callees
own_or_open S within callees (reason.Jump pc) is = inl tt
own_or_open S within callees (reason.Call pc) is = inl tt
own_or_open S within callees (reason.Instr pc) is = inl tt
own_or_open S within callees (reason.Loop head) is = inl tt
own_or_open S within callees (reason.Irreducible p q) is = inl tt
own_or_open S within callees (reason.Callee call target) is =
    inr (record { place = is.place; target = target; enters = is.enters; unbounded = is.unbounded })
own_or_open S within callees (reason.Recursion pc) is = inl tt
own_or_open S within callees (reason.Windows need) is = inl tt
own_or_open S within callees (reason.TooLarge place) is = inl tt

module _ (S : Setting) (outcomes : Outcomes) (are : AreOutcomes S outcomes) where
  -- the outcomes that followed calls reach have no reason of their own
  abbrev NoneOwn : ℕ → Context → Type 0
  NoneOwn sub context = (o : Outcome) → Contains outcomes.list o → IsReached S sub context o.sub o.context → HasNoneOfItsOwn o

  -- a context is reached from itself, also where it is named otherwise
  reached_self : (sub n : ℕ) (context other : Context) → n ≡ sub → other ≡ context → IsReached S sub context n other
  reached_self sub n context other same also =
      subst (λ (k : ℕ). IsReached S sub context k other) (sym same) (subst (λ (c : Context). IsReached S sub context sub c) (sym also) itself)

  -- the outcome of a context has its reasons
  told_reason : (sub : ℕ) (context : Context) (within : Inside S sub context) (callees : Callees) (next : Place → Context)
      → ((p : Place) (t : ℕ) → IsEntering S sub within.facts p t → LeadsTo S within.facts p t (next p))
      → ((p : Place) (t : ℕ) → IsEntering S sub within.facts p t → HasBound S t (next p) (callees p)) → (o : Outcome) → IsOutcome S o
      → o.sub ≡ sub → o.context ≡ context → (r : Reason) → IsReason S within callees r → Contains o.reasons r
  told_reason sub context within callees next leads calls o is same also r because =
      let moved : IsOutcome S (made_of sub context o.loops o.reasons o.bound) =
      subst (λ (c : Context). IsOutcome S (made_of sub c o.loops o.reasons o.bound)) also
      (subst (λ (n : ℕ). IsOutcome S (made_of n o.context o.loops o.reasons o.bound)) same is) in
      let agree : Agree moved.within callees moved.callees =
      callees_agree S sub context within moved.within callees moved.callees next moved.next leads calls moved.leads moved.bounds in
      (moved.reasons r).1 (reason_there S within moved.within callees moved.callees agree r because)

  -- a context without a bound has a reason of its own, or followed calls reach one that has
  blamed : (sub : ℕ) (context : Context) (most : Option ℕ) → HasBound S sub context most → most ≡ None → IsNeeded S sub context → NoneOwn sub context → ⊥
  blamed sub context most (bounded within callees next leads calls is) e needed none =
      let has : HasReason S within callees = subst (IsBoundWith S within callees) e is in
      elim (own_or_open S within callees has.one has.is) [
        | inl own ↦
            let there : HasOutcome outcomes.list sub context = are.all sub context needed in
            none there.outcome there.among
            (reached_self sub there.outcome.sub context there.outcome.context there.is.of there.is.in_context) has.one
            (told_reason sub context within callees next leads calls there.outcome (are.each there.outcome there.among).1.is there.is.of there.is.in_context
            has.one has.is) own
        | inr call ↦
            let led : LeadsTo S within.facts call.place call.target (next call.place) = leads call.place call.target call.enters in
            blamed call.target (next call.place) (callees call.place) (calls call.place call.target call.enters) call.unbounded
            (called needed within call.enters led) (λ o among reach. none o among (onward within call.enters led reach))
      ]

  module _ (r : ℕ) (context : Context) (rooted : Contains (roots S.binding) r) (chosen : IsChosen S r any_arguments context) where
    -- what is told of a root is the bound of its context
    root_has : HasBound S r context (root_bound outcomes.list r)
    root_has =
        let a : IsRootOutcome S outcomes.list r = root_outcome S outcomes are r rooted in
        let same : a.outcome.context ≡ context = chosen_are_one S r any_arguments a.outcome.context context a.chosen chosen in
        subst (HasBound S r context) (sym a.bound_is)
        (subst (λ (c : Context). HasBound S r c a.outcome.bound) same
        (subst (λ (n : ℕ). HasBound S n a.outcome.context a.outcome.bound) a.own (has_bound S a.outcome (are.each a.outcome a.among).1.is)))

    -- a bound that is there is one
    root_bounded : (o : Option ℕ) → HasBound S r context o → is_some o ≡ true → IsBounded S r context
    root_bounded None is some = absurd (false≢true some)
    root_bounded (Some most) is some = record { bound = most; is = is }

    -- a bounded root reaches no reason of a context's own
    free_below : is_some (root_bound outcomes.list r) ≡ true → NoneOwn r context
    free_below some o among reach reason has own =
        let is : IsOutcome S o = (are.each o among).1.is in
        let bound : IsBounded S o.sub o.context =
        reached_are_bounded S r o.sub context o.context reach (root_bounded (root_bound outcomes.list r) root_has some) in
        let told : o.bound ≡ Some bound.bound = bounds_are_one S o.sub o.context o.bound (Some bound.bound) (has_bound S o is) bound.is in
        none_in_empty reason (subst (λ (rs : List Reason). Contains rs reason) ((bounded_have_no_reasons S o is).0 (ap is_some told)) has)

    -- a root that reaches none is bounded
    told_bounded : NoneOwn r context → is_some (root_bound outcomes.list r) ≡ true
    told_bounded none = by (root_bound outcomes.list r) root_has where
      by : (o : Option ℕ) → HasBound S r context o → is_some o ≡ true
      by None has = absurd (blamed r context None has refl (root rooted chosen) none)
      by (Some most) has = refl

-- so a root is bounded exactly there
pub roots_are_bounded_where : RootsAreBoundedWhere
roots_are_bounded_where S outcomes are r context rooted chosen =
    (free_below S outcomes are r context rooted chosen, told_bounded S outcomes are r context rooted chosen)
