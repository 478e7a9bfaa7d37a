-- The outcome of a context is one, and so are the outcomes of a program, up to their order.
use Rattle.std.proofs.Common.{◌≡◌, ℕ, List, Option, Contains, inl, inr, sym, subst, ◌∙◌}
use Rattle.wcet_report.specs.contracts.reason.ReasonOrd.TheImpl as reason_ord
use Rattle.wcet_report.specs.declared.context.Context.{Context}
use Rattle.wcet_report.specs.declared.loops.LoopOutcome.{LoopOutcome}
use Rattle.wcet_report.specs.declared.outcome.Outcome.{Outcome}
use Rattle.wcet_report.specs.declared.outcome.Outcomes.{Outcomes}
use Rattle.wcet_report.specs.declared.reason.Reason.{Reason}
use Rattle.context_answers.proofs.OutcomesOnce.{outcomes_once}
use Rattle.context_outcomes.specs.Inside.{Inside}
use Rattle.context_outcomes.specs.Outcomes.{AreOutcomes, AreTold, HasOutcome, IsOutcome, reason_cmp}
use Rattle.context_outcomes.specs.Setting.{Setting}
use Rattle.plain_laws.proofs.OneInside.{data_same, loops_there, outcomes_there}
use Rattle.plain_laws.proofs.OneList.{rising_list}
use Rattle.outcome_laws.proofs.Agreeing.{Agree, agree_back, bound_same, reason_there}
use Rattle.outcome_laws.proofs.Bounds.{callees_agree}
use Rattle.outcome_laws.proofs.Permutations.{IsEachOnce, same_members}
use Rattle.outcome_laws.specs.Laws.{OutcomesAreOne, OutcomesOfContextsAreOne}

-- an outcome of these parts
abbrev pub made_of : ℕ → Context → List LoopOutcome → List Reason → Option ℕ → Outcome
made_of sub context loops reasons bound = record { sub = sub; context = context; loops = loops; reasons = reasons; bound = bound }

-- what is told of the loops of two contexts that are the same is one
told_same : (S : Setting) {sub : ℕ} {context : Context} (one two : Inside S sub context) (ls ms : List LoopOutcome) → AreTold S one ls → AreTold S two ms
    → ls ≡ ms
told_same S {sub} {context} one two ls ms (inl (loops, nest, each)) (inl (others, also, told)) =
    outcomes_once S two loops others (loops_there S one two (data_same S sub context one two) loops nest) also ls ms
    (outcomes_there S one two (data_same S sub context one two) loops ls each) told
told_same S {sub} {context} one two ls ms (inl (loops, nest, each)) (inr none) =
    absurd (none.0 loops (loops_there S one two (data_same S sub context one two) loops nest))
told_same S {sub} {context} one two ls ms (inr none) (inl (others, also, told)) =
    absurd (none.0 others (loops_there S two one (data_same S sub context two one) others also))
told_same S one two ls ms (inr none) (inr neither) = none.1 ∙ sym neither.1

-- two outcomes of one context are the same in each part
module _ (S : Setting) (sub : ℕ) (context : Context) (ls ms : List LoopOutcome) (rs ss : List Reason) (a b : Option ℕ)
    (is : IsOutcome S (made_of sub context ls rs a)) (too : IsOutcome S (made_of sub context ms ss b)) where
  -- the bounds of what both enter are one
  agree : Agree too.within is.callees too.callees
  agree =
      callees_agree S sub context is.within too.within is.callees too.callees is.next too.next is.leads is.bounds too.leads too.bounds

  -- the lists of reasons rise and have the same members
  reasons_same : rs ≡ ss
  reasons_same =
      rising_list reason_cmp (reason_ord.Laws.total-law).antisymm rs ss is.rising too.rising
      (λ r has. (too.reasons r).1 (reason_there S is.within too.within is.callees too.callees agree r ((is.reasons r).0 has)))
      (λ r has.
      (is.reasons r).1
      (reason_there S too.within is.within too.callees is.callees (agree_back S is.within too.within is.callees too.callees agree) r ((too.reasons r).0 has)))

  -- so all parts are the same
  made_same : made_of sub context ls rs a ≡ made_of sub context ms ss b
  made_same =
      let loops : ls ≡ ms = told_same S is.within too.within ls ms is.loops too.loops in
      let bound : a ≡ b = bound_same S is.within too.within is.callees too.callees agree a b is.bound too.bound in
      λ i. made_of sub context (loops i) (reasons_same i) (bound i)

-- a context has one outcome
pub outcomes_of_contexts_are_one : OutcomesOfContextsAreOne
outcomes_of_contexts_are_one S one two is too sub context =
    let moved : IsOutcome S (made_of two.sub two.context one.loops one.reasons one.bound) =
    subst (λ (c : Context). IsOutcome S (made_of two.sub c one.loops one.reasons one.bound)) context
    (subst (λ (n : ℕ). IsOutcome S (made_of n one.context one.loops one.reasons one.bound)) sub is) in
    (λ i. made_of (sub i) (context i) one.loops one.reasons one.bound)
    ∙ made_same S two.sub two.context one.loops two.loops one.reasons two.reasons one.bound two.bound moved too

-- each outcome of one list stands in the other
in_other : (S : Setting) (one two : Outcomes) → AreOutcomes S one → AreOutcomes S two → (o : Outcome) → Contains one.list o → Contains two.list o
in_other S one two are too o has =
    let here = are.each o has in
    let there : HasOutcome two.list o.sub o.context = too.all o.sub o.context here.0 in
    let same : there.outcome ≡ o =
    outcomes_of_contexts_are_one S there.outcome o (too.each there.outcome there.among).1.is here.1.is there.is.of there.is.in_context in
    subst (Contains two.list) same there.among

-- each stands once
pub each_once : (S : Setting) (outcomes : Outcomes) → AreOutcomes S outcomes → IsEachOnce outcomes.list
each_once S outcomes are j k o at there = are.once j k o o at there (λ i. o.sub) (λ i. o.context)

-- a program has one list of outcomes, up to their order
pub outcomes_are_one : OutcomesAreOne
outcomes_are_one S one two are too = record {
  roots = are.entries ∙ sym too.entries;
  list = same_members one.list two.list (each_once S one are) (each_once S two too) (in_other S one two are too) (in_other S two one too are);
}
