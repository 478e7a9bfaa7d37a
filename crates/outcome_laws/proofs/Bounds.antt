-- The context to which a call leads is one, and so is the bound of a context.
use Rattle.std.proofs.Common.{◌≡◌, ℕ, List, Some, sym, ap, subst, ◌∙◌}
use Rattle.abs_state.specs.declared.key.Place.{Place}
use Rattle.transfer_rules.specs.Give.{Facts}
use Rattle.transfer_rules.specs.declared.fact.Fact.TheVariants as fact
use Rattle.value_lattice.specs.declared.value.Value.{Value}
use Rattle.wcet_report.specs.declared.context.Context.{Context}
use Rattle.wcet_report.specs.declared.context.Context.TheVariants.{Plain, With}
use Rattle.context_outcomes.specs.Calls.{IsEntering}
use Rattle.context_outcomes.specs.Inside.{Inside}
use Rattle.context_outcomes.specs.Outcomes.{HasBound, IsChosen, LeadsTo, bounded}
use Rattle.context_outcomes.specs.Setting.{Setting}
use Rattle.context_outcomes.specs.Spending.{Callees}
use Rattle.plain_laws.proofs.OneBound.{enters_there}
use Rattle.plain_laws.proofs.OneInside.{facts_same}
use Rattle.outcome_laws.proofs.Agreeing.{Agree, bound_same}
use Rattle.outcome_laws.specs.Laws.{BoundsAreOne, ChosenAreOne, ContextsAreOne}

-- calls that hand on the same hand on the same arguments
args_same : {x y : List Value} → Some (fact.Args x) ≡ Some (fact.Args y) → x ≡ y
args_same e = cc

-- a subprogram is plain or it isn't
pub chosen_are_one : ChosenAreOne
chosen_are_one S sub args Plain Plain one two = λ i. Plain
chosen_are_one S sub args Plain (With list) one two = absurd (two.0 one)
chosen_are_one S sub args (With list) Plain one two = absurd (one.0 two)
chosen_are_one S sub args (With list) (With other) one two = ap With (one.1 ∙ sym two.1)

-- a call leads to one context
pub contexts_are_one : ContextsAreOne
contexts_are_one S facts p t one two leads also =
    let given : leads.given ≡ also.given = args_same (sym leads.there ∙ also.there) in
    chosen_are_one S t also.given one two (subst (λ (args : List Value). IsChosen S t args one) given leads.chosen) also.chosen

-- the contexts to which the calls of two contexts lead are the same, where these are
pub next_same : (S : Setting) (sub : ℕ) (context : Context) (one two : Inside S sub context) (p : Place) (t : ℕ) (next after : Context)
    → LeadsTo S one.facts p t next → LeadsTo S two.facts p t after → next ≡ after
next_same S sub context one two p t next after leads also =
    contexts_are_one S two.facts p t next after
    (subst (λ (x : Facts). LeadsTo S x p t next) (facts_same S sub context one two) leads) also

-- a context has one bound, or none: what it calls has, by induction over what shows the one
pub bounds_are_one : BoundsAreOne
bounds_are_one S sub context a b (bounded one callees next leads calls is) (bounded two others after led too so) =
    bound_same S one two callees others
    (λ p t enters.
    let here = enters_there S sub two one p t enters in
    let same : next p ≡ after p = next_same S sub context one two p t (next p) (after p) (leads p t here) (led p t enters) in
    bounds_are_one S t (after p) (callees p) (others p) (subst (λ (c : Context). HasBound S t c (callees p)) same (calls p t here)) (too p t enters))
    a b is so

-- so the bounds of what two contexts enter that are the same are one
pub callees_agree : (S : Setting) (sub : ℕ) (context : Context) (one two : Inside S sub context) (callees others : Callees) (next after : Place → Context)
    → ((p : Place) (t : ℕ) → IsEntering S sub one.facts p t → LeadsTo S one.facts p t (next p))
    → ((p : Place) (t : ℕ) → IsEntering S sub one.facts p t → HasBound S t (next p) (callees p))
    → ((p : Place) (t : ℕ) → IsEntering S sub two.facts p t → LeadsTo S two.facts p t (after p))
    → ((p : Place) (t : ℕ) → IsEntering S sub two.facts p t → HasBound S t (after p) (others p)) → Agree two callees others
callees_agree S sub context one two callees others next after leads calls led too p t enters =
    let here = enters_there S sub two one p t enters in
    let same : next p ≡ after p = next_same S sub context one two p t (next p) (after p) (leads p t here) (led p t enters) in
    bounds_are_one S t (after p) (callees p) (others p) (subst (λ (c : Context). HasBound S t c (callees p)) same (calls p t here)) (too p t enters)
