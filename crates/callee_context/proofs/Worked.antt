-- A list that is gone through has all needed contexts, and what they come to are the outcomes.
use Rattle.std.proofs.Common.{◌≡◌, ℕ, suc, ◌+◌, ◌-◌, ◌<◌, List, Contains, length, Option, Some, None, refl, sym, ap, subst, ◌∙◌, arith}
use Rattle.std.specs.Prelude.{slice_get}
use Rattle.abs_state.specs.Key.{compare}
use Rattle.abs_state.specs.declared.key.Key.TheVariants as key
use Rattle.abs_state.specs.declared.key.Next.TheVariants.{Into}
use Rattle.abs_state.specs.declared.key.Place.{Place}
use Rattle.assert_bind.specs.Binding.{roots}
use Rattle.callee_context.proofs.Calling.{chosen_one}
use Rattle.callee_context.proofs.Listed.{needed_are_listed}
use Rattle.callee_context.proofs.Popped.{in_list, place_in, some_at}
use Rattle.callee_context.specs.Told.{AreToldOf, outcome_with}
use Rattle.callee_context.specs.Worklist.{AreAll, IsWorklist}
use Rattle.context_answers.specs.declared.answer.Answer.{Answer}
use Rattle.context_inside.specs.Within.{inside_of}
use Rattle.context_list.specs.Numbered.{One}
use Rattle.context_order.specs.Answered.{AreAnswers, IsAnsweredBy, stands_in}
use Rattle.context_order.specs.Opened.{IsLink, IsOpened}
use Rattle.context_order.specs.declared.opened.Opened.{Opened}
use Rattle.context_outcomes.specs.Arguments.{any_arguments}
use Rattle.context_outcomes.specs.Calls.{IsEntering}
use Rattle.context_outcomes.specs.Inside.{Inside}
use Rattle.context_outcomes.specs.Outcomes.{AreOutcomes, HasOutcome, IsChosen, IsNeeded, IsOf, IsOutcome, IsOutcomeIn, LeadsTo}
use Rattle.context_outcomes.specs.Setting.{Setting}
use Rattle.flow_system.specs.Facts.{fact_at}
use Rattle.plain_laws.proofs.OneInside.{facts_same}
use Rattle.transfer_rules.specs.Give.{Facts}
use Rattle.transfer_rules.specs.declared.fact.Fact.TheVariants as fact
use Rattle.value_lattice.specs.declared.value.Value.{Value}
use Rattle.wcet_report.specs.declared.context.Context.{Context}
use Rattle.wcet_report.specs.declared.outcome.Outcome.{Outcome}

some_same : {X : Type 0} {x y : X} → Some x ≡ Some y → x ≡ y
some_same e = cc

args_same : {x y : List Value} → Some (fact.Args x) ≡ Some (fact.Args y) → x ≡ y
args_same e = cc

into_same : {a b : ℕ} → Into a ≡ Into b → a ≡ b
into_same e = cc

module _ (S : Setting) (list : List One) (all : List Opened) (are : AreAll S list all) where
  -- a call leads to one context
  led_one : (facts : Facts) (p : Place) (t : ℕ) (one two : Context) → LeadsTo S facts p t one → LeadsTo S facts p t two → one ≡ two
  led_one facts p t one two here there =
      let same : here.given ≡ there.given = args_same (sym here.there ∙ there.there) in
      chosen_one S t there.given one two (subst (λ (args : List Value). IsChosen S t args one) same here.chosen) there.chosen

  link_leads : (sub : ℕ) (facts : Facts) (p : Place) (t : ℕ) (next : Context) (link : Option ℕ) → IsLink S list sub facts p link
      → IsEntering S sub facts p t → LeadsTo S facts p t next → Contains list (t, next)
  link_leads sub facts p t next None is enters leads = absurd (is t enters)
  link_leads sub facts p t next (Some number) is enters leads =
      let target : is.target ≡ t = into_same (sym is.enters.followed.call.into ∙ enters.followed.call.into) in
      let context : is.context ≡ next =
      led_one facts p t is.context next (subst (λ (n : ℕ). LeadsTo S facts p n is.context) target is.leads) leads in
      in_list list number (t, next)
      (is.at ∙ (ap (λ (n : ℕ). Some (n, is.context)) target ∙ ap (λ (c : Context). Some (t, c)) context))

  opened_leads : (sub t : ℕ) (context next : Context) (o : Opened) → IsOpened S list (sub, context) o → (p : Place)
      → IsEntering S sub (fact_at compare o.within.facts) p t → LeadsTo S (fact_at compare o.within.facts) p t next → Contains list (t, next)
  opened_leads sub t context next o is p enters leads =
      let node : Contains o.within.nodes.items p =
      subst (λ (nodes : List Place). Contains nodes p) is.inside.is.nodes
      ((is.inside.is.shape.points.each p).1 (is.inside.is.stand (key.Call p t) enters.followed.call.there)) in
      let link = some_at o.links.items node.0 (let less = node.1 in let count = is.links.count in omega (arith, less, count)) in
      link_leads sub (fact_at compare o.within.facts) p t next link.0
      (is.links.each node.0 p link.0 (place_in o.within.nodes.items p node) link.1) enters leads

  called : (k sub t : ℕ) (context next : Context) (p : Place) → k < length list → slice_get list k ≡ Some (sub, context) → (within : Inside S sub context)
      → IsEntering S sub within.facts p t → LeadsTo S within.facts p t next → Contains list (t, next)
  called k sub t context next p less at within enters leads =
      let o = some_at all k (let count = are.count in omega (arith, less, count)) in
      let is : IsOpened S list (sub, context) o.0 = are.opened.each k (sub, context) o.0 at o.1 in
      let same = facts_same S sub context within (inside_of context is.inside.arguments is.inside.is) in
      opened_leads sub t context next o.0 is p (subst (λ (x : Facts). IsEntering S sub x p t) same enters)
      (subst (λ (x : Facts). LeadsTo S x p t next) same leads)

  begun : (root : ℕ) (context : Context) → Contains (roots S.binding) root → IsChosen S root any_arguments context → Contains list (root, context)
  begun root context has chosen =
      let is = are.begun root has in
      in_list list is.number (root, context) (is.at ∙ ap (λ (c : Context). Some (root, c)) (chosen_one S root any_arguments is.context context is.chosen chosen))

  -- the list is a worklist that is gone through
  pub work : IsWorklist S list (length list)
  work = record { low = omega arith; needed = are.found.needed; different = are.found.different; begun = begun; called = called }

  module _ (answers : List Answer) (answered : AreAnswers S list answers) (outcomes : List Outcome) (told : AreToldOf list answers outcomes) where
    -- an outcome is that of its context
    one_of : (outcome : Outcome) (one : One) (answer : Answer) → outcome ≡ outcome_with one answer → (t : ℕ) (context : Context) → IsOf t context outcome
        → one ≡ (t, context)
    one_of outcome one answer is t context of =
        let first : one.0 ≡ t = sym (ap (λ (o : Outcome). o.sub) is) ∙ of.of in
        let second : one.1 ≡ context = sym (ap (λ (o : Outcome). o.context) is) ∙ of.in_context in
        λ i. (first i, second i)

    module _ (one : One) (answer : Answer) (by : IsAnsweredBy S list (stands_in answers) one answer) where
      is_outcome : IsOutcome S (outcome_with one answer)
      is_outcome = record {
        within = by.within;
        callees = by.callees;
        next = by.next;
        leads = by.leads;
        bounds = by.bounds;
        loops = by.is.loops;
        rising = by.is.rising;
        reasons = by.is.reasons;
        bound = by.is.bound;
      }

      agree : (p : Place) (t : ℕ) (callee : Outcome) → IsEntering S one.0 by.within.facts p t → Contains outcomes callee → IsOf t (by.next p) callee
          → by.callees p ≡ callee.bound
      agree p t callee enters has of =
          let here = by.told p t enters in
          let there = told.each has.0 callee (place_in outcomes callee has) in
          let same : there.one ≡ (t, by.next p) = one_of callee there.one there.answer there.is t (by.next p) of in
          let number : there.number ≡ here.number =
          are.found.different there.number here.number (t, by.next p) (there.at ∙ ap (λ (x : One). Some x) same) here.at in
          let answers_same : there.answer ≡ here.answer =
          some_same (sym there.answered ∙ (ap (λ (n : ℕ). slice_get answers n) number ∙ here.there)) in
          sym here.is ∙ (ap (λ (a : Answer). a.bound) (sym answers_same) ∙ sym (ap (λ (o : Outcome). o.bound) there.is))

      outcome_in : IsOutcomeIn S outcomes (outcome_with one answer)
      unfolding is_outcome
      outcome_in = record { is = is_outcome; agree = agree }

    each : (outcome : Outcome) → Contains outcomes outcome → IsNeeded S outcome.sub outcome.context × IsOutcomeIn S outcomes outcome
    each outcome has =
        let there = told.each has.0 outcome (place_in outcomes outcome has) in
        subst (λ (o : Outcome). IsNeeded S o.sub o.context × IsOutcomeIn S outcomes o) (sym there.is) (
          are.found.needed there.one (in_list list there.number there.one there.at),
          outcome_in there.one there.answer (answered.each there.number there.one there.answer there.at there.answered),
        )

    all_there : (sub : ℕ) (context : Context) → IsNeeded S sub context → HasOutcome outcomes sub context
    all_there sub context needed =
        let has : Contains list (sub, context) = needed_are_listed S list work sub context needed in
        let less : has.0 < length outcomes = let low = has.1 in let one = told.count in let two = answered.count in omega (arith, low, one, two) in
        let place = last_place (length outcomes) has.0 less in
        let outcome = some_at outcomes place.0 (let sum = place.1 in omega (arith, sum)) in
        let there = told.each place.0 outcome.0 outcome.1 in
        let number : there.number ≡ has.0 = let a = there.before in let b = place.1 in let count = told.count in omega (arith, a, b, count) in
        let one : there.one ≡ (sub, context) =
        some_same (sym there.at ∙ (ap (λ (n : ℕ). slice_get list n) number ∙ place_in list (sub, context) has)) in
        record {
          outcome = outcome.0;
          among = in_list outcomes place.0 outcome.0 outcome.1;
          is = record {
            of = ap (λ (o : Outcome). o.sub) there.is ∙ ap (λ (x : One). x.0) one;
            in_context = ap (λ (o : Outcome). o.context) there.is ∙ ap (λ (x : One). x.1) one;
          };
        }
      where
        last_place : (many n : ℕ) → n < many → (k : ℕ) × (n + suc k ≡ many)
        last_place many n less = (many - suc n, omega (arith, less))

    once : (j k : ℕ) (one two : Outcome) → slice_get outcomes j ≡ Some one → slice_get outcomes k ≡ Some two → one.sub ≡ two.sub
        → one.context ≡ two.context → j ≡ k
    once j k one two here there sub context =
        let a = told.each j one here in
        let b = told.each k two there in
        let same : a.one ≡ b.one =
        one_of one a.one a.answer a.is b.one.0 b.one.1
        (record { of = sub ∙ ap (λ (o : Outcome). o.sub) b.is; in_context = context ∙ ap (λ (o : Outcome). o.context) b.is }) in
        let number : a.number ≡ b.number =
        are.found.different a.number b.number b.one (a.at ∙ ap (λ (x : One). Some x) same) b.at in
        let p = a.before in
        let q = b.before in
        omega (arith, p, q, number)

    -- and these are the outcomes
    pub outcomes_are : AreOutcomes S (record { roots = roots S.binding; list = outcomes })
    outcomes_are = record {
      entries = refl;
      begun = λ root has. let is = are.begun root has in (is.context, is.chosen);
      each = each;
      all = all_there;
      once = once;
    }
