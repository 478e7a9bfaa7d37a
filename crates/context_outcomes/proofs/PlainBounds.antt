-- Plain subprograms have bounds.
use Rattle.std.proofs.Common.{◌≡◌, ℕ, true, List, Option, Some, None, refl, ◌∙◌}
use Rattle.std.specs.Prelude.{is_some}
use Rattle.std.proofs.lemmas.Bool.{false≢true}
use Rattle.abs_state.specs.declared.key.Key.TheVariants as key
use Rattle.abs_state.specs.declared.key.Place.{Place}
use Rattle.transfer_rules.proofs.FactKinds.{fitting}
use Rattle.transfer_rules.specs.Fact.{fits, is_kind, OfArgs}
use Rattle.transfer_rules.specs.Give.{Facts}
use Rattle.transfer_rules.specs.declared.fact.Fact.{Fact}
use Rattle.transfer_rules.specs.declared.fact.Fact.TheVariants as fact
use Rattle.value_lattice.specs.declared.value.Value.{Value}
use Rattle.wcet_report.specs.declared.context.Context.{Context}
use Rattle.wcet_report.specs.declared.context.Context.TheVariants.{Plain}
use Rattle.context_outcomes.specs.Arguments.{thresholds_with}
use Rattle.context_outcomes.specs.Calls.{IsEntering}
use Rattle.context_outcomes.specs.Inside.{Inside}
use Rattle.context_outcomes.specs.Laws.{PlainHaveBounds}
use Rattle.context_outcomes.specs.Outcomes.{HasPlainBound, LeadsTo, bounded, plain}
use Rattle.context_outcomes.specs.Setting.{Setting}

-- a fact that has the kind of a call's is a list of arguments
arguments_in : (v : Fact) → is_kind v OfArgs ≡ true → (list : List Value) × (v ≡ fact.Args list)
arguments_in (fact.State s) kind = absurd (false≢true kind)
arguments_in (fact.Args list) kind = (list, refl)
arguments_in (fact.Sum effects) kind = absurd (false≢true kind)
arguments_in fact.Mark kind = absurd (false≢true kind)

-- a call that facts have has arguments
pub found_arguments : (t : List ℕ) (facts : Facts) (p : Place) (target : ℕ) → ((v : Fact) → facts (key.Call p target) ≡ Some v → fits t (key.Call p target) v ≡ true)
    → is_some (facts (key.Call p target)) ≡ true → (list : List Value) × (facts (key.Call p target) ≡ Some (fact.Args list))
found_arguments t facts p target fit there = by (facts (key.Call p target)) refl there where
  by : (o : Option Fact) → facts (key.Call p target) ≡ o → is_some o ≡ true → (list : List Value) × (facts (key.Call p target) ≡ Some (fact.Args list))
  by None is some = absurd (false≢true some)
  by (Some v) is some =
      let a = arguments_in v (fitting t (key.Call p target) v (fit v is)).kind in
      (a.0, is ∙ some_of a.1)
    where
      some_of : {x y : Fact} → x ≡ y → Some x ≡ Some y
      some_of e = cc

-- what a plain context of a plain callee is entered with
leads_to_plain : (S : Setting) (sub : ℕ) (context : Context) (within : Inside S sub context) (p : Place) (t bound : ℕ) → IsEntering S sub within.facts p t
    → HasPlainBound S t bound → LeadsTo S within.facts p t Plain
leads_to_plain S sub context within p t bound enters is =
    let found = found_arguments (thresholds_with S within.args) within.facts p t (λ v e. within.are.least.closed.fit (key.Call p t) v e) enters.followed.call.there in
    record { given = found.0; there = found.1; chosen = record { bound = bound; is = is } }

pub plain_have_bounds : PlainHaveBounds
plain_have_bounds S sub bound (plain within bounds calls is) =
    bounded within (λ p. Some (bounds p)) (λ p. Plain)
    (λ p t enters. leads_to_plain S sub Plain within p t (bounds p) enters (calls p t enters))
    (λ p t enters. plain_have_bounds S t (bounds p) (calls p t enters))
    is
