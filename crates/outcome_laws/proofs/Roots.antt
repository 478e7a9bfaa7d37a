-- The bound that a report tells of a root is that of the root's context.
use Rattle.std.proofs.Common.{◌≡◌, ◌==◌, ℕ, Bool, true, false, List, [], ◌∷◌, Option, Some, None, Contains, inl, inr, refl, sym, ap, subst, ◌∙◌}
use Rattle.std.specs.Prelude.{if◌then◌else◌}
use Rattle.std.proofs.lemmas.Bool.{and_from, eq-eqb, false≢true}
use Rattle.assert_bind.specs.Binding.{roots}
use Rattle.call_laws.proofs.Risings.{contains_cases, none_in_empty}
use Rattle.report_runs.proofs.Rooted.{IsChosenFor, IsOpenOf, among_at, chosen_for, found_open, one_open}
use Rattle.wcet_report.specs.Context.{are_any, is_open}
use Rattle.wcet_report.specs.Report.{flattened, is_of_root, open_bound, root_bound}
use Rattle.wcet_report.specs.declared.context.Context.{Context}
use Rattle.wcet_report.specs.declared.context.Context.TheVariants.{Plain, With}
use Rattle.wcet_report.specs.declared.outcome.Outcome.{Outcome}
use Rattle.wcet_report.specs.declared.outcome.Outcomes.{Outcomes}
use Rattle.context_outcomes.specs.Arguments.{any_arguments}
use Rattle.context_outcomes.specs.Outcomes.{AreOutcomes, HasOutcome, IsChosen, root}
use Rattle.context_outcomes.specs.Setting.{Setting}
use Rattle.outcome_laws.proofs.Bounds.{chosen_are_one}
use Rattle.outcome_laws.proofs.Outcomes.{outcomes_of_contexts_are_one}

-- what is there isn't none
some_not_none : {X : Type 0} {x : X} → Some x ≡ None → ⊥
some_not_none e = cc

-- where the first outcome is that of a root its bound is found, and else that of the others
not_there : (x : Outcome) (rest : List Outcome) (r : ℕ) (o : Outcome) (b : Bool) → is_of_root r x ≡ b → Contains (x ∷ rest) o → is_of_root r o ≡ true
    → (if b then Some x.bound else open_bound r rest) ≡ None → (Contains rest o → open_bound r rest ≡ None → ⊥) → ⊥
not_there x rest r o true e has is none further = some_not_none none
not_there x rest r o false e has is none further = elim (contains_cases x rest o has) [
  | inl first ↦ false≢true (sym e ∙ subst (λ (y : Outcome). is_of_root r y ≡ true) (sym first) is)
  | inr later ↦ further later none
]

-- a list that has the outcome of a root tells its bound, or that it has none
open_has : (list : List Outcome) (r : ℕ) (o : Outcome) → Contains list o → is_of_root r o ≡ true → open_bound r list ≡ None → ⊥
open_has [] r o has is none = none_in_empty o has
open_has (x ∷ rest) r o has is none = not_there x rest r o (is_of_root r x) refl has is none (λ later. open_has rest r o later is)

-- in the context of a root nothing is known of the arguments
pub chosen_open : (S : Setting) (r : ℕ) (context : Context) → IsChosen S r any_arguments context → is_open context ≡ true
chosen_open S r Plain chosen = refl
chosen_open S r (With list) chosen = ap are_any chosen.1

-- the outcome that a report takes for a root is that of the root's context
pub record IsRootOutcome (S : Setting) (list : List Outcome) (r : ℕ) : Type 0 where
  pub outcome : Outcome
  pub among : Contains list outcome
  pub own : outcome.sub ≡ r
  pub chosen : IsChosen S r any_arguments outcome.context
  pub bound_is : root_bound list r ≡ outcome.bound

-- a root has such an outcome: the first in which nothing is known of its arguments
pub root_outcome : (S : Setting) (outcomes : Outcomes) → AreOutcomes S outcomes → (r : ℕ) → Contains (roots S.binding) r → IsRootOutcome S outcomes.list r
root_outcome S outcomes are r rooted = by (open_bound r outcomes.list) refl where
  begun : (context : Context) × IsChosen S r any_arguments context
  begun = are.begun r rooted

  there : HasOutcome outcomes.list r begun.0
  there = are.all r begun.0 (root rooted begun.1)

  its_own : is_of_root r there.outcome ≡ true
  its_own =
      and_from (there.outcome.sub == r) (is_open there.outcome.context) (eq-eqb there.outcome.sub r there.is.of)
      (ap is_open there.is.in_context ∙ chosen_open S r begun.0 begun.1)

  by : (o : Option (Option ℕ)) → open_bound r outcomes.list ≡ o → IsRootOutcome S outcomes.list r
  by None e = absurd (open_has outcomes.list r there.outcome there.among its_own e)
  by (Some bound) e =
      let o : IsOpenOf outcomes.list r bound = found_open outcomes.list r bound e in
      let has : Contains outcomes.list o.outcome = among_at outcomes.list o.at o.outcome o.there in
      let for_some : IsChosenFor S r o.outcome.context =
      subst (λ (n : ℕ). IsChosenFor S n o.outcome.context) o.of (chosen_for S o.outcome.sub o.outcome.context (are.each o.outcome has).0) in
      let contexts : begun.0 ≡ o.outcome.context =
      one_open S r begun.0 o.outcome.context for_some.args begun.1 for_some.chosen for_some.count o.is_open in
      record {
        outcome = o.outcome;
        among = has;
        own = o.of;
        chosen = subst (IsChosen S r any_arguments) contexts begun.1;
        bound_is = ap flattened e ∙ sym o.bound_is;
      }

-- so the bound of a root is one
pub root_same : (S : Setting) (one two : Outcomes) → AreOutcomes S one → AreOutcomes S two → (r : ℕ) → Contains (roots S.binding) r
    → root_bound one.list r ≡ root_bound two.list r
root_same S one two are too r rooted =
    let a = root_outcome S one are r rooted in
    let b = root_outcome S two too r rooted in
    let same : a.outcome ≡ b.outcome =
    outcomes_of_contexts_are_one S a.outcome b.outcome (are.each a.outcome a.among).1.is (too.each b.outcome b.among).1.is (a.own ∙ sym b.own)
    (chosen_are_one S r any_arguments a.outcome.context b.outcome.context a.chosen b.chosen) in
    a.bound_is ∙ (ap (λ (o : Outcome). o.bound) same ∙ sym b.bound_is)
