-- What the calls of a context hand on, and to which context they lead.
use Rattle.std.proofs.Common.{◌≡◌, ℕ, true, List, Option, Some, None, nat_cmp, Equal, refl, sym, ap, ◌∙◌}
use Rattle.std.specs.Prelude.{is_some}
use Rattle.std.proofs.lemmas.Bool.{false≢true}
use Rattle.std.proofs.lemmas.Map.Lookups.{exact_unsigned}
use Rattle.abs_state.specs.declared.key.Key.TheVariants as key
use Rattle.abs_state.specs.declared.key.Place.{Place}
use Rattle.callee_context.specs.Leading.{IsGivenTo}
use Rattle.context_outcomes.specs.Arguments.{thresholds_with}
use Rattle.context_outcomes.specs.Inside.{AreFacts}
use Rattle.context_outcomes.specs.Outcomes.{IsChosen}
use Rattle.context_outcomes.specs.Setting.{Setting}
use Rattle.plain_parts.specs.Joined.{HasArguments}
use Rattle.transfer_rules.proofs.FactKinds.{fitting}
use Rattle.transfer_rules.specs.Give.{Facts}
use Rattle.transfer_rules.specs.declared.fact.Fact.{Fact}
use Rattle.value_lattice.specs.declared.value.Value.{Value}
use Rattle.wcet_report.specs.declared.context.Context.{Context}
use Rattle.wcet_report.specs.declared.context.Context.TheVariants.{Plain, With}

-- a call hands on arguments
pub has_given : (S : Setting) (sub : ℕ) (args : List Value) (facts : Facts) → AreFacts S sub args facts → (p : Place) (t : ℕ)
    → is_some (facts (key.Call p t)) ≡ true → IsGivenTo facts p t
has_given S sub args facts are p t there = by (facts (key.Call p t)) refl there where
  by : (o : Option Fact) → facts (key.Call p t) ≡ o → is_some o ≡ true → HasArguments o
  by None found some = false≢true some
  by (Some v) found some = (fitting (thresholds_with S args) (key.Call p t) v (are.least.closed.fit (key.Call p t) v found)).kind

-- the context of a subprogram with arguments is one
pub chosen_one : (S : Setting) (sub : ℕ) (args : List Value) (one two : Context) → IsChosen S sub args one → IsChosen S sub args two → one ≡ two
chosen_one S sub args Plain Plain here there = refl
chosen_one S sub args Plain (With list) here there = absurd (there.0 here)
chosen_one S sub args (With list) Plain here there = absurd (here.0 there)
chosen_one S sub args (With list) (With other) here there = ap With (here.1 ∙ sym there.1)

-- numbers that compare alike are one
pub same_number : (a b : ℕ) → nat_cmp a b ≡ Equal → a ≡ b
same_number a b e = exact_unsigned a b e
