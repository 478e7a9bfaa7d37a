-- What the whole program has of each context that is needed.
use Rattle.std.proofs.Common.{◌≡◌, ℕ, false, List, Contains, inl, inr, sym, subst, ◌∙◌}
use Rattle.abs_state.specs.declared.key.Place.{Place}
use Rattle.assert_bind.specs.Binding.{roots}
use Rattle.transfer_acts.specs.Reading.{is_stub}
use Rattle.value_lattice.specs.declared.value.Value.{Value}
use Rattle.wcet_report.specs.declared.context.Context.{Context}
use Rattle.wcet_report.specs.declared.context.Context.TheVariants.{Plain, With}
use Rattle.context_inside.proofs.Below.{contexts_are_below, plain_are_below, roots_are_below}
use Rattle.context_inside.proofs.Contexts.{context_is}
use Rattle.context_inside.specs.Laws.{AreDue, IsEnteredWith, IsHandedOn}
use Rattle.context_outcomes.specs.Arguments.{AreArgumentsOf, any_arguments, thresholds_with}
use Rattle.context_outcomes.specs.Outcomes.{IsChosen, called, root}
use Rattle.context_outcomes.specs.Setting.{Setting}
use Rattle.outcome_laws.specs.Needed.{NeededAreContexts, NeededAreEntered}

-- a root is entered with the arguments of its context
root_entered : (S : Setting) (sub : ℕ) (context : Context) (args : List Value) → AreDue S → Contains (roots S.binding) sub
    → IsChosen S sub any_arguments context → AreArgumentsOf S sub context args → IsEnteredWith S sub args
root_entered S sub Plain args due rooted chosen are = plain_are_below S sub args due (inl rooted) are
root_entered S sub (With list) args due rooted chosen are =
    subst (IsEnteredWith S sub) (sym (are ∙ chosen.1)) (roots_are_below S sub due rooted)

-- so is what is called from where the call is handed on
call_entered : (S : Setting) (t : List ℕ) (p : Place) (target : ℕ) (context : Context) (args given : List Value) → AreDue S
    → is_stub S.binding target ≡ false → IsHandedOn S t p target given → IsChosen S target given context → AreArgumentsOf S target context args
    → IsEnteredWith S target args
call_entered S t p target Plain args given due plain handed chosen are =
    plain_are_below S target args due (inr (record { plain = plain; from = p; there = handed.there })) are
call_entered S t p target (With list) args given due plain handed chosen are =
    subst (IsEnteredWith S target) (sym (are ∙ chosen.1)) (handed.below plain)

-- so is each needed context
pub needed_are_entered : NeededAreEntered
needed_are_entered S sub context due (root rooted chosen) within = root_entered S sub context within.args due rooted chosen within.arguments
needed_are_entered S sub context due (called needed caller enters leads) within =
    let handed : IsHandedOn S (thresholds_with S caller.args) _ sub leads.given =
    (contexts_are_below S _ caller.args caller.facts due (needed_are_entered S _ _ due needed caller) caller.are).calls _ sub leads.given leads.there in
    call_entered S (thresholds_with S caller.args) _ sub context within.args leads.given due enters.plain handed leads.chosen within.arguments

-- and so its facts are those of a context
pub needed_are_contexts : NeededAreContexts
needed_are_contexts S sub context due needed within =
    context_is S sub within.args within.facts due (needed_are_entered S sub context due needed within) within.are
