-- The whole program has the entry of each needed context.
use Rattle.std.proofs.Common.{◌≡◌, ℕ, false, List, Contains, inl, inr, sym, subst, ap, ◌∙◌, length}
use Rattle.std.proofs.lemmas.Bool.{cases_Bool}
use Rattle.abs_state.specs.declared.key.Key.TheVariants as key
use Rattle.abs_state.specs.declared.key.Place.{Place}
use Rattle.assert_bind.specs.Binding.{roots}
use Rattle.bt_base.specs.Graph.{has}
use Rattle.context_inside.proofs.Below.{contexts_are_below, plain_are_below, roots_are_below}
use Rattle.context_inside.specs.Laws.{AreDue, IsEntered, IsEnteredWith, IsHandedOn}
use Rattle.context_outcomes.specs.Arguments.{AreArgumentsOf, ArePlain, any_arguments, thresholds_with}
use Rattle.context_outcomes.specs.Calls.{IsEntering}
use Rattle.context_outcomes.specs.Inside.{Inside}
use Rattle.context_outcomes.specs.Outcomes.{IsChosen, IsNeeded, called, root}
use Rattle.context_outcomes.specs.Setting.{Setting}
use Rattle.transfer_acts.specs.Reading.{is_stub}
use Rattle.value_lattice.specs.declared.value.Value.{Value}
use Rattle.wcet_report.specs.declared.context.Context.{Context}
use Rattle.wcet_report.specs.declared.context.Context.TheVariants.{Plain, With}

-- what a context is entered with
pub record IsReady (S : Setting) (sub : ℕ) (args : List Value) : Type 0 where
  pub count : length args ≡ 13
  pub entered : IsEnteredWith S sub args

-- the arguments of a plain context are 13
plain_count : (S : Setting) (sub : ℕ) (args : List Value) → ArePlain S sub args → length args ≡ 13
plain_count S sub args are =
    elim (cases_Bool (has (roots S.binding) sub)) [
      | inl rooted ↦ ap (λ (list : List Value). length list) (are.root rooted)
      | inr other ↦ (are.called other).over.count
    ]

root_ready : (S : Setting) (sub : ℕ) (context : Context) (args : List Value) → AreDue S → Contains (roots S.binding) sub
    → IsChosen S sub any_arguments context → AreArgumentsOf S sub context args → IsReady S sub args
root_ready S sub Plain args due rooted chosen are = record {
  count = plain_count S sub args are;
  entered = plain_are_below S sub args due (inl rooted) are;
}
root_ready S sub (With list) args due rooted chosen are = record {
  count = ap (λ (list : List Value). length list) (are ∙ chosen.1);
  entered = subst (IsEnteredWith S sub) (sym (are ∙ chosen.1)) (roots_are_below S sub due rooted);
}

call_ready : (S : Setting) (t : List ℕ) (p : Place) (target : ℕ) (context : Context) (args given : List Value) → AreDue S
    → is_stub S.binding target ≡ false → IsHandedOn S t p target given → IsChosen S target given context → AreArgumentsOf S target context args
    → IsReady S target args
call_ready S t p target Plain args given due plain handed chosen are = record {
  count = plain_count S target args are;
  entered = plain_are_below S target args due (inr (record { plain = plain; from = p; there = handed.there })) are;
}
call_ready S t p target (With list) args given due plain handed chosen are = record {
  count = ap (λ (list : List Value). length list) (are ∙ chosen.1) ∙ handed.count;
  entered = subst (IsEnteredWith S target) (sym (are ∙ chosen.1)) (handed.below plain);
}

-- each needed context is entered with 13 values, and the whole program has its entry with these
pub needed_are_ready : (S : Setting) (sub : ℕ) (context : Context) → AreDue S → IsNeeded S sub context → (args : List Value)
    → AreArgumentsOf S sub context args → IsReady S sub args
needed_are_ready S sub context due (root rooted chosen) args are = root_ready S sub context args due rooted chosen are
needed_are_ready S sub context due (called needed caller enters leads) args are =
    let from = needed_are_ready S _ _ due needed caller.args caller.arguments in
    let handed : IsHandedOn S (thresholds_with S caller.args) _ sub leads.given =
    (contexts_are_below S _ caller.args caller.facts due from.entered caller.are).calls _ sub leads.given leads.there in
    call_ready S (thresholds_with S caller.args) _ sub context args leads.given due enters.plain handed leads.chosen are

-- what a context calls, and is followed, is called in the whole program
pub entering_entered : (S : Setting) (sub : ℕ) (context : Context) (within : Inside S sub context) (p : Place) (t : ℕ)
    → IsEntering S sub within.facts p t → IsEntered S t
entering_entered S sub context within p t enters =
    inr (record {
      plain = enters.plain;
      from = p;
      there = ((within.are.kept.keeps (key.Call p t)).0 (within.are.least.closed.kept (key.Call p t) enters.followed.call.there)).1;
    })

-- so each needed context is that of a root, or of what is called and no stub
pub needed_entered : (S : Setting) (sub : ℕ) (context : Context) → IsNeeded S sub context → IsEntered S sub
needed_entered S sub context (root rooted chosen) = inl rooted
needed_entered S sub context (called needed caller enters leads) = entering_entered S _ _ caller _ sub enters
