use Rattle.std.proofs.Common.{◌≡◌, ℕ, List, [], ap, subst, ◌∙◌}
use Rattle.std.specs.List.{flat_map}
use Rattle.abs_state.specs.Key.{compare}
use Rattle.context_bounds.specs.Setting.{setting_of}
use Rattle.context_inside.proofs.Contexts.{all_local, entry_there}
use Rattle.context_inside.proofs.Copied.{if_ok}
use Rattle.context_inside.proofs.Shaped.{keys_are_viewed, within_of_parts}
use Rattle.context_inside.proofs.within.within_of.Goals as goal
use Rattle.context_outcomes.specs.Arguments.{numbers_in}
use Rattle.context_outcomes.specs.Inside.{AreFacts}
use Rattle.flow_system.specs.Facts.{fact_at}
use Rattle.value_lattice.specs.Thresholds.{IsThresholds, widen}
use Rattle.value_lattice.specs.declared.value.Value.{Value}

pub shaped-requires-clause-viewed : goal.shaped-requires-clause-viewed
shaped-requires-clause-viewed c =
    let same : c.deref.result.now ≡ c.args.args.now = c.deref.ensures.value ∙ c.args-2.view_is in
    let are : AreFacts (setting_of c.args.system.now [] c.args.whole.now) c.args.sub c.args.args.now (fact_at compare c.in_ok-facts.facts) =
    subst (λ (vs : List Value). AreFacts (setting_of c.args.system.now [] c.args.whole.now) c.args.sub vs (fact_at compare c.in_ok-facts.facts)) same
    (c.in_ok-facts.ensures []) in
    let is : IsThresholds c.args.system.now.thresholds = subst IsThresholds c.thresholds-program.ensures c.are_thresholds.ensures in
    keys_are_viewed (setting_of c.args.system.now [] c.args.whole.now) c.args.sub c.args.args.now c.in_ok-facts.facts
    (record { thresholds = is; due = c.requires.due }) c.requires.below are c.requires.viewed c.len-held.ensures.rise

pub shaped-requires-clause-local : goal.shaped-requires-clause-local
shaped-requires-clause-local c =
    let same : c.deref.result.now ≡ c.args.args.now = c.deref.ensures.value ∙ c.args-2.view_is in
    let are : AreFacts (setting_of c.args.system.now [] c.args.whole.now) c.args.sub c.args.args.now (fact_at compare c.in_ok-facts.facts) =
    subst (λ (vs : List Value). AreFacts (setting_of c.args.system.now [] c.args.whole.now) c.args.sub vs (fact_at compare c.in_ok-facts.facts)) same
    (c.in_ok-facts.ensures []) in
    let is : IsThresholds c.args.system.now.thresholds = subst IsThresholds c.thresholds-program.ensures c.are_thresholds.ensures in
    all_local (setting_of c.args.system.now [] c.args.whole.now) c.args.sub c.args.args.now (fact_at compare c.in_ok-facts.facts)
    (record { thresholds = is; due = c.requires.due }) c.requires.below are

pub shaped-requires-clause-entry : goal.shaped-requires-clause-entry
shaped-requires-clause-entry c =
    let same : c.deref.result.now ≡ c.args.args.now = c.deref.ensures.value ∙ c.args-2.view_is in
    let are : AreFacts (setting_of c.args.system.now [] c.args.whole.now) c.args.sub c.args.args.now (fact_at compare c.in_ok-facts.facts) =
    subst (λ (vs : List Value). AreFacts (setting_of c.args.system.now [] c.args.whole.now) c.args.sub vs (fact_at compare c.in_ok-facts.facts)) same
    (c.in_ok-facts.ensures []) in
    let is : IsThresholds c.args.system.now.thresholds = subst IsThresholds c.thresholds-program.ensures c.are_thresholds.ensures in
    entry_there (setting_of c.args.system.now [] c.args.whole.now) c.args.sub c.args.args.now (fact_at compare c.in_ok-facts.facts)
    (record { thresholds = is; due = c.requires.due }) c.requires.below are

pub returns : goal.returns
returns c =
    let same : c.deref.result.now ≡ c.args.args.now = c.deref.ensures.value ∙ c.args-2.view_is in
    let again : c.deref-2.result.now ≡ c.args.args.now = c.deref-2.ensures.value ∙ c.args-2.view_is in
    let is : IsThresholds c.args.system.now.thresholds = subst IsThresholds c.thresholds-program.ensures c.are_thresholds.ensures in
    if_ok c.shaped.result c.shaped.ensures
    (λ w shown costs.
    within_of_parts (setting_of c.args.system.now costs c.args.whole.now) c.args.sub c.args.args.now c.in_ok-facts.facts w c.in_ok-thresholds.thresholds
    (record { thresholds = is; due = c.requires.due }) c.requires.below
    (subst (λ (vs : List Value). AreFacts (setting_of c.args.system.now costs c.args.whole.now) c.args.sub vs (fact_at compare c.in_ok-facts.facts)) same
    (c.in_ok-facts.ensures costs))
    (c.in_ok-thresholds.ensures
    ∙ (ap (λ (ts : List ℕ). widen ts (flat_map numbers_in c.deref-2.result.now)) c.thresholds-program.ensures
    ∙ ap (λ (vs : List Value). widen c.args.system.now.thresholds (flat_map numbers_in vs)) again)) shown)
