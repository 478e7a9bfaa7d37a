use Rattle.std.proofs.Common.{ℕ, List, [], ap, subst, ◌∙◌}
use Rattle.std.specs.List.{flat_map}
use Rattle.std.specs.Map.{keys_of}
use Rattle.abs_state.specs.Key.{compare}
use Rattle.abs_state.specs.declared.key.Key.{Key as AnyKey}
use Rattle.context_bounds.specs.Copies.{AreCopies}
use Rattle.context_bounds.specs.Own.{own_keys}
use Rattle.context_bounds.specs.Setting.{setting_of}
use Rattle.context_inside.proofs.Copied.{if_ok}
use Rattle.context_inside.proofs.Entered.{all_values, given_values}
use Rattle.context_inside.proofs.Restricting.{least_by, restricts_by}
use Rattle.context_inside.proofs.knowing.facts_of.Goals as goal
use Rattle.context_outcomes.specs.Arguments.{numbers_in}
use Rattle.flow_system.specs.Facts.{fact_at}
use Rattle.value_lattice.specs.Thresholds.{IsThresholds, widen}

pub starts_with-requires-clause-values : goal.starts_with-requires-clause-values
starts_with-requires-clause-values c =
    all_values c.args.args.now
    (given_values (setting_of c.args.system.now [] c.args.whole.now) c.args.sub c.args.args.now c.requires.count c.requires.below)

pub least_of-requires : goal.least_of-requires
least_of-requires c =
    let copies : AreCopies c.args.whole.now c.in_ok-fixed.fixed (own_keys (keys_of c.args.whole.now) c.args.sub) =
    subst (λ (keys : List AnyKey). AreCopies c.args.whole.now c.in_ok-fixed.fixed keys) c.requires.keep
    (subst (λ (keys : List AnyKey). AreCopies c.args.whole.now c.in_ok-fixed.fixed keys) c.deref.ensures.value c.in_ok-fixed.ensures) in
    let is : IsThresholds c.args.system.now.thresholds = subst IsThresholds c.thresholds-program.ensures c.are_thresholds.ensures in
    restricts_by (setting_of c.args.system.now [] c.args.whole.now) c.args.sub c.args.args.now c.in_ok-fixed.fixed (record { thresholds = is; due = c.requires.due })
    c.requires.rise c.requires.count c.requires.below copies c.in_ok-thresholds.thresholds c.in_ok-starts.starts.items c.args.keep.items
    (c.in_ok-thresholds.ensures ∙ ap (λ (ts : List ℕ). widen ts (flat_map numbers_in c.args.args.now)) c.thresholds-program.ensures)
    c.in_ok-starts.ensures c.requires.keep

pub returns : goal.returns
returns c =
    let copies : AreCopies c.args.whole.now c.in_ok-fixed.fixed (own_keys (keys_of c.args.whole.now) c.args.sub) =
    subst (λ (keys : List AnyKey). AreCopies c.args.whole.now c.in_ok-fixed.fixed keys) c.requires.keep
    (subst (λ (keys : List AnyKey). AreCopies c.args.whole.now c.in_ok-fixed.fixed keys) c.deref.ensures.value c.in_ok-fixed.ensures) in
    let is : IsThresholds c.args.system.now.thresholds = subst IsThresholds c.thresholds-program.ensures c.are_thresholds.ensures in
    if_ok c.least_of.result c.least_of.ensures
    (λ facts least costs.
    least_by (setting_of c.args.system.now costs c.args.whole.now) c.args.sub c.args.args.now c.in_ok-fixed.fixed
    (record { thresholds = is; due = c.requires.due }) c.requires.rise c.requires.count c.requires.below copies c.in_ok-thresholds.thresholds
    c.in_ok-starts.starts.items c.args.keep.items
    (c.in_ok-thresholds.ensures ∙ ap (λ (ts : List ℕ). widen ts (flat_map numbers_in c.args.args.now)) c.thresholds-program.ensures)
    c.in_ok-starts.ensures c.requires.keep (fact_at compare facts) least)
