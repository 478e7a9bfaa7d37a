use Rattle.std.proofs.Common.{◌≡◌, ℕ, List, Option, None, length, get_or, map, ap, subst, sym, ◌∙◌}
use Rattle.std.proofs.lemmas.List.{length-map}
use Rattle.context_bounds.specs.Setting.{setting_of}
use Rattle.context_inside.specs.Laws.{AreDue}
use Rattle.plain_bounds.proofs.Filling.{settled_are}
use Rattle.plain_bounds.proofs.plain.plain_bounds.Goals as goal
use Rattle.plain_bounds.specs.Contexts.{ArePlainContexts}
use Rattle.plain_bounds.specs.Table.{IsPlainBound}
use Rattle.plain_parts.specs.Searched.{Known, settled}
use Rattle.value_lattice.specs.Thresholds.{IsThresholds}

pub filled_table-requires-clause-plain : goal.filled_table-requires-clause-plain
filled_table-requires-clause-plain c = c.in_ok-contexts.ensures c.args.cycles.now

pub returns : goal.returns
returns c =
    let due : AreDue (setting_of c.args.system.now c.args.cycles.now c.args.whole.now) =
    record { thresholds = subst IsThresholds c.thresholds.ensures c.are_thresholds.ensures; due = c.requires.due } in
    let contexts : ArePlainContexts (setting_of c.args.system.now c.args.cycles.now c.args.whole.now) c.in_ok-contexts.contexts =
    c.in_ok-contexts.ensures c.args.cycles.now in
    let settled_list : c.in_ok-bounds.bounds.items ≡ map settled c.in_ok-table.table.items =
    c.in_ok-bounds.ensures ∙ ap (λ (table : Known). map settled table) c.deref-5.ensures.value in
    record {
      listed = contexts.listed;
      many_arguments = contexts.count;
      many_bounds = ap length settled_list ∙ (length-map c.in_ok-table.table.items settled ∙ c.in_ok-table.ensures.known.count);
      arguments = contexts.arguments;
      bounds = λ n less.
          subst (λ (list : List (Option ℕ)). IsPlainBound (setting_of c.args.system.now c.args.cycles.now c.args.whole.now)
          (get_or c.in_ok-contexts.contexts.subs.items n 0) (get_or list n None))
          (sym settled_list)
          (settled_are (setting_of c.args.system.now c.args.cycles.now c.args.whole.now) due c.in_ok-contexts.contexts.subs.items c.in_ok-table.table.items
          contexts.listed
          c.in_ok-table.ensures.known c.in_ok-table.ensures.stuck n less);
    }
