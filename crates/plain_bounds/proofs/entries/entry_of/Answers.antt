use Rattle.std.proofs.Common.{◌∙◌}
use Rattle.std.specs.Map.{keys_of}
use Rattle.context_bounds.specs.Setting.{setting_of}
use Rattle.plain_bounds.proofs.Own.{own_row, plain_at, plain_entered}
use Rattle.plain_bounds.proofs.entries.entry_of.Goals as goal

pub within_of-requires-clause-keep : goal.within_of-requires-clause-keep
within_of-requires-clause-keep c =
    c.in_ok-keep.ensures
    ∙ (c.deref.ensures.value
    ∙ own_row c.args.contexts.now.subs.items (keys_of c.args.whole.now) c.args.contexts.now.keys.items c.requires.plain.keys c.args.number
    c.index-sub.result.now
    c.requires.within c.index-sub.ensures c.index.result.now c.index.ensures)

pub within_of-requires-clause-below : goal.within_of-requires-clause-below
within_of-requires-clause-below c =
    plain_entered (setting_of c.args.system.now c.args.cycles.now c.args.whole.now) c.args.contexts.now c.requires.plain c.args.number c.index-sub.result.now
    c.requires.within c.index-sub.ensures c.index-2.result.now c.index-2.ensures c.requires.due

pub entry_within-requires-clause-within : goal.entry_within-requires-clause-within
entry_within-requires-clause-within c = record {
  args = c.index-2.result.now;
  plain =
      plain_at (setting_of c.args.system.now c.args.cycles.now c.args.whole.now) c.args.contexts.now c.requires.plain c.args.number c.index-sub.result.now
      c.requires.within c.index-sub.ensures c.index-2.result.now c.index-2.ensures;
  is = c.in_ok-within.ensures c.args.cycles.now;
}
