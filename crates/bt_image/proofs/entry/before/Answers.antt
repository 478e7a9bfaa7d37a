use Rattle.std.proofs.Common.{rules, arith}
use Rattle.std.proofs.lemmas.List.Sorted.{IsPartitionPoint-from_clause}
use Rattle.bt_image.specs.Entry.{text}
use Rattle.bt_image.specs.Symbol.{is_before}
use Rattle.bt_image.proofs.EntryLemmas.{partitioned}
use Rattle.bt_image.proofs.entry.before.Goals as goal

pub returns-clause-below : goal.returns-clause-below
returns-clause-below c =
    let p = IsPartitionPoint-from_clause (λ e. is_before (text c.args.strings.now e) c.args.name.now) c.args.entries.now
    c.partition_point.result c.partition_point.ensures.partitioned
    (partitioned c.args.strings.now c.args.entries.now c.args.name.now c.requires) (λ a r q k. search rules) in
    λ k d lt. p.0 k d (omega arith) lt

pub returns-clause-above : goal.returns-clause-above
returns-clause-above c =
    let p = IsPartitionPoint-from_clause (λ e. is_before (text c.args.strings.now e) c.args.name.now) c.args.entries.now
    c.partition_point.result c.partition_point.ensures.partitioned
    (partitioned c.args.strings.now c.args.entries.now c.args.name.now c.requires) (λ a r q k. search rules) in
    λ k d le lt. p.1 k d le lt
