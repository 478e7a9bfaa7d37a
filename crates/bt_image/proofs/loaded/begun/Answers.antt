use Rattle.std.proofs.Common.{rules, leb, arith}
use Rattle.std.proofs.lemmas.List.Sorted.{IsPartitionPoint-from_clause, IsPartitionedBy-leb}
use Rattle.std.proofs.lemmas.Bool.Decides.{nat_tests}
use Rattle.bt_image.proofs.LoadedLemmas.{rising_from_apart}
use Rattle.bt_image.proofs.loaded.begun.Goals as goal

pub returns-clause-below : goal.returns-clause-below
returns-clause-below c =
    let p = IsPartitionPoint-from_clause (λ s. leb s.address c.args.a) c.args.loaded.now c.partition_point.result
    c.partition_point.ensures.partitioned (IsPartitionedBy-leb (λ s. s.address) c.args.loaded.now c.args.a
    (rising_from_apart c.args.loaded.now c.requires)) (λ a r q k. search rules) in
    λ k d lt. let q = p.0 k d (omega arith) lt in grind (arith, nat_tests)

pub returns-clause-above : goal.returns-clause-above
returns-clause-above c =
    let p = IsPartitionPoint-from_clause (λ s. leb s.address c.args.a) c.args.loaded.now c.partition_point.result
    c.partition_point.ensures.partitioned (IsPartitionedBy-leb (λ s. s.address) c.args.loaded.now c.args.a
    (rising_from_apart c.args.loaded.now c.requires)) (λ a r q k. search rules) in
    λ k d le lt. let q = p.1 k d le lt in grind (arith, nat_tests)
