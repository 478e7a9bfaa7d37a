use Rattle.std.proofs.Common.{rules, leb, ℕ, arith}
use Rattle.std.proofs.lemmas.List.Sorted.{IsPartitionPoint-from_clause, IsPartitionedBy-leb}
use Rattle.std.proofs.lemmas.Bool.Decides.{nat_tests}
use Rattle.bt_image.proofs.ExtentLemmas.{non_decreasing}
use Rattle.bt_image.proofs.extent.at_most.Goals as goal

pub returns-clause-below : goal.returns-clause-below
returns-clause-below c =
    let p = IsPartitionPoint-from_clause (λ (x : ℕ). leb x c.args.a) c.args.numbers.now c.partition_point.result
    c.partition_point.ensures.partitioned (IsPartitionedBy-leb (λ (x : ℕ). x) c.args.numbers.now c.args.a
    (non_decreasing c.args.numbers.now c.requires)) (λ a r q k. search rules) in
    λ k lt. let q = p.0 k 0 (omega arith) lt in grind (arith, nat_tests)

pub returns-clause-above : goal.returns-clause-above
returns-clause-above c =
    let p = IsPartitionPoint-from_clause (λ (x : ℕ). leb x c.args.a) c.args.numbers.now c.partition_point.result
    c.partition_point.ensures.partitioned (IsPartitionedBy-leb (λ (x : ℕ). x) c.args.numbers.now c.args.a
    (non_decreasing c.args.numbers.now c.requires)) (λ a r q k. search rules) in
    λ k le lt. let q = p.1 k 0 le lt in grind (arith, nat_tests)
