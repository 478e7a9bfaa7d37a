use Rattle.std.proofs.Common.{rules, ltb, get_or, arith}
use Rattle.std.proofs.lemmas.List.Sorted.{IsPartitionPoint-from_clause, IsPartitionedBy-ltb}
use Rattle.std.proofs.lemmas.Bool.{ltb-true, ltb-false}
use Rattle.loop_nest.specs.declared.natural_loop.Loop.{Loop}
use Rattle.counter_bound.proofs.Inner.{heads_rise}
use Rattle.counter_bound.proofs.marking.heads_below.Goals as goal

pub returns-clause-below : goal.returns-clause-below
returns-clause-below c =
    let p = IsPartitionPoint-from_clause (λ (x : Loop). ltb x.head c.args.head) c.args.loops.now c.partition_point.result
    c.partition_point.ensures.partitioned (IsPartitionedBy-ltb (λ (x : Loop). x.head) c.args.loops.now c.args.head
    (heads_rise c.args.loops.now c.requires)) (λ a r q k. search rules) in
    λ k d lt. let q = p.0 k d (omega arith) lt in ltb-true (get_or c.args.loops.now k d).head c.args.head q

pub returns-clause-above : goal.returns-clause-above
returns-clause-above c =
    let p = IsPartitionPoint-from_clause (λ (x : Loop). ltb x.head c.args.head) c.args.loops.now c.partition_point.result
    c.partition_point.ensures.partitioned (IsPartitionedBy-ltb (λ (x : Loop). x.head) c.args.loops.now c.args.head
    (heads_rise c.args.loops.now c.requires)) (λ a r q k. search rules) in
    λ k d le lt. let q = p.1 k d le lt in ltb-false (get_or c.args.loops.now k d).head c.args.head q
