use Rattle.std.proofs.Common.{rules}
use Rattle.std.proofs.lemmas.List.Sorted.{IsPartitionPoint-from_clause, IsPartitionedBy-leb}
use Rattle.std.specs.Prelude.{nat_le}
use Rattle.graph_view.proofs.Ranges.{up_before, up_behind}
use Rattle.graph_view.proofs.owned.up_to.Goals as goal
use Rattle.graph_view.specs.contracts.owned.up_to.{T-type}

pub returns-clause-before : goal.returns-clause-before
returns-clause-before g c =
    up_before g.T.OfSub.owner c.args.list.now c.args.sub c.partition_point.result
    (IsPartitionPoint-from_clause (λ (x : T-type g.row.T). nat_le (g.T.OfSub.owner x) c.args.sub) c.args.list.now c.partition_point.result
    c.partition_point.ensures.partitioned (IsPartitionedBy-leb g.T.OfSub.owner c.args.list.now c.args.sub c.requires) (λ a r q k. search rules))

pub returns-clause-behind : goal.returns-clause-behind
returns-clause-behind g c =
    up_behind g.T.OfSub.owner c.args.list.now c.args.sub c.partition_point.result
    (IsPartitionPoint-from_clause (λ (x : T-type g.row.T). nat_le (g.T.OfSub.owner x) c.args.sub) c.args.list.now c.partition_point.result
    c.partition_point.ensures.partitioned (IsPartitionedBy-leb g.T.OfSub.owner c.args.list.now c.args.sub c.requires) (λ a r q k. search rules))
