use Rattle.part_pool.proofs.Sums.{first_sum, starts_too_big}
use Rattle.part_pool.proofs.sum.sum_of_none.Goals as goal

pub returns-clause-sum : goal.returns-clause-sum
returns-clause-sum g c = first_sum g.S.Key.Ord.cmp (g.S.System.rules c.args.system.now) (g.met.S.System.lawful c.args.system.now) c.new.result
    c.new.ensures.starts

pub returns-clause-nodes : goal.returns-clause-nodes
returns-clause-nodes g c = starts_too_big g.S.Key.Ord.cmp (g.S.System.rules c.args.system.now) (g.met.S.System.lawful c.args.system.now) c.args.limit
    c.new.result c.new.ensures.nodes
