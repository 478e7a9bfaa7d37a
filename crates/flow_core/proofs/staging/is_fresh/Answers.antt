use Rattle.flow_core.proofs.StagingLemmas.{agree_more, listed_at}
use Rattle.flow_core.proofs.staging.is_fresh.Goals as goal

pub loop-k-preserved : goal.loop-k-preserved
loop-k-preserved g c =
    agree_more g.S.Key.Ord.cmp (g.met.S.System.lawful c.args.system.now).keys c.args.copies.now c.args.facts.now c.args.keys.now c.loop-k.k-index
    c.k-item.result c.loop-k-test.true c.k-item.is c.loop-k.invariant (c.is_same.ensures.same c.if-not-is_same.false)

pub returns-then-not-is_same-clause-stale : goal.returns-then-not-is_same-clause-stale
returns-then-not-is_same-clause-stale g c = λ f agree.
    c.is_same.ensures.other c.if-not-is_same.true
    (agree c.k-item.result (listed_at c.args.keys.now c.loop-k.k-index c.k-item.result c.loop-k-test.true c.k-item.is))
