use Rattle.std.proofs.Common.{take, subst, sym}
use Rattle.flow_core.specs.Staged.{IsCopy}
use Rattle.flow_core.proofs.StagingLemmas.{copy_none, copy_more}
use Rattle.flow_core.proofs.staging.copy_facts.Goals as goal

pub loop-k-init : goal.loop-k-init
loop-k-init g c =
    subst (λ copies. IsCopy g.S.Key.Ord.cmp c.args.facts.now (take 0 c.args.keys.now) copies) (sym c.empty-copies.ensures.none)
    (copy_none g.S.Key.Ord.cmp (g.met.S.System.lawful c.args.system.now).keys c.args.facts.now c.args.keys.now)

pub loop-k-preserved : goal.loop-k-preserved
loop-k-preserved g c =
    copy_more g.S.Key.Ord.cmp (g.met.S.System.lawful c.args.system.now).keys c.args.facts.now c.args.keys.now c.loop-k.k-index c.k-item.result c.loop-k.copies
    c.copy_fact.new.copies c.loop-k-test.true c.k-item.is c.loop-k.invariant c.in_ok-copy_fact.ensures
