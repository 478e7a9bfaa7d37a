use Rattle.std.proofs.Common.{subst, sym, ap, ◌∙◌, arith}
use Rattle.flow_system.specs.Facts.{fact_at}
use Rattle.flow_system.specs.State.{IsBelow}
use Rattle.flow_core.specs.Refusal.{IsTooBig}
use Rattle.flow_core.proofs.EventLemmas.{idle_is_due}
use Rattle.flow_core.proofs.StateLemmas.{below_itself, below_onward}
use Rattle.flow_core.proofs.driving.drive.Goals as goal

pub loop-turn-init : goal.loop-turn-init
loop-turn-init g c =
    let cmp = g.S.Key.Ord.cmp in
    let m = g.S.System.rules c.args.system.now in
    let struck = c.strike_all.ensures in
    record {
      good = struck.good;
      none_out = struck.none_out;
      grows = subst (λ facts. IsBelow m (fact_at cmp c.args.core.now.facts) (fact_at cmp facts)) (sym struck.facts)
          (below_itself cmp m (g.met.S.System.lawful c.args.system.now) (fact_at cmp c.args.core.now.facts) c.requires.part.fit);
      limit = struck.limit;
    }

pub returns-in_err-step-clause-grows : goal.returns-in_err-step-clause-grows
returns-in_err-step-clause-grows g c =
    let cmp = g.S.Key.Ord.cmp in
    let step = c.in_err-step.ensures in
    let inv = c.loop-turn.invariant in
    below_onward cmp (g.S.System.rules c.args.system.now) (g.met.S.System.lawful c.args.system.now) (fact_at cmp c.args.core.now.facts)
    (fact_at cmp c.loop-turn.core.facts) (fact_at cmp c.step.new.core.facts) c.requires.part.fit inv.good.part.fit step.good.part.fit inv.grows step.grows

pub returns-then-not-branch-clause-grows : goal.returns-then-not-branch-clause-grows
returns-then-not-branch-clause-grows g c =
    let cmp = g.S.Key.Ord.cmp in
    let step = c.in_ok-step.ensures in
    let inv = c.loop-turn.invariant in
    below_onward cmp (g.S.System.rules c.args.system.now) (g.met.S.System.lawful c.args.system.now) (fact_at cmp c.args.core.now.facts)
    (fact_at cmp c.loop-turn.core.facts) (fact_at cmp c.step.new.core.facts) c.requires.part.fit inv.good.part.fit step.good.part.fit inv.grows step.grows

pub loop-turn-preserved : goal.loop-turn-preserved
loop-turn-preserved g c =
    let cmp = g.S.Key.Ord.cmp in
    let step = c.in_ok-step.ensures in
    let inv = c.loop-turn.invariant in
    record {
      good = step.good;
      none_out = step.none_out;
      grows = below_onward cmp (g.S.System.rules c.args.system.now) (g.met.S.System.lawful c.args.system.now) (fact_at cmp c.args.core.now.facts)
          (fact_at cmp c.loop-turn.core.facts) (fact_at cmp c.step.new.core.facts)
          c.requires.part.fit inv.good.part.fit step.good.part.fit inv.grows step.grows;
      limit = step.limit ∙ inv.limit;
    }
