use Rattle.std.proofs.Common.{◌≡◌, arith}
use Rattle.part_pool.proofs.PartSteps.{passes_next, passes_none}
use Rattle.part_pool.proofs.part.pass_others.Goals as goal

pub loop-turn-init : goal.loop-turn-init
loop-turn-init g c = record {
  part = c.requires;
  passed = passes_none g.S.Key.Ord.cmp (g.S.System.rules c.args.system.now) (g.met.S.System.lawful c.args.system.now)
      (λ k. g.S.Parted.part_of c.args.system.now k ≡ c.args.number) c.args.core.now;
}

pub loop-turn-preserved : goal.loop-turn-preserved
loop-turn-preserved g c =
    let law = g.met.S.System.lawful c.args.system.now in
    let m = g.S.System.rules c.args.system.now in
    record {
      part = c.pass_over.ensures.part m law c.loop-turn.invariant.part;
      passed = passes_next g.S.Key.Ord.cmp m law (λ k. g.S.Parted.part_of c.args.system.now k ≡ c.args.number) c.args.core.now c.loop-turn.core
          c.pass_over.new.self c.in-Some.k c.pass_over.result c.in-Some.ensures.least (λ own. omega (arith, own, c.part.ensures, c.if-part-number.false))
          c.pass_over.ensures.none c.pass_over.ensures.least c.pass_over.ensures.passed c.loop-turn.invariant.passed;
    }
