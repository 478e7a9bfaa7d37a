use Rattle.std.proofs.Common.{[], ◌∙◌, arith, subst}
use Rattle.std.proofs.lemmas.List.{take_all}
use Rattle.flow_system.specs.Facts.{fact_at}
use Rattle.flow_system.specs.Laws.{IsLawful}
use Rattle.flow_core.specs.Core.{IsPart}
use Rattle.part_pool.specs.Sum.{IsSum}
use Rattle.part_pool.proofs.Sums.{sum_good, sum_next}
use Rattle.part_pool.proofs.sum.sum_of.Goals as goal

pub loop-part-init : goal.loop-part-init
loop-part-init g c =
    let cmp = g.S.Key.Ord.cmp in
    let made = c.in_ok-core.ensures in
    record {
      sum = subst (λ m. IsSum cmp m [] (fact_at cmp c.in_ok-core.core.facts)) c.requires.named made.sum;
      fit = λ part listed. absurd (omega (arith, listed.1));
      part = subst (λ m. IsPart cmp m c.in_ok-core.core) c.requires.named made.part;
      pending = made.pending;
      none_out = made.none_out;
      limit = made.limit ∙ c.requires.limit;
    }

pub loop-part-preserved : goal.loop-part-preserved
loop-part-preserved g c =
    let cmp = g.S.Key.Ord.cmp in
    let m = g.N.Name.rules in
    let law = subst (λ n. IsLawful cmp n) c.requires.named (g.met.S.System.lawful c.args.system.now) in
    let i = c.loop-part.invariant in
    let added = c.in_ok-add_part.ensures in
    let next = sum_next cmp m law c.args.parts.now c.loop-part.part-index c.part-item.result c.loop-part.core.facts c.add_part.new.core.facts
    c.loop-part-test.true c.part-item.is i.fit i.sum added.fit added.added in
    record {
      sum = next.1;
      fit = next.0;
      part = added.part;
      pending = added.pending;
      none_out = added.out ∙ i.none_out;
      limit = added.limit ∙ i.limit;
    }

pub returns-clause-sum : goal.returns-clause-sum
returns-clause-sum g c =
    let cmp = g.S.Key.Ord.cmp in
    subst (λ list. IsSum cmp g.N.Name.rules list (fact_at cmp c.loop-part.core.facts)) (take_all c.loop-part.part-index c.args.parts.now c.loop-part-test.false)
    c.loop-part.invariant.sum

pub returns-clause-good : goal.returns-clause-good
returns-clause-good g c =
    let cmp = g.S.Key.Ord.cmp in
    let m = g.N.Name.rules in
    let law = subst (λ n. IsLawful cmp n) c.requires.named (g.met.S.System.lawful c.args.system.now) in
    let i = c.loop-part.invariant in
    sum_good cmp m law _ c.loop-part.core i.part i.sum i.pending
