use Rattle.std.proofs.Common.{sym, subst}
use Rattle.std.specs.Prelude.{IfErr}
use Rattle.flow_core.specs.Refusal.{IsPassing}
use Rattle.part_pool.proofs.part.Part.begin.Goals as goal

pub returns-clause-nodes : goal.returns-clause-nodes
returns-clause-nodes g c =
    let i = c.self.inside in
    let named = subst (λ m. IfErr c.join.result (IsPassing g.S.Key.Ord.cmp m i.core.facts c.args.pieces.now i.core.limit)) c.requires.named
    c.join.ensures.nodes in
    let limited = subst (λ limit. IfErr c.join.result (IsPassing g.S.Key.Ord.cmp g.N.Name.rules i.core.facts c.args.pieces.now limit)) c.self.invariant.limit
    named in
    subst (λ p. IfErr c.join.result (IsPassing g.S.Key.Ord.cmp g.N.Name.rules p.core.facts c.args.pieces.now g.N.Name.limit)) c.self.view_is limited
