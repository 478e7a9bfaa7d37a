use Rattle.flow_core.proofs.PartLemmas.{joined_growth, joined_part, joined_too_big}
use Rattle.flow_core.proofs.cores.Core.join.Goals as goal

pub returns-clause-too_big : goal.returns-clause-too_big
returns-clause-too_big g c = joined_too_big g.S.Key.Ord.cmp (g.S.System.rules c.args.system.now) (g.met.S.System.lawful c.args.system.now) c.args.self.now
    c.args.pieces.now c.absorb.result c.requires.part c.requires.due c.absorb.ensures.nodes

pub returns-clause-part : goal.returns-clause-part
returns-clause-part g c = joined_part g.S.Key.Ord.cmp (g.S.System.rules c.args.system.now) (g.met.S.System.lawful c.args.system.now) c.args.self.now
    c.absorb.new.self c.args.pieces.now c.absorb.result c.requires.part c.requires.due c.absorb.ensures.absorbs c.absorb.ensures.unchanged

pub returns-clause-growth : goal.returns-clause-growth
returns-clause-growth g c = joined_growth g.S.Key.Ord.cmp (g.S.System.rules c.args.system.now) (g.met.S.System.lawful c.args.system.now) c.args.self.now
    c.absorb.new.self c.args.pieces.now c.absorb.result c.requires.part c.requires.due c.absorb.ensures.absorbs c.absorb.ensures.unchanged
