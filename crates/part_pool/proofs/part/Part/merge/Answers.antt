use Rattle.flow_core.proofs.CoreLemmas.{pieces_fit}
use Rattle.part_pool.proofs.PartSteps.{answer_due, refused_is_too_big}
use Rattle.part_pool.proofs.part.Part.merge.Goals as goal

pub tell_pieces-told-requires-clause-pieces_fit : goal.tell_pieces-told-requires-clause-pieces_fit
tell_pieces-told-requires-clause-pieces_fit g c = pieces_fit g.S.Key.Ord.cmp g.N.Name.rules c.self.invariant.lawful c.args.answer c.pieces.result.now
    c.pieces.ensures c.requires.of

pub tell_pieces-told-requires-clause-due : goal.tell_pieces-told-requires-clause-due
tell_pieces-told-requires-clause-due g c = answer_due g.S.Key.Ord.cmp g.N.Name.rules c.self.invariant.lawful c.args.answer c.pieces.result.now c.pieces.ensures
    c.requires.of

pub returns-in-Ok-clause-too_big : goal.returns-in-Ok-clause-too_big
returns-in-Ok-clause-too_big g c = refused_is_too_big g.S.Key.Ord.cmp (g.S.System.rules c.args.system.now) g.N.Name.rules c.requires.named g.N.Name.limit
    c.self.inside.core c.args.answer c.merge.result c.self.invariant c.requires.of c.merge.ensures.nodes
