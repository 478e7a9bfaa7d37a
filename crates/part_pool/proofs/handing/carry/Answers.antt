use Rattle.std.proofs.Common.{◌∙◌}
use Rattle.part_pool.proofs.PieceLemmas.{copies_due, copies_fit}
use Rattle.part_pool.proofs.handing.carry.Goals as goal

pub receive-requires-clause-pieces_fit : goal.receive-requires-clause-pieces_fit
receive-requires-clause-pieces_fit g c = copies_fit g.S.Key.Ord.cmp g.N.Name.rules c.facts.result.now c.args.from.now.core.facts c.args.keys.now
    c.deref.result.now (c.deref.ensures.value ∙ c.in_ok-pieces.ensures) c.facts.ensures.facts c.facts.ensures.kept.part.fit

pub receive-requires-clause-due : goal.receive-requires-clause-due
receive-requires-clause-due g c = copies_due g.S.Key.Ord.cmp g.N.Name.rules c.facts.result.now c.args.from.now.core.facts c.args.keys.now
    c.deref.result.now (c.deref.ensures.value ∙ c.in_ok-pieces.ensures) c.facts.ensures.facts c.facts.ensures.kept.part.due
