use Rattle.std.proofs.Common.{sym, ap, ◌∙◌}
use Rattle.flow_core.specs.Readers.{readers_of}
use Rattle.flow_core.proofs.ReadersLemmas.{readers_some, readers_none}
use Rattle.flow_core.proofs.readers.Readers.of.Goals as goal

pub returns-in-None : goal.returns-in-None
returns-in-None g c =
    sym (readers_none g.K.Ord.cmp c.self.inside.lists.entries c.args.k (sym c.in-None.ensures.value))
    ∙ ap (λ readers. readers_of g.K.Ord.cmp readers c.args.k) c.self.view_is

pub returns-in-Some : goal.returns-in-Some
returns-in-Some g c =
    c.as_slice.ensures.value ∙ sym (readers_some g.K.Ord.cmp c.self.inside.lists.entries c.args.k c.in-Some.list.now c.in-Some.ensures.value)
    ∙ ap (λ readers. readers_of g.K.Ord.cmp readers c.args.k) c.self.view_is
