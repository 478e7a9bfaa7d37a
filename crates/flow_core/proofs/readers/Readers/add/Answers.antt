use Rattle.std.proofs.Common.{OnErr, subst}
use Rattle.flow_core.specs.Readers.{SameReaders, lists_of}
use Rattle.flow_core.proofs.readers.Readers.add.Goals as goal

pub returns-clause-same : goal.returns-clause-same
returns-clause-same g c =
    subst (λ readers. OnErr c.add_to.result (SameReaders g.K.Ord.cmp readers (lists_of c.add_to.new.lists.entries))) c.self.view_is c.add_to.ensures.same
