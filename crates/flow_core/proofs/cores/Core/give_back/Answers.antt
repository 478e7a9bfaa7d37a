use Rattle.std.proofs.Common.{subst, sym}
use Rattle.flow_core.specs.Core.{IsGood, IsPart}
use Rattle.flow_core.proofs.EventLemmas.{back_keeps, back_keeps_part}
use Rattle.flow_core.proofs.cores.Core.give_back.Goals as goal

pub returns-clause-part : goal.returns-clause-part
returns-clause-part g c = λ m law part.
    subst (λ s. IsPart g.S.Key.Ord.cmp m s) (sym c.return_key.ensures) (back_keeps_part g.S.Key.Ord.cmp m law c.args.self.now c.key.result part)

pub returns-clause-good : goal.returns-clause-good
returns-clause-good g c = λ m law good.
    subst (λ s. IsGood g.S.Key.Ord.cmp m s) (sym c.return_key.ensures) (back_keeps g.S.Key.Ord.cmp m law c.args.self.now c.key.result good)
