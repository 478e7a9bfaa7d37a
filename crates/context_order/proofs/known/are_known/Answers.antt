use Rattle.std.proofs.Common.{List, All, Option, ℕ, subst}
use Rattle.std.proofs.lemmas.List.{take_all}
use Rattle.std.proofs.lemmas.List.Elements.{All-more}
use Rattle.context_order.proofs.known.are_known.Goals as goal
use Rattle.context_order.specs.Filled.{IsKnown}

pub loop-link-preserved : goal.loop-link-preserved
loop-link-preserved c =
    All-more (IsKnown c.args.table.now) c.args.links.now c.loop-link.link-index _ c.loop-link-test.true c.loop-link.invariant
    (c.is_known.ensures.known c.if-not-is_known.false)

pub returns-clause-known : goal.returns-clause-known
returns-clause-known c = λ yes.
    subst (λ (links : List (Option ℕ)). All (IsKnown c.args.table.now) links) (take_all c.loop-link.link-index c.args.links.now c.loop-link-test.false)
    c.loop-link.invariant
