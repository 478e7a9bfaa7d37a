use Rattle.std.proofs.Common.{◌∙◌, ap, subst, sym}
use Rattle.std.specs.Map.{keys_of}
use Rattle.flow_core.specs.Absorb.{Absorbs}
use Rattle.flow_core.specs.Staged.{PiecesFit}
use Rattle.flow_system.specs.State.{AllDue}
use Rattle.part_pool.specs.Pieces.{pieces_at}
use Rattle.part_pool.proofs.PieceLemmas.{copies_due, copies_fit}
use Rattle.part_pool.proofs.Sums.{join_adds, join_pends}
use Rattle.part_pool.proofs.sum.add_part.Goals as goal

pub join-requires-clause-pieces_fit : goal.join-requires-clause-pieces_fit
join-requires-clause-pieces_fit g c = subst (λ m. PiecesFit m c.deref-2.result.now) (sym c.requires.named)
    (copies_fit g.S.Key.Ord.cmp g.N.Name.rules c.facts-2.result.now c.args.part.now.core.facts c.deref.result.now c.deref-2.result.now
    (c.deref-2.ensures.value ∙ c.in_ok-pieces.ensures) c.facts-2.ensures.facts c.facts-2.ensures.kept.part.fit)

pub join-requires-clause-due : goal.join-requires-clause-due
join-requires-clause-due g c = subst (λ m. AllDue m c.deref-2.result.now) (sym c.requires.named)
    (copies_due g.S.Key.Ord.cmp g.N.Name.rules c.facts-2.result.now c.args.part.now.core.facts c.deref.result.now c.deref-2.result.now
    (c.deref-2.ensures.value ∙ c.in_ok-pieces.ensures) c.facts-2.ensures.facts c.facts-2.ensures.kept.part.due)

pub returns-clause-added : goal.returns-clause-added
returns-clause-added g c =
    let cmp = g.S.Key.Ord.cmp in
    let facts = c.args.part.now.core.facts in
    let keys = c.deref.ensures.value ∙ c.in_ok-keys.ensures.keys ∙ ap (λ fs. keys_of fs) c.facts.ensures.facts in
    let are = c.deref-2.ensures.value ∙ c.in_ok-pieces.ensures ∙ ap (λ fs. pieces_at cmp fs c.deref.result.now) c.facts-2.ensures.facts
    ∙ ap (λ ks. pieces_at cmp facts ks) keys in
    join_adds cmp g.N.Name.rules c.facts.ensures.kept.lawful facts c.args.core.now c.join.new.self c.deref-2.result.now c.in_ok-join.field-0 are
    (subst (λ m. Absorbs cmp m c.args.core.now c.deref-2.result.now c.join.new.self c.in_ok-join.field-0) c.requires.named c.in_ok-join.ensures.absorbs)

pub returns-clause-pending : goal.returns-clause-pending
returns-clause-pending g c =
    let cmp = g.S.Key.Ord.cmp in
    join_pends cmp g.N.Name.rules c.facts.ensures.kept.lawful c.args.core.now c.join.new.self c.deref-2.result.now c.in_ok-join.field-0
    (subst (λ m. Absorbs cmp m c.args.core.now c.deref-2.result.now c.join.new.self c.in_ok-join.field-0) c.requires.named c.in_ok-join.ensures.absorbs)
    c.requires.pending
