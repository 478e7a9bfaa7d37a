use Rattle.std.proofs.Common.{◌≡◌, ◌≤◌, ◌∙◌, refl, subst}
use Rattle.std.specs.Prelude.{IfErr}
use Rattle.flow_core.specs.Core.{counted_keys}
use Rattle.flow_core.specs.Refusal.{IsPassing}
use Rattle.flow_system.specs.Laws.{IsLawful}
use Rattle.part_pool.proofs.PieceLemmas.{begins_within, copies_due, copies_fit}
use Rattle.part_pool.proofs.field.part_of.Goals as goal

pub begin-requires-clause-pieces_fit : goal.begin-requires-clause-pieces_fit
begin-requires-clause-pieces_fit g c = copies_fit g.S.Key.Ord.cmp g.N.Name.rules c.args.facts.now c.args.facts.now _ _
    (c.deref-3.ensures.value ∙ c.in_ok-pieces.ensures) refl c.requires.fit

pub begin-requires-clause-due : goal.begin-requires-clause-due
begin-requires-clause-due g c = copies_due g.S.Key.Ord.cmp g.N.Name.rules c.args.facts.now c.args.facts.now _ _
    (c.deref-3.ensures.value ∙ c.in_ok-pieces.ensures) refl c.requires.due

pub unreachable-requires : goal.unreachable-requires
unreachable-requires g c =
    let cmp = g.S.Key.Ord.cmp in
    let m = g.N.Name.rules in
    let most = g.N.Name.limit in
    let law = subst (λ n. IsLawful cmp n) c.requires.named (g.met.S.System.lawful c.args.system.now) in
    let old = c.in_ok-part.part.core.facts in
    let pieces = c.deref-3.result.now in
    let within = subst (λ limit. counted_keys m c.args.facts.now ≤ limit) c.requires.limit c.requires.within in
    let refused = subst (λ r. IfErr r (IsPassing cmp m old pieces most)) c.in-Err-Nodes.is c.begin.ensures.nodes in
    let passing = subst (λ refusal. IsPassing cmp m old pieces most refusal) c.in-Err-Nodes.field-0-is refused in
    begins_within cmp m law c.args.facts.now old c.deref.result.now pieces most c.in-Err-Nodes.field-0-0 c.in_ok-part.ensures.none
    (c.deref-3.ensures.value ∙ c.in_ok-pieces.ensures) c.requires.fit c.requires.rise within passing
