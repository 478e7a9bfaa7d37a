use Rattle.std.proofs.Common.{[], ◌++◌, ◌∷◌, subst, sym, ap, ◌∙◌}
use Rattle.std.proofs.lemmas.Option.{MatchOption-at_some}
use Rattle.flow_system.specs.Facts.{fact_at}
use Rattle.flow_system.specs.State.{IsBelow}
use Rattle.flow_core.specs.Core.{IsGood, strike}
use Rattle.flow_core.specs.Event.{Takes}
use Rattle.flow_core.specs.Refusal.{IsTooBig}
use Rattle.flow_core.proofs.DriveLemmas.{too_big, struck_only}
use Rattle.flow_core.proofs.EventLemmas.{back_keeps}
use Rattle.flow_core.proofs.StateLemmas.{below_onward}
use Rattle.flow_core.proofs.driving.step.Goals as goal

pub returns-in-Err-clause-good : goal.returns-in-Err-clause-good
returns-in-Err-clause-good g c =
    let cmp = g.S.Key.Ord.cmp in
    let m = g.S.System.rules c.args.system.now in
    let law = g.met.S.System.lawful c.args.system.now in
    let took = c.in_ok-take.ensures in
    subst (λ s. IsGood cmp m s) (sym c.give_back.ensures.returned) (back_keeps cmp m law c.take.new.self c.in-Err.refused.0.key (took.good c.requires.good))

pub returns-in-Ok-merge-clause-none_out : goal.returns-in-Ok-merge-clause-none_out
returns-in-Ok-merge-clause-none_out g c =
    let cmp = g.S.Key.Ord.cmp in
    let m = g.S.System.rules c.args.system.now in
    let law = g.met.S.System.lawful c.args.system.now in
    let took = c.in_ok-take.ensures in
    let claim = c.in-Some.claim in
    let takes : Takes cmp m c.args.core.now claim c.take.new.self = MatchOption-at_some _ _ claim c.in-Some.is took.taken in
    let out = ap (λ s. s.out) takes.state ∙ ap (λ list. list ++ claim.key ∷ []) c.requires.none_out in
    c.in-Ok-merge.ensures.merged.out ∙ ap (λ list. strike cmp list c.in-Ok.answer.claim.key) out
    ∙ ap (λ x. strike cmp ([] ++ claim.key ∷ []) x.key) c.in-Ok.ensures.claim ∙ struck_only cmp m law claim.key

pub returns-in-Ok-merge-clause-grows : goal.returns-in-Ok-merge-clause-grows
returns-in-Ok-merge-clause-grows g c =
    let cmp = g.S.Key.Ord.cmp in
    let m = g.S.System.rules c.args.system.now in
    let law = g.met.S.System.lawful c.args.system.now in
    let took = c.in_ok-take.ensures in
    let merged = c.in-Ok-merge.ensures in
    below_onward cmp m law (fact_at cmp c.args.core.now.facts) (fact_at cmp c.take.new.self.facts) (fact_at cmp c.merge.new.self.facts)
    c.requires.good.part.fit took.part.fit merged.part.fit took.growth.below merged.growth.below

pub returns-in-Err-merge-clause-good : goal.returns-in-Err-merge-clause-good
returns-in-Err-merge-clause-good g c =
    let cmp = g.S.Key.Ord.cmp in
    let m = g.S.System.rules c.args.system.now in
    let law = g.met.S.System.lawful c.args.system.now in
    let took = c.in_ok-take.ensures in
    subst (λ s. IsGood cmp m s) (sym c.give_back-in-Err-merge.ensures.returned)
    (back_keeps cmp m law c.merge.new.self c.claim.result.key (c.in-Err-merge.ensures.good (took.good c.requires.good)))

pub returns-in-Err-merge-clause-grows : goal.returns-in-Err-merge-clause-grows
returns-in-Err-merge-clause-grows g c =
    let cmp = g.S.Key.Ord.cmp in
    let m = g.S.System.rules c.args.system.now in
    let law = g.met.S.System.lawful c.args.system.now in
    let took = c.in_ok-take.ensures in
    let merged = c.in-Err-merge.ensures in
    subst (λ s. IsBelow m (fact_at cmp c.args.core.now.facts) (fact_at cmp s.facts)) (sym c.give_back-in-Err-merge.ensures.returned)
    (below_onward cmp m law (fact_at cmp c.args.core.now.facts) (fact_at cmp c.take.new.self.facts) (fact_at cmp c.merge.new.self.facts)
    c.requires.good.part.fit took.part.fit merged.part.fit took.growth.below merged.growth.below)

pub returns-in-Err-merge-clause-nodes : goal.returns-in-Err-merge-clause-nodes
returns-in-Err-merge-clause-nodes g c =
    let cmp = g.S.Key.Ord.cmp in
    let m = g.S.System.rules c.args.system.now in
    let law = g.met.S.System.lawful c.args.system.now in
    let took = c.in_ok-take.ensures in
    subst (λ n. IsTooBig cmp m n c.in-Err-merge.refused.1) took.growth.limit
    (too_big cmp m law c.take.new.self c.in-Ok.answer c.in-Err-merge.refused.1 took.part c.in-Ok.ensures.of c.in-Err-merge.ensures.nodes)
