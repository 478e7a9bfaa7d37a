use Rattle.std.proofs.Common.{◌∙◌, ap, subst}
use Rattle.std.specs.Prelude.{Contains}
use Rattle.flow_core.proofs.StagingLemmas.{listed_at}
use Rattle.part_pool.proofs.PartSteps.{start_key_due}
use Rattle.part_pool.proofs.growing.publish_starts.Goals as goal

pub publish-requires : goal.publish-requires
publish-requires g c = start_key_due g.N.Name.rules c.piece-item.result.0 c.piece-item.result.1
    (subst (λ pieces. Contains pieces c.piece-item.result) (c.deref-piece-items.ensures.value ∙ c.in_ok-starts.ensures ∙ ap (λ m. m.starts) c.requires.named)
    (listed_at _ c.loop-piece.piece-index c.piece-item.result c.loop-piece-test.true c.piece-item.is))
