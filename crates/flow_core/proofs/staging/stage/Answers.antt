use Rattle.std.proofs.Common.{[], subst, sym}
use Rattle.flow_system.specs.Facts.{KeysRise}
use Rattle.flow_core.specs.Staged.{IsStaged}
use Rattle.flow_core.proofs.JoinLemmas.{stage_nothing}
use Rattle.flow_core.proofs.StagingLemmas.{stage_more, listed_at}
use Rattle.flow_core.proofs.staging.stage.Goals as goal

pub loop-piece-init : goal.loop-piece-init
loop-piece-init g c =
    let cmp = g.S.Key.Ord.cmp in
    let m = g.S.System.rules c.args.system.now in
    subst (λ risen. IsStaged cmp m c.args.facts.now [] risen) (sym c.empty-risen.ensures.none)
    (stage_nothing cmp m (g.met.S.System.lawful c.args.system.now) c.args.facts.now c.requires.facts_fit
    (subst (λ risen. KeysRise cmp risen) c.empty-risen.ensures.none c.empty-risen.ensures.rise))

pub stage_piece-requires : goal.stage_piece-requires
stage_piece-requires g c = record {
  facts_fit = c.requires.facts_fit;
  risen_fit = c.loop-piece.invariant.joined.fit;
  piece_fits = c.requires.pieces_fit c.piece-item.result.0 c.piece-item.result.1
      (listed_at c.args.pieces.now c.loop-piece.piece-index c.piece-item.result c.loop-piece-test.true c.piece-item.is);
}

pub loop-piece-preserved : goal.loop-piece-preserved
loop-piece-preserved g c =
    stage_more g.S.Key.Ord.cmp (g.S.System.rules c.args.system.now) (g.met.S.System.lawful c.args.system.now) c.args.facts.now c.args.pieces.now
    c.loop-piece.risen c.stage_piece.new.risen c.loop-piece.piece-index c.piece-item.result c.loop-piece-test.true c.piece-item.is c.requires.pieces_fit
    c.in_ok-stage_piece.ensures.staged c.loop-piece.invariant
