use Rattle.flow_system.specs.Facts.{fact_at}
use Rattle.flow_core.proofs.WritingLemmas.{gather_more}
use Rattle.part_pool.specs.Pieces.{piece_of}
use Rattle.part_pool.proofs.pieces.copy_pieces.Goals as goal

pub loop-k-preserved : goal.loop-k-preserved
loop-k-preserved g c = gather_more (λ k. piece_of k (fact_at g.S.Key.Ord.cmp c.args.facts.now k)) c.args.keys.now c.loop-k.k-index c.k-item.result
    c.loop-k.pieces.items c.copy_piece.new.pieces.items c.loop-k-test.true c.k-item.is c.loop-k.invariant c.in_ok-copy_piece.ensures
