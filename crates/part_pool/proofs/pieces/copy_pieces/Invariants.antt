use Rattle.std.proofs.Common.{◌≡◌, take}
use Rattle.part_pool.specs.Pieces.{pieces_at}
use Rattle.part_pool.proofs.pieces.copy_pieces.Given as goal

abbrev pub invariant-loop-k : goal.invariant-loop-k
invariant-loop-k g l = l.pieces.items ≡ pieces_at g.S.Key.Ord.cmp l.facts (take l.k-index l.keys)
