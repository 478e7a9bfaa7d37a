use Rattle.std.proofs.Common.{◌≡◌, take}
use Rattle.local_facts.proofs.keeping.copy_pieces.Given as goal

abbrev pub invariant-loop-piece : goal.invariant-loop-piece
invariant-loop-piece g l = l.copied.items ≡ take l.piece-index l.pieces
