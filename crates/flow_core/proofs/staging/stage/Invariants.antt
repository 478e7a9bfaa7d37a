use Rattle.std.proofs.Common.{take}
use Rattle.flow_core.specs.Staged.{IsStaged}
use Rattle.flow_core.proofs.staging.stage.Given as goal

abbrev pub invariant-loop-piece : goal.invariant-loop-piece
invariant-loop-piece g l = IsStaged g.S.Key.Ord.cmp (g.S.System.rules l.system) l.facts (take l.piece-index l.pieces) l.risen
