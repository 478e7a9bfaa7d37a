use Rattle.bt_image.specs.Names.{AreNames}
use Rattle.bt_image.proofs.names.names.Given as goal

-- the names of the functions among the symbols so far
abbrev pub invariant-loop-k : goal.invariant-loop-k
invariant-loop-k l = AreNames l.file l.strings l.k l.names
