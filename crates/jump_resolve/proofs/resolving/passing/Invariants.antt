use Rattle.std.proofs.Common.{◌≡◌, take}
use Rattle.std.specs.Prelude.{filter}
use Rattle.jump_resolve.specs.Target.{may_go}
use Rattle.jump_resolve.proofs.resolving.passing.Given as goal

abbrev pub invariant-loop-a : goal.invariant-loop-a
invariant-loop-a l = l.list.items ≡ filter (may_go l.image l.v) (take l.a-index l.candidates)
