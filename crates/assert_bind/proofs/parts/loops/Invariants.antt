use Rattle.std.proofs.Common.{◌≡◌, take}
use Rattle.assert_bind.specs.Binding.{loops}
use Rattle.assert_bind.proofs.parts.loops.Given as goal

-- what the assertions so far give
abbrev pub invariant-loop-assertion : goal.invariant-loop-assertion
invariant-loop-assertion l = l.lines.items ≡ loops (take l.assertion-index l.list)
