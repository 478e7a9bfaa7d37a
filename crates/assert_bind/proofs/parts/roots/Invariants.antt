use Rattle.std.proofs.Common.{◌≡◌, take}
use Rattle.assert_bind.specs.Binding.{roots}
use Rattle.assert_bind.proofs.parts.roots.Given as goal

-- what the assertions so far give
abbrev pub invariant-loop-assertion : goal.invariant-loop-assertion
invariant-loop-assertion l = l.entries.items ≡ roots (take l.assertion-index l.list)
