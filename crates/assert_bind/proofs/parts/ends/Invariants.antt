use Rattle.std.proofs.Common.{◌≡◌, take}
use Rattle.assert_bind.specs.Binding.{ends}
use Rattle.assert_bind.proofs.parts.ends.Given as goal

-- what the assertions so far give
abbrev pub invariant-loop-assertion : goal.invariant-loop-assertion
invariant-loop-assertion l = l.numbers.items ≡ ends (take l.assertion-index l.list)
