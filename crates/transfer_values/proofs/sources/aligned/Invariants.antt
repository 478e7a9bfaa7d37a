use Rattle.std.proofs.Common.{◌≡◌, take}
use Rattle.std.specs.Prelude.{filter}
use Rattle.transfer_values.specs.Source.{is_aligned}
use Rattle.transfer_values.proofs.sources.aligned.Given as goal

abbrev pub invariant-loop-a : goal.invariant-loop-a
invariant-loop-a l = l.kept.items ≡ filter is_aligned (take l.a-index l.addresses)
