use Rattle.std.proofs.Common.{◌≡◌, map}
use Rattle.std.specs.List.{range_with_len}
use Rattle.value_lattice.specs.Order.{word_at}
use Rattle.value_lattice.proofs.covering.words_between.Given as goal

abbrev pub invariant-loop-i : goal.invariant-loop-i
invariant-loop-i l = l.words.items ≡ map word_at (range_with_len l.low l.i)
