use Rattle.std.proofs.Common.{arith, ◌+◌}
use Rattle.std.proofs.lemmas.List.FromFn.{map-range_with_len_more}
use Rattle.value_lattice.specs.Order.{word_at}
use Rattle.value_lattice.proofs.covering.words_between.Goals as goal

pub loop-i-preserved : goal.loop-i-preserved
loop-i-preserved c = rw
    (map-range_with_len_more word_at c.args.low c.loop-i.i (c.args.low + c.loop-i.i) (omega arith), ← c.loop-i.invariant, ← c.word_at_place.ensures)
    c.in_ok-push.ensures.items
