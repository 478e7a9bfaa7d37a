use Rattle.std.proofs.Common.{true, false}
use Rattle.value_lattice.proofs.SetLemmas.{place_of_below}
use Rattle.value_lattice.specs.Order.{place_of}
use Rattle.value_refine.specs.Comparison.{by_place, by_word}
use Rattle.value_refine.specs.declared.comparison.Relation.TheVariants.{LessOrEqual, Less, LessOrEqualUnsigned, LessUnsigned}
use Rattle.value_refine.proofs.ReachLemmas.{iff_trans, ordered_by_ends, reached_as, reached_unless, reached_less, reached_less_or_equal}
use Rattle.value_refine.proofs.ReachLemmas.{reached_less_unsigned, reached_less_or_equal_unsigned}
use Rattle.value_refine.proofs.refining.region_of.Goals as goal

pub returns-else-c : goal.returns-else-c
returns-else-c c = λ w word. (λ inside. reached_unless c.args.c c.args.right.now w c.in-Never.is c.if-c.false c.requires.value, λ reached. c.all.ensures w word)

pub returns-in-LessOrEqual : goal.returns-in-LessOrEqual
returns-in-LessOrEqual c = λ w word.
    let v = c.args.right.now in
    let holds = c.args.c.holds in
    iff_trans (iff_trans (c.of_places-in-LessOrEqual.ensures w word) (c.ordered.ensures (place_of w) (place_of_below w)))
    (iff_trans (ordered_by_ends by_place false holds v c.place_ends.result w c.place_ends.ensures.by)
    (iff_trans (reached_less_or_equal holds v w) (reached_as c.args.c LessOrEqual v w c.in-LessOrEqual.is)))

pub returns-in-Less : goal.returns-in-Less
returns-in-Less c = λ w word.
    let v = c.args.right.now in
    let holds = c.args.c.holds in
    iff_trans (iff_trans (c.of_places-in-Less.ensures w word) (c.ordered-in-Less.ensures (place_of w) (place_of_below w)))
    (iff_trans (ordered_by_ends by_place true holds v c.place_ends-in-Less.result w c.place_ends-in-Less.ensures.by)
    (iff_trans (reached_less holds v w) (reached_as c.args.c Less v w c.in-Less.is)))

pub returns-in-LessOrEqualUnsigned : goal.returns-in-LessOrEqualUnsigned
returns-in-LessOrEqualUnsigned c = λ w word.
    let v = c.args.right.now in
    let holds = c.args.c.holds in
    iff_trans (iff_trans (c.of_words.ensures w word) (c.ordered-in-LessOrEqualUnsigned.ensures w word))
    (iff_trans (ordered_by_ends by_word false holds v c.word_ends.result w c.word_ends.ensures)
    (iff_trans (reached_less_or_equal_unsigned holds v w) (reached_as c.args.c LessOrEqualUnsigned v w c.in-LessOrEqualUnsigned.is)))

pub returns-in-LessUnsigned : goal.returns-in-LessUnsigned
returns-in-LessUnsigned c = λ w word.
    let v = c.args.right.now in
    let holds = c.args.c.holds in
    iff_trans (iff_trans (c.of_words-in-LessUnsigned.ensures w word) (c.ordered-in-LessUnsigned.ensures w word))
    (iff_trans (ordered_by_ends by_word true holds v c.word_ends-in-LessUnsigned.result w c.word_ends-in-LessUnsigned.ensures)
    (iff_trans (reached_less_unsigned holds v w) (reached_as c.args.c LessUnsigned v w c.in-LessUnsigned.is)))
