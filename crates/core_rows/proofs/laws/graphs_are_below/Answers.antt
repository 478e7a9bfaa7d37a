use Rattle.core_rows.proofs.Instances.{same_rings}
use Rattle.core_rows.proofs.laws.graphs_are_below.Goals as goal

pub returns : goal.returns
returns c = λ s t small great. c.finer_is_below.ensures.below
    (same_rings c.args.one.now.last c.args.one.now.second c.args.other.now.last c.args.other.now.second c.requires.last c.requires.second) s t small great
