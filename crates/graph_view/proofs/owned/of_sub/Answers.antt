use Rattle.graph_view.proofs.Ranges.{piece_is, none_is}
use Rattle.graph_view.proofs.owned.of_sub.Goals as goal

pub returns-then-low-high : goal.returns-then-low-high
returns-then-low-high g c =
    piece_is g.T.OfSub.owner c.args.sub c.args.list.now c.below-low.result c.up_to-high.result c.below-low.ensures.before
    c.below-low.ensures.behind c.up_to-high.ensures.before c.up_to-high.ensures.behind c.if-low-high.true c.up_to-high.ensures.within

pub returns : goal.returns
returns g c =
    none_is g.T.OfSub.owner c.args.sub c.args.list.now c.below-low.result c.up_to-high.result c.below-low.ensures.before
    c.below-low.ensures.behind c.up_to-high.ensures.before c.up_to-high.ensures.behind c.if-low-high.false
