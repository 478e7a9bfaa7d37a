use Rattle.std.proofs.Common.{◌≡◌, ◌+◌, true, sym, subst}
use Rattle.bt_base.specs.Graph.{is_edge}
use Rattle.turn_sums.specs.Label.{least_of}
use Rattle.turn_sums.specs.Search.{steps_of, IsLeastSoFar}
use Rattle.turn_sums.proofs.TurnSums.{least_more}
use Rattle.turn_sums.proofs.labels.with_turn.Goals as goal

pub returns-in-Some : goal.returns-in-Some
returns-in-Some c =
    let leads : is_edge c.args.graph.now c.args.node c.args.head ≡ true = cc in
    let more : IsLeastSoFar (is_edge c.args.graph.now) c.args.head (steps_of c.args.ups.now c.args.downs.now) c.args.labels.now (c.args.node + 1)
    (least_of c.args.best c.behind.result) =
    least_more (is_edge c.args.graph.now) c.args.head
    (steps_of c.args.ups.now c.args.downs.now) c.args.labels.now c.requires.found c.args.node c.in-Some.sum c.behind.result c.args.best
    c.requires.best leads c.in-Some.is c.behind.ensures.sum in
    subst (IsLeastSoFar (is_edge c.args.graph.now) c.args.head (steps_of c.args.ups.now c.args.downs.now) c.args.labels.now (c.args.node + 1))
    (sym c.least.ensures) more
