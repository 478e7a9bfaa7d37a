use Rattle.bt_base.specs.Graph.{is_edge}
use Rattle.turn_sums.specs.Search.{steps_of}
use Rattle.graph_rows.proofs.Leading.{none_round}
use Rattle.graph_rows.proofs.asking.ask_step.Goals as goal

pub turn_step-requires-clause-balanced : goal.turn_step-requires-clause-balanced
turn_step-requires-clause-balanced c =
    none_round (is_edge c.args.graph.now) (steps_of c.args.ups.now c.args.downs.now) (c.all_lead_on.ensures c.if-not-all_lead_on.false)
