use Rattle.std.proofs.Common.{◌∙◌}
use Rattle.abs_state.specs.Key.{compare}
use Rattle.context_bounds.specs.Setting.{setting_of}
use Rattle.context_bounds.proofs.Loops.{node_on}
use Rattle.context_bounds.proofs.nodes.node_costs.Goals as goal
use Rattle.flow_system.specs.Facts.{fact_at}

pub loop-i-preserved : goal.loop-i-preserved
loop-i-preserved c = λ pieces.
    node_on (setting_of c.args.system.now c.args.cycles.now pieces) (fact_at compare c.args.facts.now) c.args.nodes.now c.args.bounds.now
    c.loop-i.i c.place_cost.result
    c.loop-i.list.items c.push.new.self.items _ _ c.loop-i-test.true c.requires.count (c.place_cost.ensures pieces) c.in_ok-push.ensures.items
    ∙ c.loop-i.invariant pieces
