use Rattle.std.proofs.Common.{◌||◌, Bool, get_or, sym, ap, ◌∙◌}
use Rattle.counter_bound.specs.Body.{is_marked}
use Rattle.turn_sums.proofs.Lists.{has_take_all, or_none}
use Rattle.counter_bound.proofs.marking.mark_all.Goals as goal

pub loop-node-init : goal.loop-node-init
loop-node-init c = λ i l. sym (or_none (is_marked c.args.marks.now i))

pub returns : goal.returns
returns c = λ i l. c.loop-node.invariant i l
    ∙ ap (λ (b : Bool). is_marked c.args.marks.now i || b) (has_take_all c.args.nodes.now c.loop-node.node-index (get_or c.args.body.now i 0) c.loop-node-test.false)
