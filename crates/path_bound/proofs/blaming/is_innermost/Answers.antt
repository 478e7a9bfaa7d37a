use Rattle.std.proofs.Common.{ℕ, List, get_or, sym, ap, ◌∙◌}
use Rattle.bt_base.specs.Graph.{has}
use Rattle.loop_nest.proofs.Lists.{has_at}
use Rattle.path_bound.proofs.blaming.is_innermost.Goals as goal

pub bounds-large-node : goal.bounds-large-node
bounds-large-node c =
    c.requires.nodes (get_or c.deref-node-items.result.now c.loop-node.node-index 0)
    (ap (λ (l : List ℕ). has l (get_or c.deref-node-items.result.now c.loop-node.node-index 0)) (sym c.deref-node-items.ensures.value)
    ∙ has_at c.deref-node-items.result.now c.loop-node.node-index c.loop-node-test.true)
