use Rattle.std.proofs.Common.{◌≡◌, ℕ, ◌+◌, List, sym, subst, arith}
use Rattle.loop_lines.proofs.Heads.{one_more_below}
use Rattle.loop_lines.proofs.matching.all_below.Goals as goal
use Rattle.loop_lines.specs.Matched.{AreBelow}

pub loop-node-preserved : goal.loop-node-preserved
loop-node-preserved c =
    subst (λ (l : List ℕ). AreBelow (c.loop-node.node + 1) l) (sym c.in_ok-push.ensures.items)
    (one_more_below c.loop-node.node c.loop-node.nodes.items c.loop-node.invariant)

pub returns : goal.returns
returns c =
    let all : c.loop-node.node ≡ c.args.count = omega (arith, c.loop-node-test.false, c.loop-node.auto.node-end) in
    subst (λ (count : ℕ). AreBelow count c.loop-node.nodes.items) all c.loop-node.invariant
