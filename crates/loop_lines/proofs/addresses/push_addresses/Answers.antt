use Rattle.std.proofs.Common.{◌<◌, ℕ, length, get_or, ap}
use Rattle.std.proofs.lemmas.List.Elements.{Contains-get_or}
use Rattle.loop_lines.proofs.Lists.{got, mapped_more}
use Rattle.loop_lines.proofs.addresses.push_addresses.Goals as goal
use Rattle.loop_lines.specs.Matched.{address_at, pc_of}

pub bounds-places-node : goal.bounds-places-node
bounds-places-node c =
    c.requires (get_or c.args.nodes.now c.loop-node.node-index 0) (Contains-get_or c.args.nodes.now c.loop-node.node-index 0 c.loop-node-test.true)

pub loop-node-preserved : goal.loop-node-preserved
loop-node-preserved c =
    let node : ℕ = get_or c.args.nodes.now c.loop-node.node-index 0 in
    let low : node < length c.args.places.now = c.requires node (Contains-get_or c.args.nodes.now c.loop-node.node-index 0 c.loop-node-test.true) in
    mapped_more (address_at c.args.places.now) c.args.nodes.now c.loop-node.node-index 0 c.args.addresses.now.items
    c.loop-node.addresses.items c.push.new.self.items _
    c.loop-node-test.true c.loop-node.invariant c.in_ok-push.ensures.items (ap pc_of (got c.args.places.now node _ low))
