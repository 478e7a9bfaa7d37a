use Rattle.std.proofs.Common.{◌≡◌, ◌<◌, ◌++◌, ◌∙◌, ℕ, List, length, map, Contains, subst, arith}
use Rattle.std.specs.List.Sorted.{IsStrictlySortedBy}
use Rattle.std.proofs.lemmas.Result.{on_ok_weaker}
use Rattle.abs_state.specs.declared.key.Place.{Place}
use Rattle.graph_view.specs.Numbers.{IsNumber, place_cmp}
use Rattle.graph_view.specs.View.{nodes_of}
use Rattle.loop_lines.proofs.Gathered.{adds_matched}
use Rattle.loop_lines.proofs.addresses.push_matched.Goals as goal
use Rattle.loop_lines.specs.Matched.{AreMatching, address_at}
use Rattle.transfer_rules.specs.Give.{entry_of}

pub push_addresses-requires : goal.push_addresses-requires
push_addresses-requires c = λ n has.
    let are : AreMatching c.graph-graph.result.now c.entry_node-entry.result c.in_ok-nodes.nodes.items = c.in_ok-nodes.ensures in
    let low : n < length c.graph-graph.result.now = are.within n (subst (λ (l : List ℕ). Contains l n) c.deref.ensures.value has) in
    let count : length c.graph-graph.result.now ≡ length (nodes_of c.args.view.now c.args.sub) = c.graph-graph.ensures.count in
    let same : length c.nodes-places.result.now ≡ length (nodes_of c.args.view.now c.args.sub) = (λ i. length (c.nodes-places.ensures.nodes i)) in
    omega (arith, low, count, same)

pub returns : goal.returns
returns c =
    let are : AreMatching c.graph-graph.result.now c.entry_node-entry.result c.in_ok-nodes.nodes.items = c.in_ok-nodes.ensures in
    on_ok_weaker c.push_addresses.result
    (λ same.
    adds_matched c.args.view.now c.args.sub c.graph-graph.result.now c.entry_node-entry.result c.in_ok-nodes.nodes.items
    (subst (IsStrictlySortedBy place_cmp) c.nodes-places.ensures.nodes c.nodes-places.ensures.rise) c.count.ensures.graph c.graph-graph.ensures
    (subst (λ (l : List Place). IsNumber l (entry_of c.args.sub) c.entry_node-entry.result) c.nodes-places.ensures.nodes c.entry_node-entry.ensures) are
    c.args.addresses.now.items c.push_addresses.new.addresses.items
    (same ∙ (λ i. c.args.addresses.now.items ++ map (address_at (c.nodes-places.ensures.nodes i)) (c.deref.ensures.value i))))
    c.push_addresses.ensures
