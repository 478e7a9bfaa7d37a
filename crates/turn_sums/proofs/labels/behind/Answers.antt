use Rattle.std.proofs.Common.{◌≡◌, ◌<◌, ◌≤◌, ◌+◌, ◌^◌, length, get_or, arith}
use Rattle.bt_base.specs.Graph.{is_edge}
use Rattle.turn_sums.specs.Search.{steps_of, base}
use Rattle.turn_sums.proofs.Settled.{near_base}
use Rattle.turn_sums.proofs.labels.behind.Goals as goal

pub overflow_add-result : goal.overflow_add-result
overflow_add-result c =
    let near : (c.args.sum ≤ base + 2 ^ 64) × (base ≤ c.args.sum + 2 ^ 64) =
    near_base (is_edge c.args.graph.now) c.args.head (steps_of c.args.ups.now c.args.downs.now)
    (length c.args.graph.now) c.count-count.ensures.graph.within c.requires.balanced c.args.labels.now c.requires.found c.count-count.ensures.graph.counted
    (λ n. omega (arith, c.type_inv.ups n)) (λ n. omega (arith, c.type_inv.downs n)) c.args.node c.args.sum c.requires.label in
    let up : get_or c.args.ups.now c.args.node 0 < 2 ^ 32 = omega (arith, c.type_inv.ups c.args.node) in
    let is : c.from.result ≡ get_or c.args.ups.now c.args.node 0 = c.from.ensures in
    omega (arith, near, up, is)

pub overflow_sub-result : goal.overflow_sub-result
overflow_sub-result c =
    let near : (c.args.sum ≤ base + 2 ^ 64) × (base ≤ c.args.sum + 2 ^ 64) =
    near_base (is_edge c.args.graph.now) c.args.head (steps_of c.args.ups.now c.args.downs.now)
    (length c.args.graph.now) c.count-count.ensures.graph.within c.requires.balanced c.args.labels.now c.requires.found c.count-count.ensures.graph.counted
    (λ n. omega (arith, c.type_inv.ups n)) (λ n. omega (arith, c.type_inv.downs n)) c.args.node c.args.sum c.requires.label in
    let down : get_or c.args.downs.now c.args.node 0 < 2 ^ 32 = omega (arith, c.type_inv.downs c.args.node) in
    let is : c.from-2.result ≡ get_or c.args.downs.now c.args.node 0 = c.from-2.ensures in
    omega (arith, near, down, is)

pub returns-clause-sum : goal.returns-clause-sum
returns-clause-sum c =
    let near : (c.args.sum ≤ base + 2 ^ 64) × (base ≤ c.args.sum + 2 ^ 64) =
    near_base (is_edge c.args.graph.now) c.args.head (steps_of c.args.ups.now c.args.downs.now)
    (length c.args.graph.now) c.count-count.ensures.graph.within c.requires.balanced c.args.labels.now c.requires.found c.count-count.ensures.graph.counted
    (λ n. omega (arith, c.type_inv.ups n)) (λ n. omega (arith, c.type_inv.downs n)) c.args.node c.args.sum c.requires.label in
    let up : c.from.result ≡ get_or c.args.ups.now c.args.node 0 = c.from.ensures in
    let down : c.from-2.result ≡ get_or c.args.downs.now c.args.node 0 = c.from-2.ensures in
    let below : get_or c.args.downs.now c.args.node 0 < 2 ^ 32 = omega (arith, c.type_inv.downs c.args.node) in
    omega (arith, near, up, down, below)
