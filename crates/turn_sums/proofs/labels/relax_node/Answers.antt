use Rattle.std.proofs.Common.{◌≡◌, ℕ, List, true, sym, subst}
use Rattle.bt_base.specs.Graph.{has, is_edge}
use Rattle.turn_sums.specs.Search.{steps_of}
use Rattle.turn_sums.proofs.Settled.{lowered_answers, lowered_found}
use Rattle.turn_sums.proofs.labels.relax_node.Goals as goal

pub returns-in-Some-clause-found : goal.returns-in-Some-clause-found
returns-in-Some-clause-found c =
    lowered_found (is_edge c.args.graph.now) c.args.head (steps_of c.args.ups.now c.args.downs.now) c.next.result.now c.args.node c.in-Some.sum
    c.behind-behind.result c.args.labels.now c.lower_all.new.labels c.requires.found
    (λ m h. subst (λ (row : List ℕ). has row m ≡ true) c.next.ensures.row h) c.in-Some.is c.behind-behind.ensures.sum c.lower_all.ensures.labels

pub returns-in-Some-clause-answered : goal.returns-in-Some-clause-answered
returns-in-Some-clause-answered c =
    lowered_answers (is_edge c.args.graph.now) c.args.head (steps_of c.args.ups.now c.args.downs.now) c.next.result.now c.in-Some.sum
    c.behind-behind.result c.args.labels.now c.lower_all.new.labels c.args.node
    (λ m h. subst (λ (row : List ℕ). has row m ≡ true) (sym c.next.ensures.row) h) c.in-Some.is c.behind-behind.ensures.sum c.lower_all.ensures.labels
