use Rattle.std.proofs.Common.{sym, ap, subst, ◌∙◌}
use Rattle.std.specs.List.Sorted.{IsStrictlyIncreasing}
use Rattle.bt_base.specs.Graph.{has}
use Rattle.graph_laws.proofs.Rows.{found_is_there}
use Rattle.graph_laws.proofs.walking.has_edge.Goals as goal

pub returns-clause-edge : goal.returns-clause-edge
returns-clause-edge c =
    c.is_ok.ensures.value
    ∙ found_is_there c.next.result.now c.args.to c.binary_search.result
    (subst IsStrictlyIncreasing (sym c.next.ensures.row) (c.next.ensures.graph.rising c.args.from)) c.binary_search.ensures.position
    ∙ ap (λ l. has l c.args.to) c.next.ensures.row

pub returns-clause-within : goal.returns-clause-within
returns-clause-within c = λ t. c.next.ensures.graph.within c.args.from c.args.to (sym (returns-clause-edge c) ∙ t)
