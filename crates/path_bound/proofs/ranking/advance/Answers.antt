use Rattle.std.proofs.Common.{◌<◌, ◌++◌, ◌∷◌, [], ℕ, Bool, List, length, ap, subst, ◌∙◌, arith}
use Rattle.bt_base.specs.Graph.{is_edge}
use Rattle.path_bound.specs.Places.{loops_in}
use Rattle.path_bound.specs.Ranking.{IsUnplaced}
use Rattle.path_bound.proofs.Rankings.{waited_on, waits_read}
use Rattle.path_bound.proofs.ranking.advance.Goals as goal

pub returns-in_ok-push-in-Some-clause-ranking : goal.returns-in_ok-push-in-Some-clause-ranking
returns-in_ok-push-in-Some-clause-ranking c = λ inside done pending more all here is.
    let l : c.in-Some.next < length c.args.ranking.now.waiting.items = omega (arith, c.in-Some.ensures.within, c.requires.waiting) in
    waited_on (is_edge c.args.graph.now) (loops_in c.args.loops.now)
    (length c.args.graph.now) inside done pending more c.args.node all here c.args.order.now.items c.args.ranking.now.placed.items
    c.args.ranking.now.waiting.items is c.in-Some.next c.push-in-Some.new.self l
    (subst (λ (p : List Bool). IsUnplaced (is_edge c.args.graph.now) (loops_in c.args.loops.now) p c.args.node c.in-Some.next) c.deref.ensures.value
    c.in-Some.ensures.cases)
    ((c.in_ok-push-in-Some.ensures {u = tt}).items
    ∙ ap (λ (x : List ℕ). x ++ c.args.node ∷ [])
    (waits_read c.args.ranking.now.waiting.items c.in-Some.next c.index_mut-in-Some.result.now l c.index_mut-in-Some.ensures.value))
