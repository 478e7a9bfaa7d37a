use Rattle.std.proofs.Common.{◌≡◌, ◌<◌, ℕ, List, [], true, length, get_or, set, ap, sym, subst, arith}
use Rattle.loop_nest.proofs.Turned.{edge_at}
use Rattle.graph_rows.specs.Reaching.{AreMarksOfReached}
use Rattle.graph_rows.proofs.Reached.{marks_on}
use Rattle.graph_rows.proofs.reaching.mark_next.Goals as goal

pub bounds-marks-next : goal.bounds-marks-next
bounds-marks-next c =
    let l : c.loop-next.next-index < length (get_or c.args.graph.now c.args.node []) = subst (λ (x : List ℕ). c.loop-next.next-index < length x) c.next-next-items.ensures.row c.loop-next-test.true in
    let w : get_or (get_or c.args.graph.now c.args.node []) c.loop-next.next-index 0 < length c.args.graph.now =
    c.next-next-items.ensures.graph.within c.args.node (get_or (get_or c.args.graph.now c.args.node []) c.loop-next.next-index 0) (edge_at c.args.graph.now c.args.node c.loop-next.next-index l) in
    let e : get_or c.next-next-items.result.now c.loop-next.next-index 0 ≡ get_or (get_or c.args.graph.now c.args.node []) c.loop-next.next-index 0 = ap (λ (x : List ℕ). get_or x c.loop-next.next-index 0) c.next-next-items.ensures.row in
    omega (arith, w, e, c.requires.count, c.loop-next.auto.marks)

pub loop-next-preserved : goal.loop-next-preserved
loop-next-preserved c =
    let l : c.loop-next.next-index < length (get_or c.args.graph.now c.args.node []) = subst (λ (x : List ℕ). c.loop-next.next-index < length x) c.next-next-items.ensures.row c.loop-next-test.true in
    let e : get_or c.next-next-items.result.now c.loop-next.next-index 0 ≡ get_or (get_or c.args.graph.now c.args.node []) c.loop-next.next-index 0 = ap (λ (x : List ℕ). get_or x c.loop-next.next-index 0) c.next-next-items.ensures.row in
    subst (λ (x : ℕ). AreMarksOfReached c.args.graph.now (set c.loop-next.marks x true)) (sym e)
    (marks_on c.args.graph.now c.loop-next.marks c.args.node c.loop-next.next-index c.requires.reached l c.loop-next.invariant)
