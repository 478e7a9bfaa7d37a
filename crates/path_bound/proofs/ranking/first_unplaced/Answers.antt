use Rattle.std.proofs.Common.{◌≡◌, ℕ, true, List, sym, ap, subst, ◌∙◌, arith}
use Rattle.bt_base.specs.Graph.{has, is_edge}
use Rattle.loop_nest.proofs.Lists.{IsPlace, place_of}
use Rattle.path_bound.specs.Places.{loops_in}
use Rattle.path_bound.specs.Ranking.{IsUnplaced}
use Rattle.path_bound.proofs.ranking.first_unplaced.Goals as goal

pub returns-clause-cases : goal.returns-clause-cases
returns-clause-cases c = λ m u.
    let h : has c.next-next-items.result.now m ≡ true = ap (λ (l : List ℕ). has l m) c.next-next-items.ensures.row ∙ u.leads in
    let p : IsPlace c.next-next-items.result.now m = place_of c.next-next-items.result.now m h in
    c.loop-next.invariant p.at (omega (arith, p.within, c.loop-next-test.false))
    (subst (λ (x : ℕ). IsUnplaced (is_edge c.args.graph.now) (loops_in c.args.loops.now) c.args.placed.now c.args.node x) (sym p.is) u)
