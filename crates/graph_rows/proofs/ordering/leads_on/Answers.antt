use Rattle.std.proofs.Common.{◌≡◌, ◌⊎◌, ◌<◌, ℕ, List, true, subst, sym, arith}
use Rattle.bt_base.specs.Graph.{has}
use Rattle.loop_nest.proofs.Lists.{place_of}
use Rattle.graph_rows.proofs.ordering.leads_on.Goals as goal

pub returns : goal.returns
returns c = λ _ m e.
    let p = place_of c.next-next-items.result.now m (subst (λ (row : List ℕ). has row m ≡ true) (sym c.next-next-items.ensures.row) e) in
    subst (λ (k : ℕ). (k ≡ 0) ⊎ (c.args.node < k)) p.is (c.loop-next.invariant p.at (omega (arith, p.within, c.loop-next-test.false)))
