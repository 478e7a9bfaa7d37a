use Rattle.std.proofs.Common.{◌≡◌, ◌+◌, ◌++◌, ℕ, List, Vec, Global, length, take, drop, get_or, sym, ap, subst, ◌∙◌}
use Rattle.std.proofs.Math.Seq.{take-append_seam}
use Rattle.path_bound.specs.declared.stepping.Step.{Step}
use Rattle.path_bound.specs.Capped.{cap}
use Rattle.path_bound.specs.Places.{extra_of, costs_in}
use Rattle.path_bound.specs.Steps.{AreStepsOf}
use Rattle.path_bound.proofs.stepping.steps_of.Goals as goal

pub returns : goal.returns
returns c =
    let new : List (Vec Step Global) = c.add_extras.new.rows in
    let old : List (Vec Step Global) = c.in_ok-rows.rows.items in
    let size : c.in_ok-rows.rows.len ≡ length new =
    c.in_ok-rows.rows.ok.0 ∙ (ap (λ (x : List (Vec Step Global)). length x) (sym c.deref_mut.ensures.value) ∙ sym c.add_extras.auto.rows) in
    let list : take c.in_ok-rows.rows.len (new ++ drop (length new) old) ≡ new =
    ap (λ (k : ℕ). take k (new ++ drop (length new) old)) size ∙ take-append_seam new (drop (length new) old) in
    let plain : AreStepsOf c.args.graph.now (λ n m. cap (get_or c.args.costs.now.node.items n 0)) old =
    subst (λ (x : List ℕ). AreStepsOf c.args.graph.now (λ n m. cap (get_or x n 0)) old) c.deref.ensures.value (c.in_ok-rows.ensures {u = tt}) in
    let added : AreStepsOf c.args.graph.now (λ n m. cap (get_or c.args.costs.now.node.items n 0 + extra_of c.deref-2.result.now n m)) new =
    c.add_extras.ensures (λ n m. get_or c.args.costs.now.node.items n 0)
    (subst (λ (x : List (Vec Step Global)). AreStepsOf c.args.graph.now (λ n m. cap (get_or c.args.costs.now.node.items n 0)) x)
    (sym c.deref_mut.ensures.value) plain) in
    subst (λ (x : List (Vec Step Global)). AreStepsOf c.args.graph.now
    (λ n m. cap ((costs_in c.args.costs.now).node n + (costs_in c.args.costs.now).edge n m)) x) (sym list)
    (subst (λ (x : List (ℕ × ℕ × ℕ)). AreStepsOf c.args.graph.now (λ n m. cap (get_or c.args.costs.now.node.items n 0 + extra_of x n m)) new)
    c.deref-2.ensures.value added)
