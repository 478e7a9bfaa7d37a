use Rattle.std.proofs.Common.{◌≡◌, ℕ, true, false, Result, is_ok, sym, ap, ◌∙◌}
use Rattle.graph_laws.proofs.Rows.{found_is_there}
use Rattle.counter_bound.proofs.placing.place_in.Goals as goal

pub unreachable-requires : goal.unreachable-requires
unreachable-requires c =
    let t : is_ok c.binary_search.result ≡ true =
    found_is_there c.args.body.now c.args.node c.binary_search.result c.requires.rising c.binary_search.ensures.position ∙ c.requires.there in
    let f : is_ok c.binary_search.result ≡ false = ap (λ (r : Result ℕ ℕ). is_ok r) c.in-Err.is in
    let e : true ≡ false = sym t ∙ f in cc
