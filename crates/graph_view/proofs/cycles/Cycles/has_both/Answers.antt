use Rattle.std.proofs.Common.{◌≡◌, ◌↔◌, true, ℕ, Bool, List, Option, is_some, sym, subst}
use Rattle.graph_view.proofs.Rounds.{name_tells}
use Rattle.graph_view.proofs.cycles.Cycles.has_both.Goals as goal
use Rattle.graph_view.specs.Cycles.{AreInOne}

pub returns : goal.returns
returns c =
    let found : (is_some c.cycle_round.result ≡ true) ↔ AreInOne c.args.subs.now c.deref.result.now c.args.caller c.args.callee =
    name_tells c.args.subs.now c.deref.result.now c.args.caller c.args.callee c.cycle_round.result c.cycle_round.ensures.is c.cycle_round.ensures.all in
    subst (λ (l : List (Option ℕ)). (c.is_some.result ≡ true) ↔ AreInOne c.args.subs.now l c.args.caller c.args.callee) c.deref.ensures.value
    (subst (λ (b : Bool). (b ≡ true) ↔ AreInOne c.args.subs.now c.deref.result.now c.args.caller c.args.callee) (sym c.is_some.ensures) found)
