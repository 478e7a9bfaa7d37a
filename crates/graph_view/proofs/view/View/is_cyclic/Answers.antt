use Rattle.std.proofs.Common.{◌≡◌, ◌<◌, ◌^◌, ◌↔◌, true, ℕ, List, length, vec_len, sym, subst, ◌∙◌, arith}
use Rattle.std.specs.List.Sorted.{IsStrictlyIncreasing}
use Rattle.graph_laws.specs.Nest.{SamePart}
use Rattle.graph_view.proofs.view.View.is_cyclic.Goals as goal
use Rattle.graph_view.specs.Cycles.{AreInOne}
use Rattle.graph_view.specs.Need.{calls_of}
use Rattle.graph_view.specs.View.{ByKind}

pub has_both-requires-clause-rising : goal.has_both-requires-clause-rising
has_both-requires-clause-rising c = subst IsStrictlyIncreasing (sym c.deref.ensures.value) c.self.invariant.subs.rising

pub has_both-requires-clause-counted : goal.has_both-requires-clause-counted
has_both-requires-clause-counted c = subst (λ (l : List ℕ). length l < 2 ^ 32) (sym c.deref.ensures.value) c.self.invariant.counted.counted

pub has_both-requires-clause-count : goal.has_both-requires-clause-count
has_both-requires-clause-count c =
    let subs : length c.deref.result.now ≡ length c.self.inside.subs.items = (λ i. length (c.deref.ensures.value i)) in
    omega (arith, subs, c.self.invariant.cycles.count, c.self.inside.cycles.names.ok.0)

pub returns : goal.returns
returns c =
    let found : (c.has_both.result ≡ true) ↔ AreInOne c.self.inside.subs.items c.self.inside.cycles.names.items c.args.caller c.args.callee =
    subst (λ (l : List ℕ). (c.has_both.result ≡ true) ↔ AreInOne l c.self.inside.cycles.names.items c.args.caller c.args.callee) c.deref.ensures.value c.has_both.ensures in
    let one : AreInOne c.self.inside.subs.items c.self.inside.cycles.names.items c.args.caller c.args.callee
    ↔ SamePart (calls_of c.self.inside.lists.callings.items) c.args.caller c.args.callee = c.self.invariant.cycles.one c.args.caller c.args.callee in
    subst (λ (v : ByKind). (c.has_both.result ≡ true) ↔ SamePart (calls_of v.callings) c.args.caller c.args.callee) c.self.view_is
    (λ h. one.0 (found.0 h), λ h. found.1 (one.1 h))
