use Rattle.std.proofs.Common.{◌≡◌, ◌<◌, ◌^◌, List, length, ap, sym, subst, ◌∙◌}
use Rattle.std.specs.List.Sorted.{IsNonDecreasingBy, IsStrictlySortedBy}
use Rattle.abs_state.specs.declared.key.Place.{Place}
use Rattle.graph_view.proofs.Keyed.{nodes_few, nodes_rise}
use Rattle.graph_view.proofs.view.View.nodes.Goals as goal
use Rattle.graph_view.specs.Details.{shown}
use Rattle.graph_view.specs.Numbers.{place_cmp}
use Rattle.graph_view.specs.Subs.{of_one, place_sub}
use Rattle.graph_view.specs.View.{ByKind, nodes_of}

pub of_sub-requires : goal.of_sub-requires
of_sub-requires c = subst (IsNonDecreasingBy place_sub) (sym c.deref.ensures.value) c.self.invariant.ready.places

pub returns-clause-nodes : goal.returns-clause-nodes
returns-clause-nodes c =
    c.of_sub.ensures ∙ ap (λ (l : List Place). of_one place_sub c.args.sub l) c.deref.ensures.value ∙ ap (λ (v : ByKind). nodes_of v c.args.sub) c.self.view_is

pub returns-clause-rise : goal.returns-clause-rise
returns-clause-rise c =
    let e : c.of_sub.result.now ≡ nodes_of (shown c.self.inside.lists) c.args.sub = c.of_sub.ensures ∙ ap (λ (l : List Place). of_one place_sub c.args.sub l) c.deref.ensures.value in
    subst (IsStrictlySortedBy place_cmp) (sym e) (nodes_rise (shown c.self.inside.lists) c.self.invariant.ready c.args.sub)

pub returns-clause-few : goal.returns-clause-few
returns-clause-few c =
    let e : c.of_sub.result.now ≡ nodes_of (shown c.self.inside.lists) c.args.sub = c.of_sub.ensures ∙ ap (λ (l : List Place). of_one place_sub c.args.sub l) c.deref.ensures.value in
    subst (λ (l : List Place). length l < 2 ^ 32) (sym e) (nodes_few (shown c.self.inside.lists) c.self.invariant.ready c.args.sub)
