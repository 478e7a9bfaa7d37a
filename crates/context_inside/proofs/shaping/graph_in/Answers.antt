use Rattle.std.proofs.Common.{◌≡◌, ◌<◌, ◌^◌, List, length, rules, subst, sym, ◌∙◌}
use Rattle.std.specs.List.Sorted.{IsStrictlySortedBy}
use Rattle.std.specs.Map.{keys_of}
use Rattle.abs_state.specs.declared.key.Key.{Key}
use Rattle.abs_state.specs.declared.key.Place.{Place}
use Rattle.context_inside.proofs.shaping.graph_in.Goals as goal
use Rattle.graph_view.proofs.Keyed.{nodes_few, nodes_rise, ready_from}
use Rattle.graph_view.specs.Details.{AreReady, shown}
use Rattle.graph_view.specs.Lists.{AreOfKeys}
use Rattle.graph_view.specs.Numbers.{place_cmp}
use Rattle.graph_view.specs.View.{nodes_of}

pub graph_of-requires-clause-rise : goal.graph_of-requires-clause-rise
graph_of-requires-clause-rise c =
    let are : AreOfKeys (keys_of c.args.facts.now) c.in_ok-lists.lists =
    subst (λ (ks : List Key). AreOfKeys ks c.in_ok-lists.lists) (c.deref.ensures.value ∙ c.in_ok-keys.ensures.keys) c.in_ok-lists.ensures.keys in
    let ready : AreReady (shown c.in_ok-lists.lists) = ready_from (keys_of c.args.facts.now) c.in_ok-lists.lists c.requires are c.in_ok-lists.ensures.owned in
    let points : c.of_sub-points.result.now ≡ nodes_of (shown c.in_ok-lists.lists) c.args.sub = search rules in
    subst (IsStrictlySortedBy place_cmp) (sym points) (nodes_rise (shown c.in_ok-lists.lists) ready c.args.sub)

pub graph_of-requires-clause-small : goal.graph_of-requires-clause-small
graph_of-requires-clause-small c =
    let are : AreOfKeys (keys_of c.args.facts.now) c.in_ok-lists.lists =
    subst (λ (ks : List Key). AreOfKeys ks c.in_ok-lists.lists) (c.deref.ensures.value ∙ c.in_ok-keys.ensures.keys) c.in_ok-lists.ensures.keys in
    let ready : AreReady (shown c.in_ok-lists.lists) = ready_from (keys_of c.args.facts.now) c.in_ok-lists.lists c.requires are c.in_ok-lists.ensures.owned in
    let points : c.of_sub-points.result.now ≡ nodes_of (shown c.in_ok-lists.lists) c.args.sub = search rules in
    subst (λ (ps : List Place). length ps < 2 ^ 32) (sym points) (nodes_few (shown c.in_ok-lists.lists) ready c.args.sub)

pub returns-clause-rise : goal.returns-clause-rise
returns-clause-rise c =
    let are : AreOfKeys (keys_of c.args.facts.now) c.in_ok-lists.lists =
    subst (λ (ks : List Key). AreOfKeys ks c.in_ok-lists.lists) (c.deref.ensures.value ∙ c.in_ok-keys.ensures.keys) c.in_ok-lists.ensures.keys in
    let ready : AreReady (shown c.in_ok-lists.lists) = ready_from (keys_of c.args.facts.now) c.in_ok-lists.lists c.requires are c.in_ok-lists.ensures.owned in
    let points : c.of_sub-points.result.now ≡ nodes_of (shown c.in_ok-lists.lists) c.args.sub = search rules in
    subst (IsStrictlySortedBy place_cmp) (sym (c.in_ok-nodes.ensures.items ∙ points)) (nodes_rise (shown c.in_ok-lists.lists) ready c.args.sub)
