use Rattle.std.proofs.Common.{◌≡◌, ◌<◌, ◌^◌, List, length, map, rules, subst, sym, ◌∙◌, ap}
use Rattle.std.specs.Prelude.{Contains}
use Rattle.std.specs.List.Sorted.{IsStrictlySortedBy}
use Rattle.abs_state.specs.declared.key.Place.{Place}
use Rattle.graph_view.proofs.Keyed.{nodes_rise, nodes_few, calls_among}
use Rattle.graph_view.proofs.details.details_of.Goals as goal
use Rattle.graph_view.specs.Details.{shown}
use Rattle.graph_view.specs.Numbers.{IsStepGraph, place_cmp}
use Rattle.graph_view.specs.Sites.{AreSites}
use Rattle.graph_view.specs.View.{callings_of, gap_of, nodes_of, opens_of, steps_of}
use Rattle.graph_view.specs.declared.lists.Calling.{Calling}
use Rattle.graph_view.specs.declared.lists.OpenPoint.{OpenPoint}
use Rattle.graph_view.specs.declared.lists.Step.{Step}

pub graph_of-requires-clause-rise : goal.graph_of-requires-clause-rise
graph_of-requires-clause-rise c =
    let nodes : c.of_sub-nodes.result.now ≡ nodes_of (shown c.args.lists.now) c.args.sub = search rules in
    subst (IsStrictlySortedBy place_cmp) (sym nodes) (nodes_rise (shown c.args.lists.now) c.requires c.args.sub)

pub graph_of-requires-clause-small : goal.graph_of-requires-clause-small
graph_of-requires-clause-small c =
    let nodes : c.of_sub-nodes.result.now ≡ nodes_of (shown c.args.lists.now) c.args.sub = search rules in
    subst (λ (l : List Place). length l < 2 ^ 32) (sym nodes) (nodes_few (shown c.args.lists.now) c.requires c.args.sub)

pub sites_of-requires-clause-rise : goal.sites_of-requires-clause-rise
sites_of-requires-clause-rise c =
    let nodes : c.of_sub-nodes.result.now ≡ nodes_of (shown c.args.lists.now) c.args.sub = search rules in
    subst (IsStrictlySortedBy place_cmp) (sym nodes) (nodes_rise (shown c.args.lists.now) c.requires c.args.sub)

pub sites_of-requires-clause-small : goal.sites_of-requires-clause-small
sites_of-requires-clause-small c =
    let nodes : c.of_sub-nodes.result.now ≡ nodes_of (shown c.args.lists.now) c.args.sub = search rules in
    subst (λ (l : List Place). length l < 2 ^ 32) (sym nodes) (nodes_few (shown c.args.lists.now) c.requires c.args.sub)

pub sites_of-requires-clause-among : goal.sites_of-requires-clause-among
sites_of-requires-clause-among c = λ calling h.
    let nodes : c.of_sub-nodes.result.now ≡ nodes_of (shown c.args.lists.now) c.args.sub = search rules in
    let callings : c.of_sub-callings.result.now ≡ callings_of (shown c.args.lists.now) c.args.sub = search rules in
    subst (λ (l : List Place). Contains l calling.from) (sym nodes)
    (calls_among (shown c.args.lists.now) c.requires c.args.sub calling (subst (λ (l : List Calling). Contains l calling) callings h))

pub returns : goal.returns
returns c =
    let nodes : c.of_sub-nodes.result.now ≡ nodes_of (shown c.args.lists.now) c.args.sub = search rules in
    let steps : c.of_sub-steps.result.now ≡ steps_of (shown c.args.lists.now) c.args.sub = search rules in
    let callings : c.of_sub-callings.result.now ≡ callings_of (shown c.args.lists.now) c.args.sub = search rules in
    let opens : c.of_sub-opens.result.now ≡ opens_of (shown c.args.lists.now) c.args.sub = search rules in
    record {
      graph = subst (λ (s : List Step). IsStepGraph (nodes_of (shown c.args.lists.now) c.args.sub) s c.in_ok-graph.graph) steps
          (subst (λ (n : List Place). IsStepGraph n c.of_sub-steps.result.now c.in_ok-graph.graph) nodes c.in_ok-graph.ensures);
      calls = subst (λ (s : List Calling). AreSites (nodes_of (shown c.args.lists.now) c.args.sub) s c.in_ok-calls.calls.items) callings
          (subst (λ (n : List Place). AreSites n c.of_sub-callings.result.now c.in_ok-calls.calls.items) nodes c.in_ok-calls.ensures);
      gaps = c.in_ok-gaps.ensures ∙ ap (λ (s : List OpenPoint). map gap_of s) opens;
    }
