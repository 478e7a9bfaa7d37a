use Rattle.std.proofs.Common.{◌≡◌, ◌<◌, ℕ, List, get_or, rules, sym, subst, vec_len, length, arith}
use Rattle.abs_state.specs.declared.key.Place.{Place}
use Rattle.graph_view.proofs.Keyed.{counted_from, ready_from, view_is}
use Rattle.graph_view.proofs.view.View.of.Goals as goal
use Rattle.graph_view.specs.Cycles.{AreCycles}
use Rattle.graph_view.specs.Details.{AreDetails, AreReady, shown}
use Rattle.graph_view.specs.Need.{AreCounted, AreNeeds}
use Rattle.graph_view.specs.Subs.{AreSubs}
use Rattle.graph_view.specs.declared.lists.Calling.{Calling}

pub details_of_all-requires : goal.details_of_all-requires
details_of_all-requires c = ready_from c.args.keys.now c.in_ok-lists.lists c.requires c.in_ok-lists.ensures.keys c.in_ok-lists.ensures.owned

pub cycles_and_needs-requires : goal.cycles_and_needs-requires
cycles_and_needs-requires c =
    let are : AreSubs c.in_ok-lists.lists.places.items c.in_ok-subs.subs.items = search rules in
    let ready : AreReady (shown c.in_ok-lists.lists) = ready_from c.args.keys.now c.in_ok-lists.lists c.requires c.in_ok-lists.ensures.keys c.in_ok-lists.ensures.owned in
    let counted : AreCounted c.in_ok-lists.lists.places.items c.in_ok-lists.lists.callings.items c.in_ok-subs.subs.items = counted_from (shown c.in_ok-lists.lists) ready c.in_ok-subs.subs.items are in
    subst (λ (p : List Place). AreCounted p c.deref-4.result.now c.deref-5.result.now) (sym c.deref-3.ensures.value)
    (subst (λ (p : List Calling). AreCounted c.in_ok-lists.lists.places.items p c.deref-5.result.now) (sym c.deref-4.ensures.value)
    (subst (λ (p : List ℕ). AreCounted c.in_ok-lists.lists.places.items c.in_ok-lists.lists.callings.items p) (sym c.deref-5.ensures.value) counted))

pub returns : goal.returns
returns c = view_is c.args.keys.now c.in_ok-lists.lists c.in_ok-lists.ensures.keys

pub invariant_of-result : goal.invariant_of-result
invariant_of-result c =
    let are : AreSubs c.in_ok-lists.lists.places.items c.in_ok-subs.subs.items = search rules in
    let ready : AreReady (shown c.in_ok-lists.lists) = ready_from c.args.keys.now c.in_ok-lists.lists c.requires c.in_ok-lists.ensures.keys c.in_ok-lists.ensures.owned in
    let counted : AreCounted c.in_ok-lists.lists.places.items c.in_ok-lists.lists.callings.items c.in_ok-subs.subs.items = counted_from (shown c.in_ok-lists.lists) ready c.in_ok-subs.subs.items are in
    let details = c.in_ok-details.ensures {u = tt} in
    let both = c.in_ok-cycles.ensures {u = tt} in
    let kept : vec_len c.in_ok-details.details ≡ length c.deref-2.result.now = details.count in
    let same : length c.deref-2.result.now ≡ length c.in_ok-subs.subs.items = (λ i. length (c.deref-2.ensures.value i)) in
    record {
      ready = ready;
      subs = are;
      counted = counted;
      count = omega (arith, kept, same, c.in_ok-details.details.ok.0);
      details = λ k d low.
          subst (λ (l : List ℕ). AreDetails (shown c.in_ok-lists.lists) (get_or l k 0) (get_or c.in_ok-details.details.items k d)) c.deref-2.ensures.value
          (details.each k d (let less : k < length c.deref-2.result.now = omega (arith, low, same) in less));
      cycles =
          subst (λ (l : List ℕ). AreCycles l c.in_ok-lists.lists.callings.items c.in_ok-cycles.cycles) c.deref-5.ensures.value
          (subst (λ (l : List Calling). AreCycles c.deref-5.result.now l c.in_ok-cycles.cycles) c.deref-4.ensures.value both.cycles);
      needs =
          subst (λ (l : List ℕ). AreNeeds c.in_ok-lists.lists.places.items c.in_ok-lists.lists.callings.items l c.in_ok-cycles.needs.items) c.deref-5.ensures.value
          (subst (λ (l : List Calling). AreNeeds c.in_ok-lists.lists.places.items l c.deref-5.result.now c.in_ok-cycles.needs.items) c.deref-4.ensures.value
          (subst (λ (l : List Place). AreNeeds l c.deref-4.result.now c.deref-5.result.now c.in_ok-cycles.needs.items) c.deref-3.ensures.value both.needs));
    }
