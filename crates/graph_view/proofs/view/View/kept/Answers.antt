use Rattle.std.proofs.Common.{◌≡◌, ◌<◌, ◌^◌, ℕ, List, length, sym, subst, ◌∙◌}
use Rattle.std.specs.Prelude.{Contains}
use Rattle.std.specs.List.Sorted.{IsStrictlyIncreasing}
use Rattle.graph_view.proofs.Keyed.{found_details}
use Rattle.graph_view.proofs.view.View.kept.Goals as goal
use Rattle.graph_view.specs.Details.{AreDetails, IsFound, shown}
use Rattle.graph_view.specs.View.{ByKind, IsViewed}
use Rattle.graph_view.specs.declared.details.Details.{Details}

pub find-requires-clause-rising : goal.find-requires-clause-rising
find-requires-clause-rising c = subst IsStrictlyIncreasing (sym c.deref.ensures.value) c.self.invariant.subs.rising

pub find-requires-clause-counted : goal.find-requires-clause-counted
find-requires-clause-counted c = subst (λ (l : List ℕ). length l < 2 ^ 32) (sym c.deref.ensures.value) c.self.invariant.counted.counted

pub find-requires-clause-count : goal.find-requires-clause-count
find-requires-clause-count c =
    let all : length c.deref-2.result.now ≡ length c.self.inside.details.items = (λ i. length (c.deref-2.ensures.value i)) in
    let subs : length c.deref.result.now ≡ length c.self.inside.subs.items = (λ i. length (c.deref.ensures.value i)) in
    all ∙ c.self.invariant.count ∙ sym subs

pub find-requires-clause-listed : goal.find-requires-clause-listed
find-requires-clause-listed c =
    subst (λ (l : List ℕ). Contains l c.args.sub) (sym c.deref.ensures.value)
    (c.self.invariant.subs.all c.args.sub (subst (λ (v : ByKind). IsViewed v c.args.sub) (sym c.self.view_is) c.requires))

pub returns : goal.returns
returns c =
    let found : IsFound c.self.inside.subs.items c.self.inside.details.items c.args.sub c.find.result.now =
    subst (λ (l : List ℕ). IsFound l c.self.inside.details.items c.args.sub c.find.result.now) c.deref.ensures.value
    (subst (λ (l : List Details). IsFound c.deref.result.now l c.args.sub c.find.result.now) c.deref-2.ensures.value c.find.ensures) in
    subst (λ (v : ByKind). AreDetails v c.args.sub c.find.result.now) c.self.view_is
    (found_details (shown c.self.inside.lists) c.self.inside.subs.items c.self.inside.details.items c.self.inside.cycles c.self.inside.needs.items c.self.invariant c.args.sub
    c.find.result.now found)
