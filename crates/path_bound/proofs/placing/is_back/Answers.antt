use Rattle.std.proofs.Common.{◌≡◌, ◌&&◌, ℕ, Bool, Option, Some, List, length, sym, ap, subst, ◌∙◌}
use Rattle.std.specs.List.{slice_get}
use Rattle.std.proofs.lemmas.Option.{slice_get-get_or}
use Rattle.std.specs.List.Sorted.{IsStrictlyIncreasing}
use Rattle.bt_base.specs.Graph.{has}
use Rattle.graph_laws.proofs.Rows.{found_is_there}
use Rattle.loop_nest.specs.declared.natural_loop.Loop.{Loop}
use Rattle.path_bound.specs.Places.{held, loops_in}
use Rattle.path_bound.proofs.Placed.{below_some, back_some}
use Rattle.path_bound.proofs.placing.is_back.Goals as goal

pub returns-in-Some : goal.returns-in-Some
returns-in-Some c =
    let e = sym (c.requires.places c.args.to) ∙ c.in-Some.is in
    let b = below_some c.args.loops.now (length c.args.loops.now) c.args.to c.in-Some.place e in
    let at : slice_get c.args.loops.now c.in-Some.place ≡ Some c.index-loops-place.result =
    slice_get-get_or c.args.loops.now c.in-Some.place c.index-loops-place.result b.1 ∙ ap (λ (x : Loop). Some x) (sym c.index-loops-place.is) in
    let rise : IsStrictlyIncreasing c.deref.result.now = subst (λ (l : List ℕ). IsStrictlyIncreasing l) (sym c.deref.ensures.value)
    (subst (λ (x : Loop). IsStrictlyIncreasing x.body.items) c.index-loops-place.is (c.requires.loops.bodies c.in-Some.place c.index-loops-place.result at)) in
    c.is_ok.ensures.value
    ∙ (found_is_there c.deref.result.now c.args.from c.binary_search.result rise c.binary_search.ensures.position
    ∙ (ap (λ (l : List ℕ). has l c.args.from) c.deref.ensures.value
    ∙ sym (ap (λ (x : Bool). x && (loops_in c.args.loops.now).body c.args.to c.args.from) (back_some c.args.loops.now c.args.to c.in-Some.place e)
    ∙ ap (λ (o : Option Loop). held o c.args.from)
    (ap (slice_get c.args.loops.now) b.0 ∙ slice_get-get_or c.args.loops.now c.in-Some.place c.index-loops-place.result b.1))))
