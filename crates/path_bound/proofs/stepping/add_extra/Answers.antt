use Rattle.std.proofs.Common.{◌≡◌, ◌+◌, ◌<◌, ℕ, false, List, Ok, [], length, set, get_or, sym, ap, subst, ◌∙◌, arith}
use Rattle.std.specs.Prelude.{is_ok}
use Rattle.std.specs.List.Sorted.{IsStrictlyIncreasing}
use Rattle.std.proofs.lemmas.List.{get_or_default}
use Rattle.std.proofs.lemmas.List.Sorted.{searched}
use Rattle.std.proofs.lemmas.Option.{slice_get-get_or}
use Rattle.bt_base.proofs.Rows.{rising_apart}
use Rattle.bt_base.specs.Graph.{has}
use Rattle.graph_laws.proofs.Rows.{found_is_there}
use Rattle.path_bound.specs.declared.stepping.Step.{Step}
use Rattle.path_bound.specs.Capped.{cap}
use Rattle.path_bound.specs.Steps.{items_of, steps_at}
use Rattle.path_bound.proofs.Stepped.{not_added, added_to}
use Rattle.path_bound.proofs.stepping.add_extra.Goals as goal

pub returns-in_default-clause-added : goal.returns-in_default-clause-added
returns-in_default-clause-added c = λ f are.
    let up : IsStrictlyIncreasing c.next.result.now =
    subst (λ (l : List ℕ). IsStrictlyIncreasing l) (sym c.next.ensures.row) (c.next.ensures.graph.rising c.args.from) in
    let none : has (get_or c.args.graph.now c.args.from []) c.args.to ≡ false =
    ap (λ (l : List ℕ). has l c.args.to) (sym c.next.ensures.row)
    ∙ (sym (found_is_there c.next.result.now c.args.to c.binary_search.result up c.binary_search.ensures.position) ∙ ap is_ok c.in_default.is) in
    not_added c.args.graph.now c.args.rows.now c.args.from c.args.to c.args.cost none f are

pub returns-in-Ok-clause-added : goal.returns-in-Ok-clause-added
returns-in-Ok-clause-added c = λ f are.
    let up : IsStrictlyIncreasing c.next.result.now =
    subst (λ (l : List ℕ). IsStrictlyIncreasing l) (sym c.next.ensures.row) (c.next.ensures.graph.rising c.args.from) in
    let found = searched c.next.result.now c.args.to (Ok c.in-Ok.place) c.in-Ok.ensures.position (rising_apart c.next.result.now up) in
    let l : c.args.from < length c.args.rows.now = omega (arith, c.if-from-count.false, c.count.ensures.count, c.requires.count) in
    let h : c.in-Ok.place < length (get_or c.args.graph.now c.args.from []) = subst (λ (x : List ℕ). c.in-Ok.place < length x) c.next.ensures.row found.0 in
    let at : get_or (get_or c.args.graph.now c.args.from []) c.in-Ok.place 0 ≡ c.args.to =
    ap (λ (x : List ℕ). get_or x c.in-Ok.place 0) (sym c.next.ensures.row) ∙ found.1 in
    let step : Step = record { to = c.index_mut-step.result.now.to; cost = c.sum-step.result } in
    let items : (get_or c.args.rows.now c.args.from c.index-rows-from.result).items ≡ steps_at c.args.rows.now c.args.from =
    sym (ap items_of (slice_get-get_or c.args.rows.now c.args.from c.index-rows-from.result l)) in
    let within : c.in-Ok.place < length (steps_at c.args.rows.now c.args.from) = omega (arith, h, c.requires.sizes c.args.from) in
    let read : c.index_mut-step.result.now ≡ get_or (steps_at c.args.rows.now c.args.from) c.in-Ok.place step =
    c.index_mut-step.ensures.value ∙ (ap (λ (s : List Step). get_or s c.in-Ok.place c.index_mut-step.result.now) items
    ∙ get_or_default (steps_at c.args.rows.now c.args.from) c.in-Ok.place c.index_mut-step.result.now step within) in
    added_to c.args.graph.now c.args.rows.now c.args.from c.args.to c.args.cost c.in-Ok.place _ step (c.next.ensures.graph.rising c.args.from) l h at
    (ap (λ (s : List Step). set s c.in-Ok.place step) items) (ap (λ (s : Step). s.to) read)
    (c.sum-step.ensures ∙ ap (λ (s : Step). cap (s.cost + c.args.cost)) read) f are
