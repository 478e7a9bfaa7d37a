use Rattle.std.proofs.Common.{◌≡◌, ◌<◌, ◌≤◌, ◌∙◌, ℕ, List, Option, Some, length, vec_len, arith, subst, sym}
use Rattle.bt_base.specs.Graph.{is_edge, rows_of}
use Rattle.cyclic_parts.specs.Parts.{AreParts, name_of}
use Rattle.graph_view.proofs.Rounds.{cycles_are, cycles_are_one}
use Rattle.graph_view.proofs.cycles.cycles_of.Goals as goal
use Rattle.graph_view.specs.Cycles.{AreGathered, AreRisen}

pub gather-requires-clause-count : goal.gather-requires-clause-count
gather-requires-clause-count c =
    let parts : AreParts (is_edge c.args.graph.now) (length c.args.graph.now) c.in_ok-names.names.items = c.in_ok-names.ensures in
    let names : c.deref.result.now ≡ c.in_ok-names.names.items = c.deref.ensures.value in
    let count : length c.deref.result.now ≡ length c.in_ok-names.names.items = (λ i. length (names i)) in
    count ∙ parts.count ∙ c.requires.graph.count

pub gather-requires-clause-within : goal.gather-requires-clause-within
gather-requires-clause-within c = λ n name e.
    let parts : AreParts (is_edge c.args.graph.now) (length c.args.graph.now) c.in_ok-names.names.items = c.in_ok-names.ensures in
    let names : c.deref.result.now ≡ c.in_ok-names.names.items = c.deref.ensures.value in
    let low : name < length c.args.graph.now = parts.within n name (subst (λ (l : List (Option ℕ)). name_of l n ≡ Some name) names e) in
    omega (arith, low, c.requires.graph.count)

pub returns : goal.returns
returns c =
    let parts : AreParts (is_edge c.args.graph.now) (length c.args.graph.now) c.in_ok-names.names.items = c.in_ok-names.ensures in
    let names : c.deref.result.now ≡ c.in_ok-names.names.items = c.deref.ensures.value in
    let gathered : AreGathered c.args.subs.now c.in_ok-names.names.items c.args.callings.now (rows_of c.in_ok-calls.calls.items) =
    subst (λ (l : List (Option ℕ)). AreGathered c.args.subs.now l c.args.callings.now (rows_of c.in_ok-calls.calls.items)) names (c.in_ok-calls.ensures {u = tt}).gathered in
    let rises : AreRisen (rows_of c.in_ok-calls.calls.items) (vec_len c.in_ok-calls.calls) (rows_of c.put_rows_in_order.new.rows.items) = c.put_rows_in_order.ensures.risen in
    let count : vec_len c.in_ok-calls.calls ≡ length c.args.subs.now = (c.in_ok-calls.ensures {u = tt}).count in
    let after : vec_len c.put_rows_in_order.new.rows ≡ vec_len c.in_ok-calls.calls = c.put_rows_in_order.ensures.count in
    let size : length c.put_rows_in_order.new.rows.items ≡ length c.args.subs.now = omega (arith, count, after, c.put_rows_in_order.new.rows.ok.0) in
    record {
      count = parts.count ∙ c.requires.graph.count;
      within = λ n name e. let low : name < length c.args.graph.now = parts.within n name e in omega (arith, low, size, c.requires.graph.count);
      each = λ n low.
          cycles_are c.args.subs.now c.args.callings.now c.args.graph.now c.in_ok-names.names.items (rows_of c.in_ok-calls.calls.items) (rows_of c.put_rows_in_order.new.rows.items)
          c.requires.callers c.requires.graph parts gathered (vec_len c.in_ok-calls.calls) rises (let e : length c.args.subs.now ≤ vec_len c.in_ok-calls.calls = omega (arith, count) in e) n low;
      one = cycles_are_one c.args.subs.now c.args.callings.now c.args.graph.now c.in_ok-names.names.items c.requires.callers c.requires.graph parts;
    }
