-- A program has one list of thresholds, so one due graph, and so one text of it.
use Rattle.std.proofs.Common.{◌≡◌, ◌∙◌, ℕ, ℤ, ◌^◌, ◌<◌, ◌≤◌, ◌++◌, true, eqb, List, length, get_or, map, Contains, ⊎_elim, sym, ap, subst, arith}
use Rattle.std.specs.Prelude.{pos}
use Rattle.std.specs.Map.{keys_of}
use Rattle.std.specs.Set.{is_member}
use Rattle.std.proofs.lemmas.Bool.{or_cases, or_left, or_right}
use Rattle.std.proofs.lemmas.List.{get_or-map, length-map}
use Rattle.std.proofs.lemmas.List.Elements.{All-contains, Contains-get_or, Contains-append_left, Contains-append_right, Contains-append_cases}
use Rattle.abs_state.specs.Key.{compare}
use Rattle.assert_bind.specs.declared.body.BoundAssertion.{BoundAssertion}
use Rattle.bt_base.proofs.RisingLists.{same_rising}
use Rattle.code_thresholds.specs.Number.{AreThresholdsOf, IsOfCode, numbers_asserted}
use Rattle.cycle_table.specs.Class.{has_eight}
use Rattle.flow_core.proofs.EntryLemmas.{same_entries}
use Rattle.flow_core.specs.Core.{counted_keys}
use Rattle.flow_system.proofs.Inductions.{graph_same}
use Rattle.flow_system.specs.Facts.{fact_at}
use Rattle.flow_system.specs.State.{IsDueGraph}
use Rattle.graph_text.proofs.KeyTexts.{graph_text_is_one}
use Rattle.graph_text.specs.Text.{IsGraphText}
use Rattle.transfer_fns.specs.Laws.{lawful_over, numbers_are}
use Rattle.value_lattice.specs.Order.{rank_of}
use Rattle.value_lattice.specs.Passing.{words_below}
use Rattle.value_lattice.specs.Thresholds.{constants, is_widened, widen}
use Rattle.value_lattice.proofs.TestLemmas.{member_decides}
use Rattle.value_lattice.proofs.WordsBelowLemmas.{words_rise, words_pass, words_fit, passing_is_there}
use Rattle.bound_task.specs.Graph.{most_nodes, rules_with}
use Rattle.bound_task.specs.Laws.{GraphIsOne, GraphTextIsOneOf, TooBigHasNoGraph}
use Rattle.bound_task.specs.Returning.{returning_in}

-- ---- thresholds

-- the places of the numbers of a list are among those of a list that has these numbers
mapped : (xs ys : List ℤ) → ((z : ℤ) → Contains xs z → Contains ys z) → (k : ℕ) → Contains (map rank_of xs) k → Contains (map rank_of ys) k
mapped xs ys goes k (i, within, is) =
    let inside : i < length xs = rw length-map at within in
    let there = goes (get_or xs i (pos 0)) (Contains-get_or xs i (pos 0) inside) in
    let place : rank_of (get_or xs i (pos 0)) ≡ k = sym (get_or-map rank_of xs i (pos 0) k inside) ∙ is in
    subst (Contains (map rank_of ys)) place (mapped_one ys (get_or xs i (pos 0)) there)
  where
    mapped_one : (ys : List ℤ) (z : ℤ) → Contains ys z → Contains (map rank_of ys) (rank_of z)
    mapped_one ys z (j, low, same) =
        (j, rw length-map low, get_or-map rank_of ys j z (rank_of z) low ∙ ap rank_of same)

widened : (old : List ℕ) (xs ys : List ℤ) → ((z : ℤ) → Contains xs z → Contains ys z) → (k : ℕ) → is_widened old xs k ≡ true → is_widened old ys k ≡ true
widened old xs ys goes k is =
    ⊎_elim (λ before. or_left (is_member eqb old k) (is_member eqb (map rank_of ys) k) before)
    (λ listed. or_right (is_member eqb old k) (is_member eqb (map rank_of ys) k)
    ((member_decides (map rank_of ys) k).1 (mapped xs ys goes k ((member_decides (map rank_of xs) k).0 listed))))
    (or_cases (is_member eqb old k) (is_member eqb (map rank_of xs) k) is)

within_widened : (old : List ℕ) (xs ys : List ℤ) → ((z : ℤ) → Contains xs z → Contains ys z) → (k : ℕ) → Contains (words_below (2 ^ 32) (is_widened old xs)) k
    → Contains (words_below (2 ^ 32) (is_widened old ys)) k
within_widened old xs ys goes k there =
    passing_is_there (2 ^ 32) (is_widened old ys) k
    (All-contains (λ v. v < 2 ^ 32) (words_below (2 ^ 32) (is_widened old xs)) k (words_fit (2 ^ 32) (is_widened old xs)) there)
    (widened old xs ys goes k (words_pass (2 ^ 32) (is_widened old xs) k there))

one_widened : (old : List ℕ) (xs ys : List ℤ) → ((z : ℤ) → Contains xs z → Contains ys z) → ((z : ℤ) → Contains ys z → Contains xs z)
    → widen old xs ≡ widen old ys
unfolding widen
one_widened old xs ys goes back =
    same_rising (words_below (2 ^ 32) (is_widened old xs)) (words_below (2 ^ 32) (is_widened old ys))
    (words_rise (2 ^ 32) (is_widened old xs)) (words_rise (2 ^ 32) (is_widened old ys))
    (within_widened old xs ys goes) (within_widened old ys xs back)

-- the numbers of a program, listed in one way, are those that are listed in another
listed : (image : List ℕ) (xs ys asserted : List ℤ) → ((z : ℤ) → Contains xs z → IsOfCode image z) → ((z : ℤ) → IsOfCode image z → Contains ys z)
    → (z : ℤ) → Contains (xs ++ asserted) z → Contains (ys ++ asserted) z
listed image xs ys asserted each all z there =
    ⊎_elim (λ code. Contains-append_left ys asserted z (all z (each z code))) (λ said. Contains-append_right ys asserted z said)
    (Contains-append_cases xs asserted z there)

pub one_threshold_list : (image : List ℕ) (those : List BoundAssertion) (t u : List ℕ) → AreThresholdsOf image those t → AreThresholdsOf image those u → t ≡ u
one_threshold_list image those t u first second =
    first.value
    ∙ one_widened (map rank_of constants) (first.list ++ numbers_asserted those) (second.list ++ numbers_asserted those)
    (listed image first.list second.list (numbers_asserted those) first.code.each second.code.all)
    (listed image second.list first.list (numbers_asserted those) second.code.each first.code.all)
    ∙ sym second.value

-- ---- the due graph

pub graph_is_one : GraphIsOne
graph_is_one image costs those facts others first second =
    let one : second.thresholds ≡ first.thresholds =
    one_threshold_list image those second.thresholds first.thresholds second.are_thresholds first.are_thresholds in
    let due = subst (λ t. IsDueGraph (rules_with t image costs those) (fact_at compare others)) one second.due in
    let law = lawful_over first.thresholds image those (has_eight costs) (numbers_are first.thresholds first.lawful) in
    same_entries compare law.keys facts others first.rise second.rise
    (graph_same compare (rules_with first.thresholds image costs those) law (fact_at compare facts) (fact_at compare others) first.due due)

pub graph_text_is_one_of : GraphTextIsOneOf
graph_text_is_one_of image costs those one other first second =
    let same : second.facts ≡ first.facts = graph_is_one image costs those second.facts first.facts second.graph first.graph in
    let is = subst (λ f. IsGraphText image (keys_of f) (returning_in f) other) same second.is in
    graph_text_is_one image (keys_of first.facts) (returning_in first.facts) one other first.is is

pub too_big_has_no_graph : TooBigHasNoGraph
too_big_has_no_graph image costs those facts big graph =
    let one : graph.thresholds ≡ big.thresholds =
    one_threshold_list image those graph.thresholds big.thresholds graph.are_thresholds big.are_thresholds in
    let due = subst (λ t. IsDueGraph (rules_with t image costs those) (fact_at compare facts)) one graph.due in
    let within = subst (λ t. counted_keys (rules_with t image costs those) facts ≤ most_nodes) one graph.within in
    let more = big.over facts graph.rise due.closed in
    omega (arith, within, more)
