-- The answers of a program exclude each other.
use Rattle.std.proofs.Common.{◌≡◌, ℕ, List, subst, arith}
use Rattle.abs_state.specs.declared.key.Key.{Key}
use Rattle.assert_bind.specs.declared.body.BoundAssertion.{BoundAssertion}
use Rattle.context_outcomes.proofs.Told.{needed_are_told, unmatched_are_not_matched}
use Rattle.context_outcomes.specs.Refusals.{AreMatched, AreNeeded, IsFirstUnmatched}
use Rattle.context_outcomes.specs.Setting.{Setting}
use Rattle.transfer_rules.specs.declared.fact.Fact.{Fact}
use Rattle.bound_task.proofs.OneGraph.{graph_is_one, one_threshold_list}
use Rattle.bound_task.specs.Graph.{IsGraphOf}
use Rattle.bound_task.specs.Laws.{FirstUnmatchedIsOne, OutcomesAreFew, OutcomesAreMatched, TooManyAreMatched}
use Rattle.bound_task.specs.Outcomes.{setting_by}

-- contexts are judged by one program with one due graph
pub one_setting_by : (image costs : List ℕ) (those : List BoundAssertion) (facts others : List (Key × Fact)) (one : IsGraphOf image costs those facts)
    (other : IsGraphOf image costs those others) → setting_by one ≡ setting_by other
one_setting_by image costs those facts others one other =
    let same : facts ≡ others = graph_is_one image costs those facts others one other in
    let t : one.thresholds ≡ other.thresholds =
    one_threshold_list image those one.thresholds other.thresholds one.are_thresholds other.are_thresholds in
    λ i. record {
      image = image;
      binding = those;
      costs = costs;
      eight = (setting_by one).eight;
      thresholds = t i;
      pieces = same i;
    }

-- where there are outcomes each asserted loop is matched
pub outcomes_are_matched : OutcomesAreMatched
outcomes_are_matched image costs those outcomes line are first =
    unmatched_are_not_matched (setting_by first.graph) line first.first
    (subst (λ (S : Setting). AreMatched S) (one_setting_by image costs those are.facts first.facts are.graph first.graph) are.matched)

-- and no more contexts are needed than there are outcomes
pub outcomes_are_few : OutcomesAreFew
outcomes_are_few image costs those outcomes count are many =
    let needed = subst (λ (S : Setting). AreNeeded S count) (one_setting_by image costs those many.facts are.facts many.graph are.graph) many.needed in
    let few = needed_are_told (setting_by are.graph) outcomes count are.are needed in
    omega (arith, few, are.few, many.count_is)

-- where too many contexts are needed each asserted loop is matched
pub too_many_are_matched : TooManyAreMatched
too_many_are_matched image costs those count line many first =
    unmatched_are_not_matched (setting_by first.graph) line first.first
    (subst (λ (S : Setting). AreMatched S) (one_setting_by image costs those many.facts first.facts many.graph first.graph) many.matched)

-- two first lines are each no more than the other
pub first_unmatched_is_one : FirstUnmatchedIsOne
first_unmatched_is_one image costs those line other first second =
    let moved = subst (λ (S : Setting). IsFirstUnmatched S line) (one_setting_by image costs those first.facts second.facts first.graph second.graph) first.first in
    let low = moved.least other second.first.is in
    let high = second.first.least line moved.is in
    omega (arith, low, high)
