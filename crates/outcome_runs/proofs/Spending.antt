-- Each frame of a run spends at most the bound that is told of its context.
use Rattle.std.proofs.Common.{ℕ, ◌≤◌, List, length, arith}
use Rattle.context_steps.proofs.Contexts.{runs_are_placed, runs_spend_bounds}
use Rattle.counted_runs.proofs.Assertions.{asserted_counts}
use Rattle.counted_runs.specs.Asserted.{heads_of}
use Rattle.counting_steps.proofs.Counting.{counters_count}
use Rattle.context_outcomes.specs.Setting.{facts_in}
use Rattle.outcome_runs.proofs.Asserting.{outcomes_are_asserted}
use Rattle.outcome_runs.proofs.Counting.{outcomes_count}
use Rattle.outcome_runs.proofs.Filling.{outcomes_are_filled}
use Rattle.outcome_runs.proofs.Sounding.{outcomes_are_sound}
use Rattle.outcome_runs.specs.Family.{address_of, contexts_of}
use Rattle.outcome_runs.proofs.Ungapped.{bounded_roots_meet_no_gap}
use Rattle.outcome_runs.specs.Laws.{BoundedRunsSpend, RunsSpendOutcomes}

pub runs_spend_outcomes : RunsSpendOutcomes
runs_spend_outcomes S list told known root first rest last run within before place low =
    let counting = outcomes_count S list told known in
    let filled = outcomes_are_filled S list told known in
    let placed =
    runs_are_placed S.thresholds S.image S.costs S.binding S.eight (facts_in S) (contexts_of told) (heads_of (contexts_of told) (address_of told)) root first rest last
    known.bound known.thresholds known.due.closed counting.contexts run filled within before in
    let kept =
    asserted_counts (contexts_of told) S.image S.costs S.binding (facts_in S) root first rest last (address_of told) placed
    (outcomes_are_asserted S list told) run.meets in
    let counted =
    counters_count S.thresholds S.image S.costs S.binding S.eight (facts_in S) (contexts_of told) known.bound known.thresholds known.due.closed counting.contexts
    counting.changes root first rest last placed kept in
    runs_spend_bounds S.thresholds S.image S.costs S.binding S.eight (facts_in S) (contexts_of told) (heads_of (contexts_of told) (address_of told)) root first rest last
    known.bound known.thresholds known.due.closed counting.contexts run (outcomes_are_sound S list told known) filled within before counted place low

pub bounded_runs_spend : BoundedRunsSpend
bounded_runs_spend S list told known root first rest run has place low =
    runs_spend_outcomes S list told known root first rest (length rest) run (omega arith)
    (λ i less top below are plain. bounded_roots_meet_no_gap S list told known root first rest run has i (omega (arith, less)) top below are plain) place low
