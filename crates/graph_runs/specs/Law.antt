-- Runs over the due graph of a program.
use Rattle.std.specs.Prelude.{ℕ, ◌≤◌, List, length}
use Rattle.abs_state.specs.Key.{compare}
use Rattle.abs_state.specs.declared.key.Key.{Key}
use Rattle.assert_bind.specs.declared.body.BoundAssertion.{BoundAssertion}
use Rattle.bound_task.specs.Graph.{IsGraphOf}
use Rattle.closed_steps.specs.Graph.{IsBound}
use Rattle.closed_steps.specs.Runs.{IsRun}
use Rattle.flow_system.specs.Facts.{fact_at}
use Rattle.sparc_machine.specs.declared.machine.Machine.{Machine}
use Rattle.sparc_runs.specs.Meets.{Heads}
use Rattle.stack_laws.specs.Followed.{IsBeforeGaps, IsFollowedAt}
use Rattle.transfer_rules.specs.declared.fact.Fact.{Fact}

-- up to its first gap each place of a run that meets the assertions is followed by the facts of the due graph
abbrev pub RunsFollowDueGraphs : Type 0
RunsFollowDueGraphs =
    (image costs : List ℕ) (those : List BoundAssertion) (facts : List (Key × Fact)) (heads : Heads) (root : ℕ) (first : Machine) (rest : List Machine)
    → IsBound image those → IsGraphOf image costs those facts → IsRun image costs those heads root first rest
    → (invalid : ℕ) × ((i : ℕ) → i ≤ length rest → IsBeforeGaps image those (fact_at compare facts) first rest i
    → IsFollowedAt image those (λ stack. fact_at compare facts) (fact_at compare facts) invalid first rest i)
