-- Runs over the facts of a closed state.
use Rattle.std.specs.Prelude.{ℕ, ◌≤◌, Bool, List, length, Contains}
use Rattle.assert_bind.specs.Binding.{roots}
use Rattle.assert_bind.specs.declared.body.BoundAssertion.{BoundAssertion}
use Rattle.flow_system.specs.State.{IsClosed}
use Rattle.sparc_machine.specs.Frame.{BeginsAt, RunsFrom}
use Rattle.sparc_machine.specs.declared.machine.Machine.{Machine}
use Rattle.sparc_runs.specs.Meets.{Heads, Meets}
use Rattle.stack_laws.specs.Followed.{IsBeforeGaps, IsFollowedAt}
use Rattle.transfer_acts.specs.Program.{program_of}
use Rattle.transfer_rules.specs.Give.{Facts}
use Rattle.transfer_rules.specs.Lawful.{rules_of}
use Rattle.transfer_values.specs.Family.{family}
use Rattle.transfer_values.specs.Resolve.{widest}
use Rattle.value_lattice.specs.Thresholds.{IsThresholds}
use Rattle.closed_steps.specs.Graph.{IsBound}

-- a run from a root that meets the assertions
pub record IsRun (image costs : List ℕ) (list : List BoundAssertion) (heads : Heads) (root : ℕ) (first : Machine) (rest : List Machine) : Type 0 where
  pub rooted : Contains (roots list) root
  pub begins : BeginsAt root first
  pub runs : RunsFrom image costs first rest
  pub meets : Meets image heads first rest list

-- up to its first gap each place of a run is followed by the facts of a closed state: a machine in its top frame is covered by
-- the state at its program point, each frame below waits at the delay instruction of its call and keeps the cells that the one
-- above may not write, each step within a frame is an edge, each push a call, and each pop lands behind its call
abbrev pub RunsFollowClosedStates : Type 0
RunsFollowClosedStates =
    (t image costs : List ℕ) (list : List BoundAssertion) (eight : Bool) (x : Facts) (heads : Heads) (root : ℕ) (first : Machine) (rest : List Machine)
    → IsBound image list → IsThresholds t → IsClosed (rules_of t (family t image list) (program_of image list eight (widest image list))) x
    → IsRun image costs list heads root first rest
    → (invalid : ℕ) × ((i : ℕ) → i ≤ length rest → IsBeforeGaps image list x first rest i → IsFollowedAt image list (λ stack. x) x invalid first rest i)
