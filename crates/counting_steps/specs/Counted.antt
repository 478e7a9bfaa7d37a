-- Counters of contexts count, in each frame of a run.
use Rattle.std.specs.Prelude.{◌≡◌, ℕ, ◌≤◌, Bool, List, All}
use Rattle.assert_bind.specs.declared.body.BoundAssertion.{BoundAssertion}
use Rattle.closed_steps.specs.Graph.{IsBound}
use Rattle.context_runs.specs.Contexts.{Contexts}
use Rattle.context_runs.specs.Joined.{AreCounted, IsPlaced, root_of, run_of}
use Rattle.context_steps.specs.Followed.{AreContexts}
use Rattle.counting_steps.specs.Changes.{AreChanges}
use Rattle.flow_system.specs.State.{IsClosed}
use Rattle.frame_laws.specs.Activation.{stack_at}
use Rattle.frame_laws.specs.Steps.{KeepsAsserted}
use Rattle.sparc_machine.specs.declared.machine.Machine.{Machine}
use Rattle.transfer_acts.specs.Program.{program_of}
use Rattle.transfer_rules.specs.Give.{Facts}
use Rattle.transfer_rules.specs.Lawful.{rules_of}
use Rattle.transfer_values.specs.Family.{family}
use Rattle.transfer_values.specs.Resolve.{widest}
use Rattle.value_lattice.specs.Thresholds.{IsThresholds}

-- Where the program points of contexts change the cells of counters as these say, and asserted counts are kept, what counts in
-- the frames of a run counts: at each head the cell is within the counter's numbers, and each step, and each call as a whole,
-- changes it by what its node adds and takes.
abbrev pub CountersCount : Type 0
CountersCount =
    (t image costs : List ℕ) (list : List BoundAssertion) (eight : Bool) (x : Facts) (F : Contexts) → IsBound image list → IsThresholds t
    → IsClosed (rules_of t (family t image list) (program_of image list eight (widest image list))) x
    → (contexts : AreContexts image list eight t x F) → AreChanges image list eight t x F contexts
    → (root : ℕ) (first : Machine) (rest : List Machine) (last : ℕ) → IsPlaced F image costs list x root first rest last
    → ((place : ℕ) → place ≤ last
    → All (KeepsAsserted F.family (run_of F image costs first rest)) (stack_at F.family (run_of F image costs first rest) (root_of F first) place))
    → AreCounted F image costs first rest last
