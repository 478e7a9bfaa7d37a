-- Runs over the facts of contexts.
use Rattle.std.specs.Prelude.{◌≡◌, ℕ, suc, ◌<◌, ◌≤◌, Bool, true, false, List, length, Some}
use Rattle.abs_state.specs.State.{entry_state, is_at_most}
use Rattle.abs_state.specs.declared.key.Key.TheVariants as key
use Rattle.abs_state.specs.declared.key.Next.TheVariants.{Into}
use Rattle.abs_state.specs.declared.key.Place.{Place}
use Rattle.assert_bind.specs.declared.body.BoundAssertion.{BoundAssertion}
use Rattle.closed_steps.specs.Graph.{IsBound}
use Rattle.closed_steps.specs.Runs.{IsRun}
use Rattle.context_facts.specs.Context.{IsContext}
use Rattle.context_runs.specs.Contexts.{AreFilled, Contexts, facts_of}
use Rattle.context_runs.specs.Joined.{AreCounted, IsPlaced, KeepsContexts, PoppedSpent}
use Rattle.flow_system.specs.State.{IsClosed}
use Rattle.frame_laws.specs.Context.{In, IsSound}
use Rattle.sparc_machine.specs.declared.machine.Machine.{Machine}
use Rattle.sparc_runs.specs.Meets.{Heads}
use Rattle.stack_laws.specs.Followed.{IsBeforeGaps, IsFollowable}
use Rattle.stack_laws.specs.StepFacts.{StepFacts}
use Rattle.transfer_acts.specs.Program.{program_of}
use Rattle.transfer_rules.specs.Give.{Facts, entered_with}
use Rattle.transfer_rules.specs.Lawful.{rules_of}
use Rattle.transfer_rules.specs.declared.fact.Fact.TheVariants as fact
use Rattle.transfer_values.specs.Family.{family}
use Rattle.transfer_values.specs.Resolve.{widest}
use Rattle.value_lattice.specs.Height.{are_at_most}
use Rattle.value_lattice.specs.Laws.{AreMore}
use Rattle.value_lattice.specs.Thresholds.{IsThresholds}
use Rattle.value_lattice.specs.declared.value.Value.{Value}

-- Contexts over facts: which numbers are those of one, and the thresholds and arguments of each. What a root and a call lead to
-- is one of them; a root's is entered with anything that an entry may find, and the arguments of a call are among those of its
-- context.
pub record AreContexts (image : List ℕ) (list : List BoundAssertion) (eight : Bool) (t : List ℕ) (x : Facts) (F : Contexts) : Type 0 where
  pub has : ℕ → Bool
  pub thresholds : ℕ → List ℕ
  pub arguments : ℕ → List Value
  pub are : (c : ℕ) → has c ≡ true → IsThresholds (thresholds c)
  pub wider : (c : ℕ) → has c ≡ true → AreMore t (thresholds c)
  pub facts : (c : ℕ) → has c ≡ true
      → IsContext (thresholds c) (family (thresholds c) image list) (program_of image list eight (widest image list)) x (F.sub c) (arguments c) (F.facts c)
  pub roots : (root c : ℕ) → F.roots root ≡ In c → has c ≡ true
  pub root_sub : (root c : ℕ) → F.roots root ≡ In c → F.sub c ≡ root
  pub root_args : (root c : ℕ) → F.roots root ≡ In c → is_at_most entry_state (entered_with (arguments c)) ≡ true
  pub follows : (c d : ℕ) (p : Place) → has c ≡ true → F.follows c p ≡ In d → has d ≡ true
  pub callee : (c d target : ℕ) (p : Place) → has c ≡ true → p.next ≡ Into target → F.follows c p ≡ In d → F.sub d ≡ target
  pub handed : (c d target : ℕ) (p : Place) (given : List Value) → has c ≡ true → F.follows c p ≡ In d
      → F.facts c (key.Call p target) ≡ Some (fact.Args given) → are_at_most given (arguments d) ≡ true

-- each step shows what the law of the stack asks of the facts of the frames' contexts
abbrev pub ContextsCoverSteps : Type 0
ContextsCoverSteps =
    (t image costs : List ℕ) (list : List BoundAssertion) (eight : Bool) (x : Facts) (F : Contexts) → IsBound image list → IsThresholds t
    → IsClosed (rules_of t (family t image list) (program_of image list eight (widest image list))) x → AreContexts image list eight t x F
    → StepFacts image costs list (facts_of F x) x

-- and a run that meets the assertions can be followed over them
abbrev pub ContextsFollowRuns : Type 0
ContextsFollowRuns =
    (t image costs : List ℕ) (list : List BoundAssertion) (eight : Bool) (x : Facts) (F : Contexts) (heads : Heads) (root : ℕ) (first : Machine)
    (rest : List Machine) → IsBound image list → IsThresholds t
    → IsClosed (rules_of t (family t image list) (program_of image list eight (widest image list))) x → AreContexts image list eight t x F
    → IsRun image costs list heads root first rest → IsFollowable image costs list (facts_of F x) x root first rest

-- so it stands at the program points of its frames' contexts, where their graphs are filled in from the facts, up to its first gap
abbrev pub RunsArePlaced : Type 0
RunsArePlaced =
    (t image costs : List ℕ) (list : List BoundAssertion) (eight : Bool) (x : Facts) (F : Contexts) (heads : Heads) (root : ℕ) (first : Machine)
    (rest : List Machine) (last : ℕ) → IsBound image list → IsThresholds t
    → IsClosed (rules_of t (family t image list) (program_of image list eight (widest image list))) x → AreContexts image list eight t x F
    → IsRun image costs list heads root first rest → AreFilled image costs list F → last ≤ length rest → IsBeforeGaps image list x first rest last
    → IsPlaced F image costs list x root first rest last

-- Then each frame of the run walks the graph of its context and spends at most its bound, up to the first gap: where the graphs
-- are filled in from the facts, their bounds are true, and what counts in them counts.
abbrev pub RunsSpendBounds : Type 0
RunsSpendBounds =
    (t image costs : List ℕ) (list : List BoundAssertion) (eight : Bool) (x : Facts) (F : Contexts) (heads : Heads) (root : ℕ) (first : Machine)
    (rest : List Machine) (last : ℕ) → IsBound image list → IsThresholds t
    → IsClosed (rules_of t (family t image list) (program_of image list eight (widest image list))) x → AreContexts image list eight t x F
    → IsRun image costs list heads root first rest → IsSound F.family → AreFilled image costs list F → last ≤ length rest
    → IsBeforeGaps image list x first rest last → AreCounted F image costs first rest last → (place : ℕ) → place ≤ last
    → KeepsContexts F image costs list first rest place × (place < last → PoppedSpent F image first rest place)
