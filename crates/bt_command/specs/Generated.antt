-- What each status of the command `gen` says of a call. It reads no file: its image is made, each class of instructions costs one
-- cycle, and `main` is its one root.
use Rattle.std.specs.Prelude.{◌≡◌, ℕ, ◌⊎◌, List, [], ◌∷◌, ◌++◌, length, replicate, Option, Some, None, Result, Ok, Err, codes, decimal, slice_get}
use Rattle.std.specs.List.{filter}
use Rattle.std.specs.Map.{keys_of}
use Rattle.std.specs.Option.{option_and_then}
use Rattle.abs_state.specs.declared.key.Key.{Key}
use Rattle.assert_bind.specs.Binding.{binding}
use Rattle.assert_bind.specs.declared.body.BoundAssertion.{BoundAssertion}
use Rattle.assert_lang.specs.declared.assertion.Assertion.{Assertion}
use Rattle.assert_lang.specs.declared.assertion.Body.TheVariants.{Root}
use Rattle.assert_lang.specs.declared.spot.Spot.TheVariants.{Name}
use Rattle.bound_task.specs.Graph.{IsGraphOf}
use Rattle.bound_task.specs.Outcomes.{AreOutcomesOf, HoldOfRunsOf}
use Rattle.bound_task.specs.Problem.{IsProblemOf}
use Rattle.bound_task.specs.declared.problem.Problem.{Problem}
use Rattle.bt_image.specs.Refusal.{first_refusal}
use Rattle.bt_image.specs.declared.refusal.ImageRefusal.{ImageRefusal}
use Rattle.gen_image.specs.File.{file_of}
use Rattle.transfer_rules.specs.Give.{is_counted}
use Rattle.transfer_rules.specs.declared.fact.Fact.{Fact}
use Rattle.wcet_report.specs.Report.{root_bound}
use Rattle.wcet_report.specs.declared.outcome.Outcomes.{Outcomes}
use Rattle.bt_command.specs.Call.{Call, Reading, IsWritten, IsCutShort, RoseForSink}
use Rattle.bt_command.specs.Order.{Stated, ComeTo, of_bound}
use Rattle.bt_command.specs.Program.{RefusesProgram, IsWithinLimits}
use Rattle.bt_command.specs.declared.status.Status.{Status}
use Rattle.bt_command.specs.declared.status.Status.TheVariants.{Bounded, WriteFault, Image, Want}

-- the costs of a table of version 1 in which each class costs one cycle: its 27 classes, and none for the three of version 2
abbrev pub ones : List ℕ
ones = replicate 27 1 ++ replicate 3 0

-- the one assertion: main is a root
abbrev pub root_main : Assertion
root_main = record { line = 1; body = Root (Name (codes "main")) }

-- what an image of which this is the first refusal states with these costs and this root, or its first refusal
abbrev pub of_made : List ℕ → Option ImageRefusal → Result Stated Status
of_made image (Some refusal) = Err (Image refusal)
of_made image None = of_bound ones (binding image (root_main ∷ []))

-- what the image of n functions states, or its first refusal
abbrev pub generated : ℕ → Result Stated Status
generated n = of_made (file_of n) (first_refusal (file_of n))

-- the problem of the image of n functions
pub record IsGenProblem (n : ℕ) (p : Problem) : Type 0 where
  pub those : List BoundAssertion
  pub stated : generated n ≡ Ok (record { costs = ones; those = those })
  pub problem : IsProblemOf (file_of n) ones those p

-- how many program points there are among keys
abbrev pub node_count : List Key → ℕ
node_count keys = length (filter is_counted keys)

-- the bound of the first root, where it has one
abbrev pub first_bound : Outcomes → Option ℕ
first_bound outcomes = option_and_then (root_bound outcomes.list) (slice_get outcomes.roots 0)

-- a bound in decimal, or a hyphen where there is none
abbrev pub bound_text : Option ℕ → List ℕ
bound_text (Some bound) = decimal bound
bound_text None = codes "-"

-- the line of n functions, by so many program points, the contexts that are needed, and the bound of the root
unfoldable pub gen_line : ℕ → ℕ → ℕ → Option ℕ → List ℕ
gen_line n nodes contexts bound =
    codes "gen " ++ decimal n ++ codes " nodes " ++ decimal nodes ++ codes " contexts " ++ decimal contexts ++ codes " bound " ++ bound_text bound
    ++ codes "\n"

-- The text is the line of the image of n functions: it counts the program points of its due graph and the contexts that are needed,
-- which have one outcome each, and gives the bound of main. What the outcomes say holds of the runs of the image.
pub record IsGenText (n : ℕ) (text : List ℕ) : Type 0 where
  pub those : List BoundAssertion
  pub stated : generated n ≡ Ok (record { costs = ones; those = those })
  pub facts : List (Key × Fact)
  pub graph : IsGraphOf (file_of n) ones those facts
  pub outcomes : Outcomes
  pub are : AreOutcomesOf (file_of n) ones those outcomes
  pub hold : HoldOfRunsOf (file_of n) ones those outcomes
  pub is : text ≡ gen_line n (node_count (keys_of facts)) (length outcomes.list) (first_bound outcomes)

-- why the image of n functions has no line: memory is wanting, or that is what it comes to
abbrev pub RefusesGen : ℕ → Status → Type 0
RefusesGen n status = (status ≡ Want) ⊎ ComeTo (RefusesProgram (file_of n)) (generated n) status

-- the table of statuses
abbrev pub GenSays : ℕ → Call → Status → Type 0
GenSays n call Bounded = IsWritten call (IsGenText n)
GenSays n call (WriteFault written) = IsCutShort call (IsGenText n) written
GenSays n call status = RefusesGen n status

-- the status that a program comes to
abbrev pub IsGenStatus : List ℕ → List ℕ → List BoundAssertion → Status → Type 0
IsGenStatus image costs those Bounded = (outcomes : Outcomes) × AreOutcomesOf image costs those outcomes
IsGenStatus image costs those status = RefusesProgram image costs those status

-- where no fault of the sink rises, the command comes to what the image does, but for want of memory
abbrev pub GenIsExact : ℕ → Call → Status → Type 0
GenIsExact n call status = (RoseForSink call → ⊥) → (status ≡ Want) ⊎ ComeTo (IsGenStatus (file_of n)) (generated n) status

-- where the image and its root are accepted, their program is within the limits and no fault rises, the whole line is written, but for
-- want of memory
abbrev pub GenIsWhole : ℕ → Call → Status → Type 0
GenIsWhole n call status =
    (those : List BoundAssertion) → generated n ≡ Ok (record { costs = ones; those = those }) → IsWithinLimits (file_of n) ones those
    → (RoseForSink call → ⊥) → (status ≡ Bounded) ⊎ (status ≡ Want)

-- the call between these states of a sink, of which these are the meanings, whatever is read
abbrev pub writing_of : {K : Type 0} → Reading → (K → Option (List ℕ)) → (K → ℕ) → K → K → Call
writing_of read written sink_faults sink sink_after = record {
  read = read;
  written = written sink;
  written_after = written sink_after;
  sink_faults = sink_faults sink;
  sink_faults_after = sink_faults sink_after;
}
