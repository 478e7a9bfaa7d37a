-- Facts about due graphs of programs.
use Rattle.std.specs.Prelude.{◌≡◌, ℕ, List}
use Rattle.abs_state.specs.declared.key.Key.{Key}
use Rattle.assert_bind.specs.declared.body.BoundAssertion.{BoundAssertion}
use Rattle.closed_steps.specs.Graph.{IsBound}
use Rattle.transfer_rules.specs.declared.fact.Fact.{Fact}
use Rattle.wcet_report.specs.declared.outcome.Outcomes.{Outcomes}
use Rattle.bound_task.specs.Graph.{IsGraphOf, IsTooBigFor}
use Rattle.bound_task.specs.Outcomes.{AreOutcomesOf, AreTooManyFor, HoldOfRunsOf, IsFirstUnmatchedOf}
use Rattle.bound_task.specs.Text.{IsGraphTextOf}

-- a program has one due graph
abbrev pub GraphIsOne : Type 0
GraphIsOne = (image costs : List ℕ) (those : List BoundAssertion) (facts others : List (Key × Fact)) → IsGraphOf image costs those facts
    → IsGraphOf image costs those others → facts ≡ others

-- and one text of it
abbrev pub GraphTextIsOneOf : Type 0
GraphTextIsOneOf = (image costs : List ℕ) (those : List BoundAssertion) (one other : List ℕ) → IsGraphTextOf image costs those one
    → IsGraphTextOf image costs those other → one ≡ other

-- where each closed state has more program points than the limit there is no due graph within it
abbrev pub TooBigHasNoGraph : Type 0
TooBigHasNoGraph = (image costs : List ℕ) (those : List BoundAssertion) (facts : List (Key × Fact)) → IsTooBigFor image costs those
    → IsGraphOf image costs those facts → ⊥

-- outcomes of a program hold of its runs, where its assertions are bound to its image
abbrev pub OutcomesHoldOfRuns : Type 0
OutcomesHoldOfRuns = (image costs : List ℕ) (those : List BoundAssertion) (outcomes : Outcomes) → IsBound image those
    → AreOutcomesOf image costs those outcomes → HoldOfRunsOf image costs those outcomes

-- where there are outcomes each asserted loop is matched
abbrev pub OutcomesAreMatched : Type 0
OutcomesAreMatched = (image costs : List ℕ) (those : List BoundAssertion) (outcomes : Outcomes) (line : ℕ) → AreOutcomesOf image costs those outcomes
    → IsFirstUnmatchedOf image costs those line → ⊥

-- and no more contexts are needed than the limit
abbrev pub OutcomesAreFew : Type 0
OutcomesAreFew = (image costs : List ℕ) (those : List BoundAssertion) (outcomes : Outcomes) (count : ℕ) → AreOutcomesOf image costs those outcomes
    → AreTooManyFor image costs those count → ⊥

-- where too many contexts are told of each asserted loop is matched
abbrev pub TooManyAreMatched : Type 0
TooManyAreMatched = (image costs : List ℕ) (those : List BoundAssertion) (count line : ℕ) → AreTooManyFor image costs those count
    → IsFirstUnmatchedOf image costs those line → ⊥

-- a program has one first line of an asserted loop that isn't matched
abbrev pub FirstUnmatchedIsOne : Type 0
FirstUnmatchedIsOne = (image costs : List ℕ) (those : List BoundAssertion) (line other : ℕ) → IsFirstUnmatchedOf image costs those line
    → IsFirstUnmatchedOf image costs those other → line ≡ other
