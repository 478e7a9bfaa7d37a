-- Which subprograms return.
use Rattle.std.specs.Prelude.{ℕ, List, [], ◌∷◌, Option, Some, ◌||◌, if◌then◌else◌}
use Rattle.std.specs.List.{flat_map}
use Rattle.std.specs.Map.{keys_of}
use Rattle.abs_state.specs.Key.{compare}
use Rattle.abs_state.specs.declared.key.Key.{Key}
use Rattle.abs_state.specs.declared.key.Key.TheVariants.{Node, Edge, Call, Summary, Gap}
use Rattle.flow_system.specs.Facts.{fact_at}
use Rattle.transfer_rules.specs.declared.fact.Fact.{Fact}
use Rattle.transfer_rules.specs.declared.fact.Fact.TheVariants as fact

-- a subprogram, where what it may do to its caller says that it returns, to either address behind a call
abbrev pub returning_by : ℕ → Option Fact → List ℕ
returning_by sub (Some (fact.Sum effects)) = if effects.returns || effects.skips then sub ∷ [] else []
returning_by sub _ = []

-- the subprogram of a key, where it returns
abbrev pub returning_at : (Key → Option Fact) → Key → List ℕ
returning_at facts (Node place) = []
returning_at facts (Edge from to) = []
returning_at facts (Call from callee) = []
returning_at facts (Summary sub) = returning_by sub (facts (Summary sub))
returning_at facts (Gap sub pc why) = []

-- the subprograms that return by facts
abbrev pub returning_in : List (Key × Fact) → List ℕ
returning_in facts = flat_map (returning_at (fact_at compare facts)) (keys_of facts)
