use Rattle.std.proofs.Common.{◌≡◌, ◌++◌, ℕ, List, map, drop}
use Rattle.std.specs.List.{All}
use Rattle.abs_state.specs.Key.{compare}
use Rattle.abs_state.specs.declared.key.Place.{Place}
use Rattle.context_bounds.specs.Low.{IsLow}
use Rattle.context_bounds.specs.Setting.{setting_of}
use Rattle.context_bounds.specs.States.{left_at}
use Rattle.context_outcomes.specs.Counting.{change_at}
use Rattle.counter_bound.specs.declared.change.Change.{Change}
use Rattle.flow_system.specs.Facts.{fact_at}
use Rattle.transfer_fns.specs.declared.system.SparcSystem.{SparcSystem}
use Rattle.transfer_rules.specs.Fact.{Piece}
use Rattle.context_bounds.proofs.states.changes_of.Given as goal

abbrev changes : SparcSystem → List ℕ → List Piece → List ℕ → List Piece → List Place → List Change
changes system costs whole t facts nodes = map (λ p. change_at (setting_of system costs whole) p (left_at t system.binding (fact_at compare facts) p)) nodes

abbrev pub invariant-loop-p : goal.invariant-loop-p
invariant-loop-p l =
    All IsLow l.list.items
    × ((costs : List ℕ) → l.list.items ++ changes l.fn.system costs l.fn.whole l.fn.t l.fn.facts (drop l.p-index l.nodes)
    ≡ changes l.fn.system costs l.fn.whole l.fn.t l.fn.facts l.nodes)
