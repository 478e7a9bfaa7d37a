-- What the code finds are the facts of a context.
use Rattle.std.specs.Prelude.{◌≡◌, ℕ, true, List, is_some}
use Rattle.std.specs.Map.{keys_of}
use Rattle.abs_state.specs.Key.{compare}
use Rattle.abs_state.specs.declared.key.Key.TheVariants as key
use Rattle.context_bounds.specs.Copies.{AreCopies}
use Rattle.context_bounds.specs.Own.{own_keys}
use Rattle.context_outcomes.specs.Arguments.{thresholds_with}
use Rattle.context_outcomes.specs.Inside.{AreFacts, starts_with}
use Rattle.context_outcomes.specs.Setting.{Setting, facts_in, rules_with}
use Rattle.flow_system.specs.Facts.{KeysRise}
use Rattle.flow_system.specs.State.{AllFit}
use Rattle.local_facts.specs.Restricted.{IsLeastLocal}
use Rattle.transfer_rules.specs.Fact.{Piece, fits}
use Rattle.transfer_rules.specs.Give.{Facts, entered_with, entry_of}
use Rattle.transfer_rules.specs.declared.fact.Fact.TheVariants as fact
use Rattle.value_lattice.specs.Laws.{AreMore}
use Rattle.value_lattice.specs.declared.value.Value.{Value}

-- the least map over the keys of a subprogram, with what is said of the subprograms that it calls, has the facts of the
-- context with these arguments, where the whole program has the entry, and the arguments are over the context's thresholds
abbrev pub FactsAreKnown : Type 0
FactsAreKnown =
    (S : Setting) (sub : ℕ) (args : List Value) (fixed : List Piece) (facts : Facts) → KeysRise compare S.pieces
    → AllFit (rules_with S S.thresholds) (facts_in S) → AreMore S.thresholds (thresholds_with S args)
    → AreCopies S.pieces fixed (own_keys (keys_of S.pieces) sub) → is_some (facts_in S (key.Node (entry_of sub))) ≡ true
    → fits (thresholds_with S args) (key.Node (entry_of sub)) (fact.State (entered_with args)) ≡ true
    → IsLeastLocal compare (rules_with S (thresholds_with S args)) (starts_with sub args) (own_keys (keys_of S.pieces) sub) fixed facts
    → AreFacts S sub args facts
