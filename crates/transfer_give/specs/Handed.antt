-- What a call hands on, register by register.
use Rattle.std.specs.Prelude.{ℕ, not, List, [], ◌∷◌, ◌++◌, map, Option}
use Rattle.abs_state.specs.State.{State, cell_at}
use Rattle.abs_state.specs.declared.key.Key.TheVariants as key
use Rattle.abs_state.specs.declared.key.Next.TheVariants.{Into}
use Rattle.abs_state.specs.declared.key.Place.{Place}
use Rattle.call_effects.specs.Cell.{cell_of}
use Rattle.call_effects.specs.declared.summary.Summary.{Summary as Effects}
use Rattle.value_lattice.specs.declared.value.Value.{Value}
use Rattle.transfer_rules.specs.Fact.{Piece}
use Rattle.transfer_rules.specs.Family.{Program}
use Rattle.transfer_rules.specs.Give.{arguments, called_effects, entered_with, entry_of, given_if, handed, here_to, pieces_of}
use Rattle.transfer_rules.specs.declared.fact.Fact.{Fact}
use Rattle.transfer_rules.specs.declared.fact.Fact.TheVariants as fact

-- what a call at a depth hands on in these registers
abbrev pub handed_in : List ℕ → ℕ → State → List Value
handed_in registers depth s = map (λ r. handed (cell_at s (cell_of depth r))) registers

-- the arguments of a call at a depth
unfoldable pub handed_on : ℕ → State → Fact
handed_on depth s = fact.Args (arguments depth s)

-- the state at the entry of the subprogram that is called
unfoldable pub entered_from : ℕ → State → Fact
entered_from depth s = fact.State (entered_with (arguments depth s))

-- the pieces of the delay instruction of a call to t
abbrev pub call_gives : Program → Place → ℕ → ℕ → Option Effects → State → List Piece
call_gives m p t depth callee s =
    ((key.Call p t, handed_on depth s) ∷ pieces_of callee (called_effects p depth))
    ++ (here_to (Into t) p depth callee s ++ given_if (not (m.is_stub t)) ((key.Node (entry_of t), entered_from depth s) ∷ []))
