-- What is left of a state where the assertions on registers hold.
use Rattle.std.specs.Prelude.{ℕ, ℤ, ◌-◌, List, [], ◌∷◌, Option, Some, None}
use Rattle.std.specs.List.{range_with_len}
use Rattle.std.specs.Option.{option_and_then}
use Rattle.assert_bind.specs.Binding.{range}
use Rattle.assert_bind.specs.declared.body.BoundAssertion.{BoundAssertion}
use Rattle.call_effects.specs.Cell.{cell_of}
use Rattle.value_lattice.specs.Order.{rank_of}
use Rattle.value_refine.specs.Refinement.{within}
use Rattle.abs_state.specs.State.{State, cell_at}
use Rattle.abs_state.specs.declared.key.Place.{Place}
use Rattle.transfer_values.specs.Test.{left_with}

-- what is left of a state where a cell is in a range, if there is one
abbrev pub narrowed_to : List ℕ → Option (ℤ × ℤ) → ℕ → State → Option State
narrowed_to t None c s = Some s
narrowed_to t (Some (lo, hi)) c s = left_with c s (within t (cell_at s c) (rank_of lo) (rank_of hi))

-- what is left of a state where the assertions on these registers hold, one after the other
abbrev pub narrowed_by : List ℕ → List BoundAssertion → Place → List ℕ → State → Option State
narrowed_by t list p [] s = Some s
narrowed_by t list p (r ∷ rest) s = option_and_then (narrowed_by t list p rest) (narrowed_to t (range list p.pc r) (cell_of p.depth r) s)

-- the same from one register on, to r31
unfoldable pub narrowed_from : List ℕ → List BoundAssertion → Place → ℕ → State → Option State
narrowed_from t list p r s = narrowed_by t list p (range_with_len r (32 - r)) s

-- what is left of a state at a place where the assertions on its registers hold, from r1 to r31 of the window at its depth
unfoldable pub narrowed : List ℕ → List BoundAssertion → Place → State → Option State
narrowed t list p s = narrowed_by t list p (range_with_len 1 31) s
