-- What the cells of a state over thresholds are.
use Rattle.std.proofs.Common.{◌≡◌, ℕ, ◌&&◌, Bool, true, false, List, length, All, refl, eqb}
use Rattle.std.specs.List.{list_all}
use Rattle.abs_state.proofs.CellsLemmas.{over_all}
use Rattle.abs_state.specs.State.{State, cell_at, is_state_over, may_speak}
use Rattle.value_lattice.specs.Test.{is_over}
use Rattle.value_lattice.specs.Value.{IsOver, is_zero}

both : (a b : Bool) → (a && b) ≡ true → (a ≡ true) × (b ≡ true)
both true true h = (refl, refl)
both true false h = cc
both false b h = cc

-- the cells of a state over thresholds are over them
pub cells_over : (t : List ℕ) (s : State) → is_state_over t s ≡ true → All (IsOver t) s.cells
cells_over t s over =
    let others = is_zero (cell_at s 0) && may_speak s.cells s.flags in
    let rest = both (eqb (length s.cells) 48) (list_all (is_over t) s.cells && others) over in
    let first = both (list_all (is_over t) s.cells) others rest.1 in
    (over_all t s.cells).0 first.0
