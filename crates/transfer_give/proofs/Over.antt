-- What the values of facts over thresholds are.
use Rattle.std.proofs.Common.{◌≡◌, ℕ, ◌&&◌, Bool, true, false, List, length, All, refl, eqb}
use Rattle.std.specs.List.{list_all}
use Rattle.abs_state.proofs.CellsLemmas.{over_all, values_of}
use Rattle.abs_state.specs.State.{State, cell_at, is_state_over, may_speak}
use Rattle.value_lattice.specs.Test.{is_over}
use Rattle.value_lattice.specs.Value.{IsOver, IsValue, is_zero}
use Rattle.value_lattice.specs.declared.value.Value.{Value}
use Rattle.transfer_rules.specs.Fact.{is_fact_over}
use Rattle.transfer_rules.specs.declared.fact.Fact.TheVariants as fact
use borrow.Author.Tests.{eqb-true}

both : (a b : Bool) → (a && b) ≡ true → (a ≡ true) × (b ≡ true)
both true true h = (refl, refl)
both true false h = cc
both false b h = cc

-- the cells of a state over thresholds
pub cells_over : (t : List ℕ) (s : State) → is_state_over t s ≡ true → All (IsOver t) s.cells
cells_over t s over =
    let rest = both (eqb (length s.cells) 48) (list_all (is_over t) s.cells && (is_zero (cell_at s 0) && may_speak s.cells s.flags)) over in
    let first = both (list_all (is_over t) s.cells) (is_zero (cell_at s 0) && may_speak s.cells s.flags) rest.1 in
    (over_all t s.cells).0 first.0

-- the values of arguments over thresholds, and how many they are
pub values_over : (t : List ℕ) (list : List Value) → is_fact_over t (fact.Args list) ≡ true → All (IsOver t) list
values_over t list over = (over_all t list).0 (both (eqb (length list) 13) (list_all (is_over t) list) over).1

-- arguments over thresholds are values
pub values_are : (t : List ℕ) (list : List Value) → is_fact_over t (fact.Args list) ≡ true → All IsValue list
values_are t list over = values_of t list (values_over t list over)

-- arguments over thresholds are thirteen
pub thirteen : (t : List ℕ) (list : List Value) → is_fact_over t (fact.Args list) ≡ true → length list ≡ 13
thirteen t list over = eqb-true (length list) 13 (both (eqb (length list) 13) (list_all (is_over t) list) over).0
