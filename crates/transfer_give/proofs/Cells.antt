-- Past its last cell a state is any word, and so may be the return address.
use Rattle.std.proofs.Common.{◌≡◌, ℕ, ◌≤◌, true, length, refl, leb, arith}
use Rattle.abs_state.specs.State.{State, cell_at}
use Rattle.value_lattice.specs.Least.{top}
use Rattle.value_lattice.specs.Test.{is_at_most, is_value}
use Rattle.value_lattice.specs.declared.value.Value.TheVariants.{Ret}
use Rattle.std.proofs.lemmas.Grind.{common_steps}

ret_is_below : is_at_most Ret top ≡ true
unfolding is_at_most is_value
ret_is_below = refl

past : (s : State) (c : ℕ) → length s.cells ≡ 48 → 48 ≤ c → cell_at s c ≡ top
past s c size above = grind (arith, common_steps)

-- past the cells any word may stand
pub may_past : (s : State) (c : ℕ) → length s.cells ≡ 48 → 48 ≤ c → leb 48 c ≡ is_at_most Ret (cell_at s c)
may_past s c size above = rw (past s c size above) (rw ret_is_below (grind arith))
