use Rattle.std.proofs.Common.{◌≡◌, sym, subst}
use Rattle.std.specs.List.{All}
use Rattle.value_lattice.specs.Value.{IsOver}
use Rattle.abs_state.proofs.CellsLemmas.{forgotten_all}
use Rattle.abs_state.proofs.WriteLemmas.{any_over, forget_is_state}
use Rattle.abs_state.specs.State.{State}
use Rattle.abs_state.proofs.state.AbsState.forget.Goals as goal

pub invariant_of-self : goal.invariant_of-self
invariant_of-self c = rw c.forget_cells.ensures (forget_is_state _ _ c.self.invariant)

pub returns-clause-over : goal.returns-clause-over
returns-clause-over c = λ t is all.
    rw c.forget_cells.ensures
    (forgotten_all (IsOver t) c.args.written _ (any_over t is) (subst (λ (s : State). All (IsOver t) s.cells) (sym c.self.view_is) all))
