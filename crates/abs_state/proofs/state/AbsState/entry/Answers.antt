use Rattle.std.proofs.Common.{◌≡◌, ℕ, ◌<◌, ◌≤◌, map, arith, ap, sym, ◌∙◌, subst}
use Rattle.std.specs.List.{All, range_with_len}
use Rattle.std.proofs.lemmas.List.FromFn.{map-range_with_len_more}
use Rattle.abs_state.proofs.StateLemmas.{entry_is_state, entry_from_loop}
use Rattle.abs_state.proofs.WriteLemmas.{entry_all}
use Rattle.abs_state.specs.State.{State, IsState, entry_cell, entry_state}
use Rattle.value_lattice.specs.Value.{IsOver}
use Rattle.abs_state.proofs.state.AbsState.entry.Goals as goal

pub loop-c-preserved : goal.loop-c-preserved
loop-c-preserved c = rw (
  map-range_with_len_more entry_cell 0 c.loop-c.c c.loop-c.c
      (omega arith),
  ← c.loop-c.invariant,
  ← c.in_ok-entry_cell.ensures,
) c.in_ok-push.ensures.items

pub invariant_of-result : goal.invariant_of-result
invariant_of-result c = subst IsState (sym (entry_from_loop _ _ c.loop-c.invariant (omega arith))) entry_is_state

pub returns-clause-value : goal.returns-clause-value
returns-clause-value c = entry_from_loop _ _ c.loop-c.invariant (omega arith)

pub returns-clause-state : goal.returns-clause-state
returns-clause-state c = subst IsState (sym (entry_from_loop _ _ c.loop-c.invariant (omega arith))) entry_is_state

pub returns-clause-over : goal.returns-clause-over
returns-clause-over c = λ t is. subst (λ (s : State). All (IsOver t) s.cells) (sym (entry_from_loop _ _ c.loop-c.invariant (omega arith))) (entry_all t is)
