-- What is added where the ends of a value allow it, and what is changed where nothing is added.
use Rattle.std.proofs.Common.{◌≡◌, ◌&&◌, ℕ, ℤ, ◌+ℤ◌, Bool, true, false, Option, Some, None, sym, ap, ◌∙◌}
use Rattle.abs_state.specs.State.{State}
use Rattle.abs_state.specs.declared.key.Place.{Place}
use Rattle.context_outcomes.specs.Counting.{added_to, change_at, change_or, ends_fit, fits, written_at}
use Rattle.context_outcomes.specs.Setting.{Setting}
use Rattle.counter_bound.specs.declared.change.Change.{Change}
use Rattle.counter_bound.specs.declared.change.Change.TheVariants.{Other}
use Rattle.sparc_decode.specs.declared.instruction.Instr.{Instr}
use Rattle.sparc_machine.specs.Straight.{code_instruction}
use Rattle.value_lattice.specs.Ends.{high_end, low_end}
use Rattle.value_lattice.specs.Order.{number_at}
use Rattle.value_lattice.specs.declared.value.Value.{Value}

module _ (v : Value) (k : ℤ) (a : Bool) (tested : a ≡ fits (number_at (low_end v) +ℤ k)) where
  -- where the least fits the greatest decides
  pub high_decides : (b : Bool) → a ≡ true → b ≡ fits (number_at (high_end v) +ℤ k) → b ≡ ends_fit v k
  high_decides b passing also = also ∙ sym (ap (λ (t : Bool). t && fits (number_at (high_end v) +ℤ k)) (sym tested ∙ passing))

  -- else nothing more is asked
  pub low_decides : a ≡ false → a ≡ ends_fit v k
  low_decides failing = failing ∙ sym (ap (λ (t : Bool). t && fits (number_at (high_end v) +ℤ k)) (sym tested ∙ failing))

-- where nothing is left of a state any change of what is written counts
pub none_left : (S : Setting) (p : Place) (state : Option State) (mask : ℕ) → state ≡ None → mask ≡ written_at S p → Other mask ≡ change_at S p state
none_left S p state mask is written = ap Other written ∙ sym (ap (change_at S p) is)

-- so does it where nothing is added
pub none_added : (S : Setting) (p : Place) (state : Option State) (s : State) (i : Option Instr) (added : Option Change) (mask : ℕ) → state ≡ Some s
    → i ≡ code_instruction S.image p.pc → added ≡ added_to s p.depth i p.next → added ≡ None → mask ≡ written_at S p → Other mask ≡ change_at S p state
none_added S p state s i added mask is reads adds none written =
    ap Other written
    ∙ (ap (change_or (written_at S p)) (sym none ∙ (adds ∙ ap (λ (instruction : Option Instr). added_to s p.depth instruction p.next) reads))
    ∙ sym (ap (change_at S p) is))
