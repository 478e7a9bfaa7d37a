-- Laws of states.
use Rattle.std.specs.Prelude.{◌≡◌, ℕ, ◌+◌, ◌*◌, ◌<◌, ◌≤◌, Bool, true, false, List, length}
use Rattle.call_effects.specs.Mask.{is_within}
use Rattle.value_lattice.specs.Laws.{AreMore}
use Rattle.value_lattice.specs.Test.{is_over, is_at_most as is_value_at_most}
use Rattle.value_lattice.specs.Thresholds.{IsThresholds}
use Rattle.value_lattice.specs.declared.value.Value.{Value}
use Rattle.abs_state.specs.State.{State, is_state_over, joined, is_at_most, rank, with_cell, with_flags, without, may_speak, entry_state}
use Rattle.abs_state.specs.declared.flags.Flags.{Flags}

-- the order of states is one
pub record StatesAreOrdered : Type 0 where
  pub same : (t : List ℕ) (a : State) → is_state_over t a ≡ true → is_at_most a a ≡ true
  pub onward : (a b c : State) → is_at_most a b ≡ true → is_at_most b c ≡ true → is_at_most a c ≡ true
  pub both : (a b : State) → is_at_most a b ≡ true → is_at_most b a ≡ true → a ≡ b

-- The join of two states is the least that is at least both. So no cell of which its flags speak is the return
-- address: it may stand where the two may.
pub record StatesAreJoined : Type 0 where
  pub stands : (t : List ℕ) (a b : State) → IsThresholds t → is_state_over t a ≡ true → is_state_over t b ≡ true → is_state_over t (joined t a b) ≡ true
  pub first : (t : List ℕ) (a b : State) → IsThresholds t → is_state_over t a ≡ true → is_state_over t b ≡ true → is_at_most a (joined t a b) ≡ true
  pub second : (t : List ℕ) (a b : State) → IsThresholds t → is_state_over t a ≡ true → is_state_over t b ≡ true → is_at_most b (joined t a b) ≡ true
  pub least : (t : List ℕ) (a b c : State) → IsThresholds t → is_state_over t a ≡ true → is_state_over t b ≡ true → is_state_over t c ≡ true
      → is_at_most a c ≡ true → is_at_most b c ≡ true → is_at_most (joined t a b) c ≡ true

-- a rank rises with each step upward, and the thresholds limit it
pub record StatesRise : Type 0 where
  pub rises : (t : List ℕ) (a b : State) → is_state_over t a ≡ true → is_state_over t b ≡ true → is_at_most a b ≡ true → is_at_most b a ≡ false
      → rank t a < rank t b
  pub limit : (t : List ℕ) (a : State) → is_state_over t a ≡ true → rank t a ≤ 48 * (128 + length t) + 1

-- what is written to greater states is greater
pub record WritesKeepOrder : Type 0 where
  pub cell : (a b : State) (c : ℕ) (v u : Value) → is_at_most a b ≡ true → is_value_at_most v u ≡ true → is_at_most (with_cell a c v) (with_cell b c u) ≡ true
  pub forgotten : (t more : List ℕ) (a b : State) (m n : ℕ) → is_state_over more a ≡ true → is_state_over t b ≡ true → is_at_most a b ≡ true
      → is_within m n ≡ true → is_at_most (without a m) (without b n) ≡ true

-- what is written to a state may stand where the state may
pub record WritesStand : Type 0 where
  pub cell : (t : List ℕ) (s : State) (c : ℕ) (v : Value) → is_state_over t s ≡ true → is_over t v ≡ true → is_state_over t (with_cell s c v) ≡ true
  pub flags : (t : List ℕ) (s : State) (f : Flags) → is_state_over t s ≡ true → may_speak s.cells f ≡ true → is_state_over t (with_flags s f) ≡ true
  pub forgotten : (t : List ℕ) (s : State) (mask : ℕ) → IsThresholds t → is_state_over t s ≡ true → is_state_over t (without s mask) ≡ true
  pub entry : (t : List ℕ) → IsThresholds t → is_state_over t entry_state ≡ true
