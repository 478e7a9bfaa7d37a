-- What the functions have of each run: the words that a step writes, and the address to which a transfer goes.
use Rattle.std.specs.Prelude.{◌≡◌, ℕ, ℤ, ◌%◌, ◌^◌, ◌<◌, Bool, true, false, List, Contains, Some, IfSome}
use Rattle.bt_image.specs.Image.{word, is_code}
use Rattle.assert_bind.specs.Binding.{listed}
use Rattle.assert_bind.specs.declared.body.BoundAssertion.{BoundAssertion}
use Rattle.value_lattice.specs.Order.{rank_of}
use Rattle.value_lattice.specs.Thresholds.{IsThresholds}
use Rattle.value_lattice.specs.Value.{Has, HasSome, IsBetween}
use Rattle.value_ops.specs.Operation.{result_of}
use Rattle.value_ops.specs.declared.op.Op.{Op}
use Rattle.word_ops.specs.Word.{sum_of}
use Rattle.abs_state.specs.State.{State, is_state_over}
use Rattle.abs_state.specs.declared.flags.Right.{Right}
use Rattle.transfer_rules.specs.declared.act.Aim.TheVariants.{Computed}
use Rattle.transfer_rules.specs.declared.act.Candidates.{Candidates}
use Rattle.transfer_rules.specs.declared.step.Source.TheVariants.{Anything, Exactly, Ranged, Applied, Loaded}
use Rattle.transfer_values.specs.Resolve.{resolved}
use Rattle.transfer_values.specs.Source.{word_of, operand, source_value}

-- a state over thresholds, and a word of each of two operands, where the return address is this one
pub record HaveWords (t : List ℕ) (s : State) (left right : Right) (x y ra : ℕ) : Type 0 where
  pub thresholds : IsThresholds t
  pub over : is_state_over t s ≡ true
  pub first : x < 2 ^ 32
  pub second : y < 2 ^ 32
  pub address : ra < 2 ^ 32
  pub has_left : Has (operand s left) x ra
  pub has_right : Has (operand s right) y ra

-- what is written has the word that is written
pub record SourcesCover : Type 0 where
  pub anything : (t image : List ℕ) (s : State) (w ra : ℕ) → w < 2 ^ 32 → HasSome (source_value t image s Anything) w ra
  pub exactly : (t image : List ℕ) (s : State) (n ra : ℕ) → HasSome (source_value t image s (Exactly n)) (word_of n) ra
  pub ranged : (t image : List ℕ) (s : State) (lo hi : ℤ) (w ra : ℕ) → IsThresholds t → w < 2 ^ 32 → ra < 2 ^ 32 → IsBetween (rank_of lo) (rank_of hi) w
      → HasSome (source_value t image s (Ranged lo hi)) w ra
  pub applied : (t image : List ℕ) (s : State) (op : Op) (left right : Right) (carry : Bool) (x y ra : ℕ) → HaveWords t s left right x y ra
      → HasSome (source_value t image s (Applied op left right)) (result_of op carry x y) ra
  pub loaded : (t image : List ℕ) (s : State) (left right : Right) (x y w ra : ℕ) → HaveWords t s left right x y ra → sum_of x y false % 4 ≡ 0 → w < 2 ^ 32
      → ((v : ℕ) → word image (sum_of x y false) ≡ Some v → w ≡ word_of v) → HasSome (source_value t image s (Loaded left right)) w ra

-- where a transfer goes nowhere else, its targets have the address to which it goes: a multiple of 4, and where an assertion
-- lists its targets, one of these that is code
abbrev pub TargetsCover : Type 0
TargetsCover =
    (t image : List ℕ) (list : List BoundAssertion) (pc : ℕ) (s : State) (left right : Right) (kind : Candidates) (x y ra : ℕ) → HaveWords t s left right x y ra
    → sum_of x y false % 4 ≡ 0 → IfSome (listed list pc) (λ to. Contains to (sum_of x y false) × (is_code image (sum_of x y false) ≡ true))
    → (resolved t image list pc (Computed left right kind) s).whole ≡ true
    → Contains (resolved t image list pc (Computed left right kind) s).list (sum_of x y false)
