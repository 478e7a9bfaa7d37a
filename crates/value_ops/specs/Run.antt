-- Runs: sets that have all words between their ends.
use Rattle.std.specs.Prelude.{◌≡◌, ℕ, ◌^◌, ◌<◌, ◌↔◌, false, List}
use Rattle.value_lattice.specs.Value.{IsBetween}
use Rattle.value_ops.specs.Operation.{IsPointwise, result_of}
use Rattle.value_ops.specs.Row.{IsFilled}
use Rattle.value_ops.specs.declared.op.Op.{Op}
use Rattle.value_ops.specs.declared.rows.Span.{Span}

-- a word is the result for a word of each of two spans
pub record IsResultBetween (op : Op) (a b : Span) (w : ℕ) : Type 0 where
  pub first : ℕ
  pub second : ℕ
  pub first_fits : first < 2 ^ 32
  pub second_fits : second < 2 ^ 32
  pub left : IsBetween a.low a.high first
  pub right : IsBetween b.low b.high second
  pub is : w ≡ result_of op false first second

-- the results for the words of two spans are all words of a third
pub record IsRunOf (op : Op) (a b s : Span) : Type 0 where
  pub filled : IsFilled s
  pub each : (w : ℕ) → w < 2 ^ 32 → IsBetween s.low s.high w → IsResultBetween op a b w
  pub only : (x y : ℕ) → x < 2 ^ 32 → y < 2 ^ 32 → IsBetween a.low a.high x → IsBetween b.low b.high y → IsBetween s.low s.high (result_of op false x y)

-- the results for the words of two sets are all words of a span
pub record IsPointwiseRun (op : Op) (xs ys : List ℕ) (s : Span) : Type 0 where
  pub filled : IsFilled s
  pub same : (w : ℕ) → w < 2 ^ 32 → IsBetween s.low s.high w ↔ IsPointwise op xs ys w
