-- The words of a value that are in a region, and those that two values share.
use Rattle.value_lattice.specs.Value.{MayHave}
use Rattle.std.specs.Prelude.{ℕ}
use Rattle.value_lattice.specs.declared.value.Value.{Value}
use Rattle.value_refine.specs.Comparison.{IsReached}
use Rattle.value_refine.specs.Region.{IsInRegion}
use Rattle.value_refine.specs.declared.comparison.Comparison.{Comparison}
use Rattle.value_refine.specs.declared.region.Region.{Region}

pub record IsRestricted (v : Value) (r : Region) (w : ℕ) : Type 0 where
  pub has : MayHave v w
  pub within : IsInRegion r w

pub record IsShared (a b : Value) (w : ℕ) : Type 0 where
  pub left : MayHave a w
  pub right : MayHave b w

-- a word of the left side that compares so with some word of the right side
pub record IsCompared (c : Comparison) (left right : Value) (w : ℕ) : Type 0 where
  pub has : MayHave left w
  pub reached : IsReached c right w
