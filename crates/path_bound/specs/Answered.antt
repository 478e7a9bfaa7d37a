-- A pass over all nodes, and the walk or the node that it gives.
use Rattle.std.specs.Prelude.{◌≡◌, ℕ, ◌+◌, ◌<◌, ◌≤◌, Bool, List, None, slice_index, Option, Vec}
use Rattle.std.specs.declared.alloc.Global.{Global}
use Rattle.graph_laws.specs.Loops.{Loops}
use Rattle.loop_nest.specs.declared.natural_loop.Loop.{Loop}
use Rattle.path_bound.specs.declared.answering.Best.{Best}
use Rattle.path_bound.specs.declared.choosing.Label.{Label}
use Rattle.path_bound.specs.declared.refusal.PathRefusal.{PathRefusal}
use Rattle.path_bound.specs.declared.refusal.PathRefusal.TheVariants as refusal
use Rattle.path_bound.specs.declared.stepping.Step.{Step}
use Rattle.path_bound.specs.Blamed.{IsNamedBy}
use Rattle.path_bound.specs.Capped.{limit, cap}
use Rattle.path_bound.specs.Choosing.{label_at, cost_of}
use Rattle.path_bound.specs.Turning.{ArePassed, IsFollowed}

-- the labels of a pass over all nodes say a cost from the entry on
pub record IsPriced (order node : List ℕ) (steps : List (Vec Step Global)) (laps : List ℕ) (start entry cost : ℕ) : Type 0 where
  pub labels : List (Option Label)
  pub passed : ArePassed order None node steps laps labels
  pub told : cost ≡ cap (start + cap (slice_index laps entry + cost_of (label_at labels entry)))

-- it can be told, and they lead along a walk
pub record IsBest (order node : List ℕ) (steps : List (Vec Step Global)) (laps : List ℕ) (start entry : ℕ) (best : Best) : Type 0 where
  pub priced : IsPriced order node steps laps start entry best.cost
  pub fits : best.cost < limit
  pub followed : IsFollowed priced.labels entry best.walk.items

-- it can't, and a node is named
pub record IsOver (edge : ℕ → ℕ → Bool) (loops : List Loop) (all : Loops) (order node : List ℕ)
    (steps : List (Vec Step Global)) (laps : List ℕ) (start entry named : ℕ) : Type 0 where
  pub cost : ℕ
  pub priced : IsPriced order node steps laps start entry cost
  pub over : limit ≤ cost
  pub by : IsNamedBy edge loops all entry node steps laps named

abbrev pub IsOverOr : (ℕ → ℕ → Bool) → List Loop → Loops → List ℕ → List ℕ → List (Vec Step Global) → List ℕ → ℕ → ℕ → PathRefusal → Type 0
IsOverOr edge loops all order node steps laps start entry (refusal.TooLarge named) = IsOver edge loops all order node steps laps start entry named
IsOverOr edge loops all order node steps laps start entry refusal.Want = Unit {0}
