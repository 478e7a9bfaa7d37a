-- The node that is named where the greatest cost is more than can be told.
use Rattle.std.specs.Prelude.{◌≡◌, ◌==◌, ◌&&◌, ℕ, Bool, not, false, List, [], ◌∷◌, slice_get, slice_index_or, Some, Vec, if◌then◌else◌}
use Rattle.std.specs.List.{list_any}
use Rattle.std.specs.declared.alloc.Global.{Global}
use Rattle.graph_laws.specs.Loops.{Loops}
use Rattle.loop_nest.specs.declared.natural_loop.Loop.{Loop}
use Rattle.path_bound.specs.declared.stepping.Step.{Step}
use Rattle.path_bound.specs.Turning.{IsWeighed}

-- whether a node is marked
abbrev pub is_marked : List Bool → ℕ → Bool
is_marked marks n = slice_index_or marks n false

-- whether a loop's head is marked, and no other node of its body
abbrev pub is_innermost_of : (ℕ → Bool) → Loop → Bool
is_innermost_of large one = large one.head && not (list_any (λ n. not (n == one.head) && large n) one.body.items)

-- the first head of such a loop, or another node where there is none
abbrev pub first_of : (ℕ → Bool) → List Loop → ℕ → ℕ
first_of large [] entry = entry
first_of large (one ∷ loops) entry = if is_innermost_of large one then one.head else first_of large loops entry

-- the heads that are marked are those of the loops inside which walks cost more than can be told
pub record AreLarge (edge : ℕ → ℕ → Bool) (loops : List Loop) (all : Loops) (node : List ℕ)
    (steps : List (Vec Step Global)) (laps : List ℕ) (large : ℕ → Bool) : Type 0 where
  pub each : (k : ℕ) (one : Loop) → slice_get loops k ≡ Some one → IsWeighed edge all one node steps laps (large one.head)
  pub others : (n : ℕ) → all.has n ≡ false → large n ≡ false

-- the node that is named, by marks that are so
pub record IsNamedBy (edge : ℕ → ℕ → Bool) (loops : List Loop) (all : Loops) (entry : ℕ) (node : List ℕ)
    (steps : List (Vec Step Global)) (laps : List ℕ) (named : ℕ) : Type 0 where
  pub large : ℕ → Bool
  pub are : AreLarge edge loops all node steps laps large
  pub is : named ≡ first_of large loops entry
