-- Labels of nodes: the least sum found so far of what a walk from a head to the node adds and takes, if one was found. A
-- sum is counted from a base, so that it is a number without a sign.
use Rattle.std.specs.Prelude.{◌==◌, ◌&&◌, ℕ, not, List, Option, Some, None, slice_index_or}
use Rattle.std.specs.Prelude.{min, if◌then◌else◌}
use Rattle.bt_base.specs.Graph.{has}

-- the label of a node
abbrev pub label : List (Option ℕ) → ℕ → Option ℕ
label labels n = slice_index_or labels n None

-- the less of a label and a sum
abbrev pub least_of : Option ℕ → ℕ → Option ℕ
least_of None sum = Some sum
least_of (Some old) sum = Some (min old sum)

-- a node's label, where those of some nodes but the head are lowered to a sum
abbrev pub lowered : List ℕ → ℕ → ℕ → ℕ → Option ℕ → Option ℕ
lowered nodes head sum n old = if has nodes n && not (n == head) then least_of old sum else old
