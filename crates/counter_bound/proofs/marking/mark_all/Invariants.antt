use Rattle.std.proofs.Common.{◌≡◌, ◌||◌, ◌<◌, ℕ, length, take, get_or}
use Rattle.bt_base.specs.Graph.{has}
use Rattle.counter_bound.specs.Body.{is_marked}
use Rattle.counter_bound.proofs.marking.mark_all.Given as goal

-- the nodes gone through are marked
abbrev pub invariant-loop-node : goal.invariant-loop-node
invariant-loop-node l = (i : ℕ) → i < length l.body → is_marked l.marks i ≡ (is_marked l.initial.marks i || has (take l.node-index l.nodes) (get_or l.body i 0))
