use Rattle.std.proofs.Common.{◌≡◌, ◌||◌, ◌<◌, ℕ, length, take, get_or}
use Rattle.counter_bound.specs.Body.{is_marked, is_inner}
use Rattle.counter_bound.proofs.marking.mark_loops.Given as goal

-- the nodes of the loops are marked whose heads were gone through
abbrev pub invariant-loop-node : goal.invariant-loop-node
invariant-loop-node l = (i : ℕ) → i < length l.body
    → is_marked l.marks i ≡ (is_marked l.initial.marks i || is_inner l.loops l.head (take l.node-index l.body) (get_or l.body i 0))
