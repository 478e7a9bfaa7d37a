use Rattle.std.proofs.Common.{◌≡◌, ◌==◌, ◌||◌, ◌<◌, ℕ, false, length, take, get_or}
use Rattle.bt_base.specs.Graph.{has, is_edge}
use Rattle.counter_bound.proofs.placing.add_row.Given as goal

-- the successors gone through have their edges
abbrev pub invariant-loop-next : goal.invariant-loop-next
invariant-loop-next l = record {
  count : length l.small ≡ length l.initial.small;
  kept : (i j : ℕ) → (i == l.place) ≡ false → is_edge l.small i j ≡ is_edge l.initial.small i j;
  row : (j : ℕ) → j < length l.body → is_edge l.small l.place j ≡ (is_edge l.initial.small l.place j || has (take l.next-index l.next-items) (get_or l.body j 0));
}
