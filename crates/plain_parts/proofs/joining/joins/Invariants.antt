use Rattle.std.proofs.Common.{◌≡◌, ◌<◌, ℕ, All, None, drop, get_or, length}
use Rattle.abs_state.specs.Key.{compare}
use Rattle.flow_system.specs.Facts.{fact_at}
use Rattle.plain_parts.proofs.joining.joins.Given as goal
use Rattle.plain_parts.specs.Joined.{IsGivenOrNone, entry_at, given_to, join_all}

-- what is joined so far, with what is still to be joined
abbrev pub invariant-loop-key : goal.invariant-loop-key
invariant-loop-key l = record {
  count : length l.table.items ≡ length l.subs;
  all : All (IsGivenOrNone l.t) l.table.items;
  each : (n : ℕ) → n < length l.subs
      → join_all l.t (entry_at l.table.items n) (given_to (fact_at compare l.facts) (get_or l.subs n 0) (drop l.key-index l.keys))
      ≡ join_all l.t None (given_to (fact_at compare l.facts) (get_or l.subs n 0) l.keys);
}
