use Rattle.std.proofs.Common.{◌≡◌, ◌<◌, ℕ, get_or, vec_len}
use Rattle.graph_view.proofs.details.details_of_all.Given as goal
use Rattle.graph_view.specs.Details.{AreDetails, shown}
use Rattle.graph_view.specs.declared.details.Details.{Details}

-- the subprograms gone through have their details
abbrev pub invariant-loop-sub : goal.invariant-loop-sub
invariant-loop-sub l = record {
  count : vec_len l.all ≡ l.sub-index;
  each : (k : ℕ) (d : Details) → k < l.sub-index → AreDetails (shown l.lists) (get_or l.subs k 0) (get_or l.all.items k d);
}
