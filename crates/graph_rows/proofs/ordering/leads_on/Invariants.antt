use Rattle.std.proofs.Common.{◌≡◌, ◌⊎◌, ◌<◌, ℕ, get_or}
use Rattle.graph_rows.proofs.ordering.leads_on.Given as goal

-- the edges gone through lead on
abbrev pub invariant-loop-next : goal.invariant-loop-next
invariant-loop-next l = (k : ℕ) → k < l.next-index → (get_or l.next-items k 0 ≡ 0) ⊎ (l.node < get_or l.next-items k 0)
