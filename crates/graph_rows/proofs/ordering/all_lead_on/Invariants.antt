use Rattle.std.proofs.Common.{◌<◌, ℕ}
use Rattle.bt_base.specs.Graph.{is_edge}
use Rattle.graph_rows.specs.Leading.{LeadsOn}
use Rattle.graph_rows.proofs.ordering.all_lead_on.Given as goal

-- the edges from the nodes gone through lead on
abbrev pub invariant-loop-node : goal.invariant-loop-node
invariant-loop-node l = (n : ℕ) → n < l.node → LeadsOn (is_edge l.graph) n
