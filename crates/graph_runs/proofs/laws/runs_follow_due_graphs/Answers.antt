use Rattle.abs_state.specs.Key.{compare}
use Rattle.closed_steps.proofs.Following.{runs_follow_closed_states}
use Rattle.cycle_table.specs.Class.{has_eight}
use Rattle.flow_system.specs.Facts.{fact_at}
use Rattle.graph_runs.proofs.laws.runs_follow_due_graphs.Goals as goal

pub returns : goal.returns
returns c = λ image costs those facts heads root first rest bound graph run.
    runs_follow_closed_states graph.thresholds image costs those (has_eight costs) (fact_at compare facts) heads root first rest bound graph.lawful
    graph.due.closed run
