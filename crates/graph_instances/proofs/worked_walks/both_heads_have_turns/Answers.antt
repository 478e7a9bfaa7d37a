use Rattle.graph_instances.proofs.WorkedWalks.{both_turn}
use Rattle.graph_instances.proofs.worked_walks.both_heads_have_turns.Goals as goal

pub returns : goal.returns
returns c = both_turn
