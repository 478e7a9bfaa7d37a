use Rattle.graph_laws.proofs.WorkedCosts.{two_has_labels}
use Rattle.graph_laws.proofs.worked_graphs.loop_of_two_has_labels.Goals as goal

pub returns : goal.returns
returns c = two_has_labels
