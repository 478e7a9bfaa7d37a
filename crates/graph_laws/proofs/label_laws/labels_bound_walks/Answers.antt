use Rattle.graph_laws.proofs.Costs.{labels_bound}
use Rattle.graph_laws.proofs.label_laws.labels_bound_walks.Goals as goal

pub returns : goal.returns
returns c = labels_bound
