use Rattle.graph_laws.proofs.Costs.{own_bounds}
use Rattle.graph_laws.proofs.label_laws.own_labels_bound_walks.Goals as goal

pub returns : goal.returns
returns c = own_bounds
