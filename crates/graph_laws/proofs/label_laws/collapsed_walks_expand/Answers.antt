use Rattle.graph_laws.proofs.Expanded.{collapsed_expand}
use Rattle.graph_laws.proofs.label_laws.collapsed_walks_expand.Goals as goal

pub returns : goal.returns
returns c = collapsed_expand
