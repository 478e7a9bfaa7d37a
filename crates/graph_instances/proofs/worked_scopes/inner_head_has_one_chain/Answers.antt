use Rattle.graph_instances.proofs.WorkedScopes.{inner_chain}
use Rattle.graph_instances.proofs.worked_scopes.inner_head_has_one_chain.Goals as goal

pub returns : goal.returns
returns c = inner_chain
