use Rattle.graph_instances.proofs.WorkedScopes.{last_scope}
use Rattle.graph_instances.proofs.worked_scopes.last_node_has_one_scope.Goals as goal

pub returns : goal.returns
returns c = last_scope
