use Rattle.graph_instances.proofs.WorkedScopes.{outer_scope}
use Rattle.graph_instances.proofs.worked_scopes.outer_body_is_a_scope.Goals as goal

pub returns : goal.returns
returns c = outer_scope
