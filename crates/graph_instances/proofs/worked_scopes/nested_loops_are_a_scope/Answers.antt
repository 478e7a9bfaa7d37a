use Rattle.graph_instances.proofs.WorkedScopes.{nested_scope}
use Rattle.graph_instances.proofs.worked_scopes.nested_loops_are_a_scope.Goals as goal

pub returns : goal.returns
returns c = nested_scope
