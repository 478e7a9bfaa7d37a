use Rattle.graph_instances.proofs.WorkedScopes.{inner_kept}
use Rattle.graph_instances.proofs.worked_scopes.inner_body_keeps_its_part.Goals as goal

pub returns : goal.returns
returns c = inner_kept
