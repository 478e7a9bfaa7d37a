use Rattle.graph_instances.proofs.WorkedScopes.{two_ways_entries}
use Rattle.graph_instances.proofs.worked_scopes.two_ways_are_first_entries.Goals as goal

pub returns : goal.returns
returns c = two_ways_entries
