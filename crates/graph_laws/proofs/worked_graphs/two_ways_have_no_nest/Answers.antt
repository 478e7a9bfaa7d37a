use Rattle.graph_laws.proofs.WorkedNests.{two_ways_none}
use Rattle.graph_laws.proofs.worked_graphs.two_ways_have_no_nest.Goals as goal

pub returns : goal.returns
returns c = two_ways_none
