use Rattle.transfer_rules.proofs.Giving.{places_have_edges}
use Rattle.transfer_rules.proofs.laws.places_have_edges.Goals as goal

pub returns : goal.returns
returns c = places_have_edges
