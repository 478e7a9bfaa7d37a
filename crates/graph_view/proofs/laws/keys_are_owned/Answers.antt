use Rattle.graph_view.proofs.Owners.{keys_are_owned}
use Rattle.graph_view.proofs.laws.keys_are_owned.Goals as goal

pub returns : goal.returns
returns c = keys_are_owned
