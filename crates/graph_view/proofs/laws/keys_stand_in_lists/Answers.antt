use Rattle.graph_view.proofs.Stands.{keys_stand_in_lists}
use Rattle.graph_view.proofs.laws.keys_stand_in_lists.Goals as goal

pub returns : goal.returns
returns c = keys_stand_in_lists
