use Rattle.graph_laws.proofs.Attained.{own_greatest}
use Rattle.graph_laws.proofs.label_laws.own_labels_are_greatest.Goals as goal

pub returns : goal.returns
returns c = own_greatest
