use Rattle.graph_laws.proofs.Attained.{chosen_greatest}
use Rattle.graph_laws.proofs.label_laws.chosen_labels_are_greatest.Goals as goal

pub returns : goal.returns
returns c = chosen_greatest
