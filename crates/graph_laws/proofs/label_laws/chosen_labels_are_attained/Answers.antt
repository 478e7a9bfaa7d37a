use Rattle.graph_laws.proofs.Attained.{chosen_attained}
use Rattle.graph_laws.proofs.label_laws.chosen_labels_are_attained.Goals as goal

pub returns : goal.returns
returns c = chosen_attained
