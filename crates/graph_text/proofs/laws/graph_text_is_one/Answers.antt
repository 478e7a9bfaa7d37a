use Rattle.graph_text.proofs.KeyTexts.{graph_text_is_one}
use Rattle.graph_text.proofs.laws.graph_text_is_one.Goals as goal

pub returns : goal.returns
returns c = graph_text_is_one
