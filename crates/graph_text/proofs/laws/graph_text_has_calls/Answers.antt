use Rattle.graph_text.proofs.KeyTexts.{graph_text_has_calls}
use Rattle.graph_text.proofs.laws.graph_text_has_calls.Goals as goal

pub returns : goal.returns
returns c = graph_text_has_calls
