use Rattle.graph_text.proofs.KeyTexts.{graph_text_has_places}
use Rattle.graph_text.proofs.laws.graph_text_has_places.Goals as goal

pub returns : goal.returns
returns c = graph_text_has_places
