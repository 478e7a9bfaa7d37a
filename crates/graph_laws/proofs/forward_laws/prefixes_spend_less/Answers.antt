use Rattle.graph_laws.proofs.Forward.{prefixes_less}
use Rattle.graph_laws.proofs.forward_laws.prefixes_spend_less.Goals as goal

pub returns : goal.returns
returns c = prefixes_less
