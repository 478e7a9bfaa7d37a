use Rattle.state_covers.proofs.CoverLemmas.{entries_say}
use Rattle.state_covers.proofs.laws.entries_say.Goals as goal

pub returns : goal.returns
returns c = entries_say
