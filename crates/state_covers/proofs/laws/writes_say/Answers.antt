use Rattle.state_covers.proofs.CoverLemmas.{writes_say}
use Rattle.state_covers.proofs.laws.writes_say.Goals as goal

pub returns : goal.returns
returns c = writes_say
