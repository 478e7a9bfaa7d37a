use Rattle.state_covers.proofs.CoverLemmas.{machines_have_contents}
use Rattle.state_covers.proofs.laws.machines_have_contents.Goals as goal

pub returns : goal.returns
returns c = machines_have_contents
