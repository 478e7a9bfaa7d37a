use Rattle.step_covers.proofs.CoveredLemmas.{aims_resolved}
use Rattle.step_covers.proofs.covering.aims_are_resolved.Goals as goal

pub returns : goal.returns
returns c = aims_resolved
