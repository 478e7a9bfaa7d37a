use Rattle.step_covers.proofs.CoveredLemmas.{assertions_kept}
use Rattle.step_covers.proofs.covering.met_assertions_are_kept.Goals as goal

pub returns : goal.returns
returns c = assertions_kept
