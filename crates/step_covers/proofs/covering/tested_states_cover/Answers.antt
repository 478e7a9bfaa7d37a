use Rattle.step_covers.proofs.CoveredLemmas.{tests_cover}
use Rattle.step_covers.proofs.covering.tested_states_cover.Goals as goal

pub returns : goal.returns
returns c = tests_cover
