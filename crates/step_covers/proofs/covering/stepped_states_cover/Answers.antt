use Rattle.step_covers.proofs.CoveredLemmas.{steps_cover}
use Rattle.step_covers.proofs.covering.stepped_states_cover.Goals as goal

pub returns : goal.returns
returns c = steps_cover
