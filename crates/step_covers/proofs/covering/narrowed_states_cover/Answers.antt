use Rattle.step_covers.proofs.CoveredLemmas.{narrows_cover}
use Rattle.step_covers.proofs.covering.narrowed_states_cover.Goals as goal

pub returns : goal.returns
returns c = narrows_cover
