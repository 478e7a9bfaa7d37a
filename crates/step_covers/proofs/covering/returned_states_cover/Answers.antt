use Rattle.step_covers.proofs.CoveredLemmas.{returned_cover}
use Rattle.step_covers.proofs.covering.returned_states_cover.Goals as goal

pub returns : goal.returns
returns c = returned_cover
