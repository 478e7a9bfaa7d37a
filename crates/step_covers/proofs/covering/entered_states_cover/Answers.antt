use Rattle.step_covers.proofs.CoveredLemmas.{entered_cover}
use Rattle.step_covers.proofs.covering.entered_states_cover.Goals as goal

pub returns : goal.returns
returns c = entered_cover
