use Rattle.bt_image.proofs.StandingLemmas.{code_fits}
use Rattle.bt_image.proofs.laws.code_is_in_memory.Goals as goal

pub returns : goal.returns
returns c = code_fits
