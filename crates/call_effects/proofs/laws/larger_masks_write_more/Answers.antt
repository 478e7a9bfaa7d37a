use Rattle.call_effects.proofs.CallLemmas.{larger_masks_write_more}
use Rattle.call_effects.proofs.laws.larger_masks_write_more.Goals as goal

pub returns : goal.returns
returns c = larger_masks_write_more
