use Rattle.call_effects.proofs.CallLemmas.{masks_stay_masks}
use Rattle.call_effects.proofs.laws.masks_stay_masks.Goals as goal

pub returns : goal.returns
returns c = masks_stay_masks
