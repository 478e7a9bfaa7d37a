use Rattle.call_effects.proofs.MaskLemmas.{masks_are_sets}
use Rattle.call_effects.proofs.laws.masks_are_sets.Goals as goal

pub returns : goal.returns
returns c = masks_are_sets
