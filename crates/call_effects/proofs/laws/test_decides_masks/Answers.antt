use Rattle.call_effects.proofs.MaskLemmas.{test_decides_masks}
use Rattle.call_effects.proofs.laws.test_decides_masks.Goals as goal

pub returns : goal.returns
returns c = test_decides_masks
