use Rattle.call_effects.proofs.MaskLemmas.{mask-union}
use Rattle.call_effects.proofs.mask.Mask.join.Goals as goal

pub invariant_of-result : goal.invariant_of-result
invariant_of-result c = mask-union _ _ c.self.invariant c.other.invariant

pub returns-clause-mask : goal.returns-clause-mask
returns-clause-mask c = mask-union _ _ c.self.invariant c.other.invariant
