use Rattle.std.proofs.Common.{arith}
use Rattle.std.proofs.lemmas.Nat.{one_shl}
use Rattle.call_effects.proofs.MaskLemmas.{mask-with}
use Rattle.call_effects.proofs.mask.Mask.with.Goals as goal

pub invariant_of-result : goal.invariant_of-result
invariant_of-result c = rw (one_shl c.args.c 64 (omega arith)) (mask-with _ _ c.self.invariant c.requires.above c.requires.below)

pub returns-clause-mask : goal.returns-clause-mask
returns-clause-mask c = rw (one_shl c.args.c 64 (omega arith)) (mask-with _ _ c.self.invariant c.requires.above c.requires.below)
