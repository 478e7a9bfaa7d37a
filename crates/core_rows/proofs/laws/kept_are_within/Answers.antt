use Rattle.std.proofs.Common.{arith, nat_le, ◌∷◌, []}
use Rattle.core_rows.proofs.Instances.{kept_handed_on}
use Rattle.core_rows.proofs.laws.kept_are_within.Goals as goal

pub returns : goal.returns
returns c = λ v keep fixed s sound least. c.local_passes.ensures ((0, v) ∷ []) keep fixed s (λ k w. nat_le k c.args.system.now.last) sound least
    (kept_handed_on c.args.system.now.last 0 v keep fixed s (omega arith))
