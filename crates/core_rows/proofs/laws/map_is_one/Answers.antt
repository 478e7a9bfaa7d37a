use Rattle.std.proofs.Common.{◌∷◌, []}
use Rattle.core_rows.proofs.laws.map_is_one.Goals as goal

pub returns : goal.returns
returns c = λ v keep fixed s t one other. c.least_is_one.ensures ((0, v) ∷ []) keep fixed s t one other
