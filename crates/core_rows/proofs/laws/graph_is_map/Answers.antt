use Rattle.std.proofs.Common.{◌∷◌, []}
use Rattle.core_rows.proofs.laws.graph_is_map.Goals as goal

pub returns : goal.returns
returns c = λ v keep fixed s sound graph. c.due_is_least.ensures.least ((0, v) ∷ []) keep fixed s sound graph
