use Rattle.abs_state.proofs.WriteLemmas.{writes_keep_order}
use Rattle.abs_state.proofs.laws.writes_keep_order.Goals as goal

pub returns : goal.returns
returns c = writes_keep_order
