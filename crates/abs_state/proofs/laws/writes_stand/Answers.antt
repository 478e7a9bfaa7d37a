use Rattle.abs_state.proofs.WriteLemmas.{writes_stand}
use Rattle.abs_state.proofs.laws.writes_stand.Goals as goal

pub returns : goal.returns
returns c = writes_stand
