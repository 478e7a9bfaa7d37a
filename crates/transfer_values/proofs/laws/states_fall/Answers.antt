use Rattle.transfer_values.proofs.LawLemmas.{states_fall}
use Rattle.transfer_values.proofs.laws.states_fall.Goals as goal

pub returns : goal.returns
returns c = states_fall
