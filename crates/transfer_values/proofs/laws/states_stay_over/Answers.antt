use Rattle.transfer_values.proofs.LawLemmas.{states_stay_over}
use Rattle.transfer_values.proofs.laws.states_stay_over.Goals as goal

pub returns : goal.returns
returns c = states_stay_over
