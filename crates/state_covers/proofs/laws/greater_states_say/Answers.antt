use Rattle.state_covers.proofs.CoverLemmas.{greater_states_say}
use Rattle.state_covers.proofs.laws.greater_states_say.Goals as goal

pub returns : goal.returns
returns c = greater_states_say
