use Rattle.abs_state.proofs.KeyLemmas.{keys_are_ordered}
use Rattle.abs_state.proofs.laws.keys_are_ordered.Goals as goal

pub returns : goal.returns
returns c = keys_are_ordered
