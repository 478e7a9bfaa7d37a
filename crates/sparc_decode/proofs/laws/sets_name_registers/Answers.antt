use Rattle.sparc_decode.proofs.RegisterSets.{has_exactly, set_is_word}
use Rattle.sparc_decode.proofs.laws.sets_name_registers.Goals as goal

pub returns-clause-exact : goal.returns-clause-exact
returns-clause-exact c = has_exactly

pub returns-clause-word : goal.returns-clause-word
returns-clause-word c = set_is_word
