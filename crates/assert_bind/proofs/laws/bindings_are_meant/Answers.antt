use Rattle.assert_bind.proofs.BoundLemmas.{bindings_meant}
use Rattle.assert_bind.proofs.laws.bindings_are_meant.Goals as goal

pub returns : goal.returns
returns c = bindings_meant
