use Rattle.assert_bind.proofs.BoundLemmas.{refusals_first}
use Rattle.assert_bind.proofs.laws.refusals_are_first.Goals as goal

pub returns : goal.returns
returns c = refusals_first
