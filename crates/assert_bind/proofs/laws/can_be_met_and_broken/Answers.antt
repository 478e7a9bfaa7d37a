use Rattle.assert_bind.proofs.WorkedLemmas.{can_be_both}
use Rattle.assert_bind.proofs.laws.can_be_met_and_broken.Goals as goal

pub returns : goal.returns
returns c = can_be_both
