use Rattle.transfer_rules.proofs.Giving.{stubs_keep_locals}
use Rattle.transfer_rules.proofs.laws.stubs_keep_locals.Goals as goal

pub returns : goal.returns
returns c = stubs_keep_locals
