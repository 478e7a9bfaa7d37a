use Rattle.transfer_rules.proofs.Giving.{calls_keep_the_rest}
use Rattle.transfer_rules.proofs.laws.calls_keep_the_rest.Goals as goal

pub returns : goal.returns
returns c = calls_keep_the_rest
