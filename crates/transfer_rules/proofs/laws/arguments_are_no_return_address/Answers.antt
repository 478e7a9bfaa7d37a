use Rattle.transfer_rules.proofs.Giving.{arguments_are_no_return_address}
use Rattle.transfer_rules.proofs.laws.arguments_are_no_return_address.Goals as goal

pub returns : goal.returns
returns c = arguments_are_no_return_address
