use Rattle.transfer_rules.proofs.System.{rules_are_lawful}
use Rattle.transfer_rules.proofs.laws.rules_are_lawful.Goals as goal

pub returns : goal.returns
returns c = rules_are_lawful
