use Rattle.transfer_rules.proofs.Giving.{branches_lead_to_exits}
use Rattle.transfer_rules.proofs.laws.branches_lead_to_exits.Goals as goal

pub returns : goal.returns
returns c = branches_lead_to_exits
