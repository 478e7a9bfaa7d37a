use Rattle.transfer_rules.proofs.Closing.{closed_leads_on}
use Rattle.transfer_rules.proofs.laws.closed_leads_on.Goals as goal

pub returns : goal.returns
returns c = closed_leads_on
