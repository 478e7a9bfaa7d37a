use Rattle.outcome_laws.proofs.Reports.{reports_are_one}
use Rattle.outcome_laws.proofs.laws.reports_are_one.Goals as goal

pub returns : goal.returns
returns c = reports_are_one
