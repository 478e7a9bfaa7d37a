use Rattle.outcome_laws.proofs.Reportable.{outcomes_are_reportable}
use Rattle.outcome_laws.proofs.laws.outcomes_are_reportable.Goals as goal

pub returns : goal.returns
returns c = outcomes_are_reportable
