use Rattle.report_runs.proofs.Held.{outcomes_hold_of_runs}
use Rattle.report_runs.proofs.laws.outcomes_hold_of_runs.Goals as goal

pub returns : goal.returns
returns c = outcomes_hold_of_runs
