use Rattle.outcome_runs.proofs.Ungapped.{bounded_roots_meet_no_gap}
use Rattle.outcome_runs.proofs.laws.bounded_roots_meet_no_gap.Goals as goal

pub returns : goal.returns
returns c = bounded_roots_meet_no_gap
