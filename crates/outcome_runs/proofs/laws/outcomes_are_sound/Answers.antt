use Rattle.outcome_runs.proofs.Sounding.{outcomes_are_sound}
use Rattle.outcome_runs.proofs.laws.outcomes_are_sound.Goals as goal

pub returns : goal.returns
returns c = outcomes_are_sound
