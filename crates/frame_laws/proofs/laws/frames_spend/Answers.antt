use Rattle.frame_laws.proofs.Spending.{frames_in_bounds}
use Rattle.frame_laws.proofs.laws.frames_spend.Goals as goal

pub returns : goal.returns
returns c = frames_in_bounds
