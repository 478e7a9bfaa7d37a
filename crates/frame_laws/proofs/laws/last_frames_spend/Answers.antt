use Rattle.frame_laws.proofs.Spending.{last_spend}
use Rattle.frame_laws.proofs.laws.last_frames_spend.Goals as goal

pub returns : goal.returns
returns c = last_spend
