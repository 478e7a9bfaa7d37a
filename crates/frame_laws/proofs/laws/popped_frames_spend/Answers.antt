use Rattle.frame_laws.proofs.Spending.{popped_spend}
use Rattle.frame_laws.proofs.laws.popped_frames_spend.Goals as goal

pub returns : goal.returns
returns c = popped_spend
