use Rattle.transfer_acts.proofs.Agreeing.{acts_agree_with_frames}
use Rattle.transfer_acts.proofs.laws.acts_agree_with_frames.Goals as goal

pub returns : goal.returns
returns c = acts_agree_with_frames
