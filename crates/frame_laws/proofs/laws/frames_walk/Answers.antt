use Rattle.frame_laws.proofs.Walking.{frames_on_walks}
use Rattle.frame_laws.proofs.laws.frames_walk.Goals as goal

pub returns : goal.returns
returns c = frames_on_walks
