use Rattle.context_bounds.proofs.Viewed.{contexts_are_viewed}
use Rattle.context_bounds.proofs.laws.contexts_are_viewed.Goals as goal

pub returns : goal.returns
returns c = contexts_are_viewed
